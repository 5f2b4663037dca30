use Rattle.std.proofs.Common.{sym, ◌∙◌}
use Rattle.coll_items.proofs.MapLemmas.{some_more, none_more}
use Rattle.coll_items.proofs.maps.any_named.Goals as goal

pub loop-field-preserved-then-is_some : goal.loop-field-preserved-then-is_some
loop-field-preserved-then-is_some c =
    some_more c.loop-field.yielded c.in-Some.field _ c.args.held.now.pairs c.place_of.result c.bytes.ensures.bytes c.place_of.ensures.place
    (sym c.is_some.ensures ∙ c.if-is_some.true)

pub loop-field-preserved : goal.loop-field-preserved
loop-field-preserved c =
    none_more c.loop-field.yielded c.in-Some.field _ c.args.held.now.pairs c.place_of.result _ c.bytes.ensures.bytes c.place_of.ensures.place
    (sym c.is_some.ensures ∙ c.if-is_some.false) c.loop-field.invariant
