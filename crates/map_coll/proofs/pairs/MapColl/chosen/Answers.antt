use Rattle.std.proofs.Common.{sym, ◌∙◌}
use Rattle.map_coll.proofs.ChosenLemmas.{chosen_absent, chosen_found}
use Rattle.map_coll.proofs.pairs.MapColl.chosen.Goals as goal

pub loop-field-preserved-in-Continue-branch-2 : goal.loop-field-preserved-in-Continue-branch-2
loop-field-preserved-in-Continue-branch-2 c =
    let at = sym c.place_of.ensures.place ∙ c.in-Some-place_of.is in
    chosen_found c.loop-field.yielded c.in-Some.field _ c.bytes.ensures.bytes c.args.self.now.pairs _ _ c.loop-field.invariant
    c.in-Some-place_of.place _ _ at c.in-Some-place_of.ensures.within c.in_ok-put_new.ensures.places c.in_ok-put_new.ensures.seen

pub loop-field-preserved : goal.loop-field-preserved
loop-field-preserved c =
    chosen_absent c.loop-field.yielded c.in-Some.field _ c.bytes.ensures.bytes c.args.self.now.pairs _ _ c.loop-field.invariant
    (sym c.place_of.ensures.place ∙ c.in_default.is)
