use Rattle.std.proofs.Common.{◌∙◌}
use Rattle.coll_items.proofs.MapLemmas.{asked_are}
use Rattle.coll_items.proofs.maps.has_some.Goals as goal

pub returns : goal.returns
returns c =
    c.any_named.ensures
    ∙ asked_are c.args.fields.now c.args.held.now.pairs (λ e. c.if-count-eq0.false (c.count.ensures.number ∙ e))
