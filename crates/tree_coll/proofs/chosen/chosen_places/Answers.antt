use Rattle.std.proofs.Common.{ap, sym, ◌∙◌}
use Rattle.tree_coll.specs.TreeHolding.{limit_of}
use Rattle.tree_coll.proofs.PartLemmas.{places_down, places_up}
use Rattle.tree_coll.proofs.chosen.chosen_places.Goals as goal

pub returns-then-is_down : goal.returns-then-is_down
returns-then-is_down g c =
    places_down c.args.read.now c.args.tree.now.elements c.places-low.result.0 c.places-low.result.1 c.limit_of-limit.result c.part_of-part.result.before c.part_of-part.result.passed
    c.know_order.ensures c.places-low.ensures.places (c.limit_of-limit.ensures ∙ ap (limit_of c.args.read.now.count) c.count.ensures) c.part_of-part.ensures (sym c.is_down.ensures ∙ c.if-is_down.true)

pub returns-else-is_down : goal.returns-else-is_down
returns-else-is_down g c =
    places_up c.args.read.now c.args.tree.now.elements c.places-low.result.0 c.places-low.result.1 c.limit_of-limit.result c.part_of-part.result.before c.part_of-part.result.passed
    c.know_order.ensures c.places-low.ensures.places (c.limit_of-limit.ensures ∙ ap (limit_of c.args.read.now.count) c.count.ensures) c.part_of-part.ensures (sym c.is_down.ensures ∙ c.if-is_down.false)
