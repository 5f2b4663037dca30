use Rattle.std.proofs.Common.{ap, ◌∙◌}
use Rattle.arc_core.specs.Item.{size_of}
use Rattle.arc_core.specs.Places.{sticky_total_of}
use Rattle.cache_engine.proofs.ItemPlaces.{sticky_sum_is}
use Rattle.cache_engine.proofs.items.Items.sticky_total.Goals as goal

pub returns-clause-sum : goal.returns-clause-sum
returns-clause-sum c = c.sticky_total.ensures.sum ∙ sticky_sum_is c.self.inside.shelf c.self.invariant ∙ ap (sticky_total_of size_of) c.self.view_is
