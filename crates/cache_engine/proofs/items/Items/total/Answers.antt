use Rattle.std.proofs.Common.{ap, ◌∙◌}
use Rattle.arc_core.specs.Item.{size_of}
use Rattle.arc_core.specs.Places.{total_of}
use Rattle.cache_engine.proofs.ItemPlaces.{sum_is}
use Rattle.cache_engine.proofs.items.Items.total.Goals as goal

pub returns-clause-sum : goal.returns-clause-sum
returns-clause-sum c = c.total.ensures.sum ∙ sum_is c.self.inside.shelf c.self.invariant ∙ ap (total_of size_of) c.self.view_is
