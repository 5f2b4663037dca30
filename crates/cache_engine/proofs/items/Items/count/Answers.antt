use Rattle.std.proofs.Common.{ap, ◌∙◌}
use Rattle.arc_core.specs.Places.{count_of}
use Rattle.cache_engine.proofs.ItemPlaces.{count_is}
use Rattle.cache_engine.proofs.items.Items.count.Goals as goal

pub returns : goal.returns
returns c = c.count.ensures ∙ count_is c.self.inside.shelf c.self.invariant ∙ ap count_of c.self.view_is
