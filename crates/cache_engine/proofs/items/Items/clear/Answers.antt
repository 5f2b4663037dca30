use Rattle.std.proofs.Common.{ap, ◌∙◌}
use Rattle.arc_core.specs.Places.{empty_places}
use Rattle.cache_engine.proofs.ItemPlaces.{HoldsItems-empty}
use Rattle.cache_engine.proofs.items.Items.clear.Goals as goal

pub invariant_of-self : goal.invariant_of-self
invariant_of-self c = (HoldsItems-empty c.self.inside.shelf.limit c.self.inside.shelf.share c.clear.new.self c.clear.ensures).holds

pub returns : goal.returns
returns c = (HoldsItems-empty c.self.inside.shelf.limit c.self.inside.shelf.share c.clear.new.self c.clear.ensures).are ∙ ap (λ p. empty_places p.limit p.share) c.self.view_is
