use Rattle.std.proofs.Common.{ap, ◌∙◌}
use Rattle.arc_core.specs.Places.{without}
use Rattle.cache_engine.proofs.ItemPlaces.{HoldsItems-without}
use Rattle.cache_engine.proofs.items.Items.remove.Goals as goal

pub invariant_of-self : goal.invariant_of-self
invariant_of-self c = (HoldsItems-without c.args.key.now c.self.inside.shelf c.remove.new.self c.self.invariant c.remove.ensures.places).holds

pub returns : goal.returns
returns c = (HoldsItems-without c.args.key.now c.self.inside.shelf c.remove.new.self c.self.invariant c.remove.ensures.places).are ∙ ap (without c.args.key.now) c.self.view_is
