use Rattle.std.proofs.Common.{ap, ◌∙◌}
use Rattle.arc_core.specs.Places.{brought_to_front}
use Rattle.cache_engine.proofs.ItemPlaces.{HoldsItems-brought_to_front}
use Rattle.cache_engine.proofs.items.Items.mark_used.Goals as goal

pub invariant_of-self : goal.invariant_of-self
invariant_of-self c = (HoldsItems-brought_to_front c.args.key.now c.self.inside.shelf c.touch.new.self c.self.invariant c.touch.ensures.places).holds

pub returns : goal.returns
returns c = (HoldsItems-brought_to_front c.args.key.now c.self.inside.shelf c.touch.new.self c.self.invariant c.touch.ensures.places).are ∙ ap (brought_to_front c.args.key.now) c.self.view_is
