use Rattle.std.proofs.Common.{sym, ap, ◌∙◌}
use Rattle.arc_core.specs.Places.{found}
use Rattle.cache_engine.proofs.ItemPlaces.{look_is}
use Rattle.cache_engine.proofs.items.Items.look.Goals as goal

pub returns-clause-item : goal.returns-clause-item
returns-clause-item c = ap (found c.args.key.now) (sym c.self.view_is) ∙ look_is c.args.key.now c.self.inside.shelf c.look.result c.self.invariant c.look.ensures
