use Rattle.std.proofs.Common.{arith, refl}
use Rattle.std.proofs.lemmas.Grind.{common_steps}
use Rattle.arc_core.proofs.Pieces.{came_next}
use Rattle.arc_core.proofs.links.SteadyLinkLink.pull.Goals as goal

pub returns-clause-pulled : goal.returns-clause-pulled
returns-clause-pulled c = (came_next c.args.self.now.bytes.items c.args.buf.now c.copy_from_slice.new.self c.args.self.now.at c.min-count.result (omega arith) (omega arith) (omega arith) (grind (arith, common_steps)), refl)
