use Rattle.std.proofs.Common.{arith}
use Rattle.std.proofs.lemmas.Grind.{common_steps}
use Rattle.arc_core.proofs.Pieces.{came_next}
use Rattle.arc_core.proofs.memory.SteadySourceSource.pull.Goals as goal

pub returns : goal.returns
returns c = came_next c.args.self.now.bytes.items c.args.buf.now c.copy_from_slice.new.self c.args.self.now.at c.min-count.result (omega arith) (omega arith) (omega arith) (grind (arith, common_steps))
