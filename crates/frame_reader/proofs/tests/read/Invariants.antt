use Rattle.std.proofs.Common.{◌≡◌, None, length}
use Rattle.frame_reader.specs.Progress.{ready_unit}
use Rattle.frame_reader.proofs.tests.read.Given as goal

abbrev pub invariant-loop-rest : goal.invariant-loop-rest
invariant-loop-rest l = ready_unit l.frames ≡ None

abbrev pub decreases-loop-rest : goal.decreases-loop-rest
decreases-loop-rest l = length l.rest
