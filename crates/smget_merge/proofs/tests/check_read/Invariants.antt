use Rattle.std.proofs.Common.{◌≡◌, ◌+◌, length}
use Rattle.smget_merge.proofs.tests.check_read.Given as goal

abbrev pub invariant-loop-i : goal.invariant-loop-i
invariant-loop-i g l = l.merge.room + l.i ≡ length l.places
