use Rattle.std.proofs.Common.{length}
use Rattle.btree_scan.proofs.tests.numbers_in.Given as goal

abbrev pub decreases-loop-element : goal.decreases-loop-element
decreases-loop-element g l = length l.cursor.left
