use Rattle.std.proofs.Common.{◌+◌, ◌*◌, ◌≤◌, length}
use Rattle.btree_scan.proofs.tests.sum_in_258.Given as goal

abbrev pub invariant-loop-element : goal.invariant-loop-element
invariant-loop-element g l = 8 * l.steps + l.cursor.credit + length l.cursor.left ≤ 8 * l.initial.steps + l.initial.cursor.credit + length l.initial.cursor.left

abbrev pub decreases-loop-element : goal.decreases-loop-element
decreases-loop-element g l = length l.cursor.left
