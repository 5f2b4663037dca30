use Rattle.std.proofs.Common.{◌≡◌, ◌+◌, ◌*◌, ◌^◌, ◌<◌, ◌≤◌, length, Some}
use Rattle.std.specs.List.{filter}
use Rattle.arc_core.specs.TreeReading.{is_selected}
use Rattle.btree_scan.proofs.cursors.count_passing.Given as goal

abbrev pub invariant-loop-element : goal.invariant-loop-element
invariant-loop-element g l = record {
  count : l.count + length (filter (is_selected (Some l.filter)) l.cursor.left) ≡ length (filter (is_selected (Some l.filter)) l.initial.cursor.left);
  bound : l.count + length l.cursor.left < 2 ^ 32;
  steps : 8 * l.steps + l.cursor.credit + length l.cursor.left ≤ 8 * l.initial.steps + l.initial.cursor.credit + length l.initial.cursor.left;
}

abbrev pub decreases-loop-element : goal.decreases-loop-element
decreases-loop-element g l = length l.cursor.left
