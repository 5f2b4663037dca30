use Rattle.std.proofs.Common.{◌≡◌, ◌≤◌, drop, length, take}
use Rattle.std.specs.List.{filter}
use Rattle.arc_core.specs.TreeReading.{is_selected}
use Rattle.tree_coll.proofs.chosen.go.Given as goal

abbrev pub invariant-loop-found : goal.invariant-loop-found
invariant-loop-found g l = record {
  left : l.cursor.left ≡ drop l.passed l.initial.cursor.left;
  within : l.passed ≤ length l.initial.cursor.left;
  found : l.found ≡ length (filter (is_selected l.filter) (take l.passed l.initial.cursor.left));
  most : l.found ≤ l.most;
}

abbrev pub decreases-loop-found : goal.decreases-loop-found
decreases-loop-found g l = length l.cursor.left
