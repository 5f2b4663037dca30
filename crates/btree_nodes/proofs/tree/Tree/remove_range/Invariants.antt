use Rattle.std.proofs.Common.{◌≡◌, ◌-◌, ◌%◌, ◌^◌, ◌≤◌}
use Rattle.std.specs.List.{between, remove_range}
use Rattle.arc_core.specs.TreeContents.{elem_sizes}
use Rattle.btree_nodes.proofs.tree.Tree.remove_range.Given as goal

abbrev pub invariant-loop-left : goal.invariant-loop-left
invariant-loop-left l = record {
  left : l.left ≤ l.high - l.low;
  elements : l.self.elements ≡ remove_range l.fn.self.elements l.low (l.high - l.left);
  size : l.size ≡ elem_sizes (between l.low (l.high - l.left) l.fn.self.elements) % 2 ^ 64;
  spare : l.fn.self.spare ≤ l.self.spare;
}

abbrev pub decreases-loop-left : goal.decreases-loop-left
decreases-loop-left l = l.left
