use Rattle.std.proofs.Common.{◌≡◌, ◌+◌, length, take}
use Rattle.btree_nodes.specs.Subtree.{all_elements}
use Rattle.btree_nodes.proofs.child.finding.child_at.Given as goal

abbrev pub invariant-loop-index : goal.invariant-loop-index
invariant-loop-index l = l.place ≡ length (all_elements (take l.index l.children)) + l.rest
