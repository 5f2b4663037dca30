use Rattle.std.proofs.Common.{◌≡◌, length, take}
use Rattle.btree_nodes.specs.Subtree.{all_elements}
use Rattle.btree_nodes.proofs.child.making.count_below.Given as goal

abbrev pub invariant-loop-child : goal.invariant-loop-child
invariant-loop-child l = l.count ≡ length (all_elements (take l.child-index l.children))
