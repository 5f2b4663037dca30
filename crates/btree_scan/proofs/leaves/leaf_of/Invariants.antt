use Rattle.std.proofs.Common.{◌≡◌, ◌+◌}
use Rattle.btree_nodes.specs.PartRules.{elements_of, height_of, IsPart}
use Rattle.btree_scan.proofs.DescentLemmas.{IsBegun}
use Rattle.btree_scan.proofs.leaves.leaf_of.Given as goal

abbrev pub invariant-loop-part : goal.invariant-loop-part
invariant-loop-part g l = record {
  begun : IsBegun l.down l.near l.tree.elements l.tree.height l.way (elements_of l.part) (height_of l.part);
  part : IsPart l.part;
  steps : l.steps + height_of l.part ≡ l.fn.steps + l.tree.height + 1;
}

abbrev pub decreases-loop-part : goal.decreases-loop-part
decreases-loop-part g l = height_of l.part
