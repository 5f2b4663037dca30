use Rattle.std.proofs.Common.{length}
use Rattle.btree_scan.proofs.DescentLemmas.{IsPassed}
use Rattle.btree_scan.proofs.leaves.nearest_child.Given as goal

abbrev pub invariant-loop-children : goal.invariant-loop-children
invariant-loop-children l = IsPassed l.down l.initial.way l.way

abbrev pub decreases-loop-children : goal.decreases-loop-children
decreases-loop-children l = length l.way
