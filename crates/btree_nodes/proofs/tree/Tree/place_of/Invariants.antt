use Rattle.std.proofs.Common.{◌≡◌, ◌+◌, ◌≤◌, length}
use Rattle.arc_core.specs.TreeContents.{IsRising, place_of}
use Rattle.btree_nodes.specs.PartRules.{elements_of, height_of, IsPart}
use Rattle.btree_nodes.proofs.tree.Tree.place_of.Given as goal

abbrev pub invariant-loop-part : goal.invariant-loop-part
invariant-loop-part l = record {
  place : place_of l.bkey l.self.elements ≡ l.before + place_of l.bkey (elements_of l.part);
  total : l.total ≡ length (elements_of l.part);
  fits : l.before + l.total ≤ length l.self.elements;
  rising : IsRising (elements_of l.part);
  part : IsPart l.part;
}

abbrev pub decreases-loop-part : goal.decreases-loop-part
decreases-loop-part l = height_of l.part
