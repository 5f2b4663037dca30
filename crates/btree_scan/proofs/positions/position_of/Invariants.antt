use Rattle.std.proofs.Common.{◌≡◌, ◌+◌, ◌≤◌, length}
use Rattle.arc_core.specs.TreeContents.{IsRising, place_of}
use Rattle.btree_nodes.specs.PartRules.{elements_of, height_of, IsPart}
use Rattle.btree_nodes.specs.Ways.{has_bkey}
use Rattle.btree_scan.proofs.positions.position_of.Given as goal

abbrev pub invariant-loop-part : goal.invariant-loop-part
invariant-loop-part g l = record {
  place : place_of l.bkey l.tree.elements ≡ l.before + place_of l.bkey (elements_of l.part);
  found : has_bkey l.bkey l.tree.elements ≡ has_bkey l.bkey (elements_of l.part);
  total : l.total ≡ length (elements_of l.part);
  fits : l.before + l.total ≤ length l.tree.elements;
  rising : IsRising (elements_of l.part);
  part : IsPart l.part;
  steps : l.steps + height_of l.part ≡ l.initial.steps + height_of l.initial.part;
}

abbrev pub decreases-loop-part : goal.decreases-loop-part
decreases-loop-part g l = height_of l.part
