use Rattle.std.proofs.Common.{◌≡◌, ◌+◌, ◌<◌, length, get_or}
use Rattle.arc_core.specs.declared.trees.Elem.{Elem}
use Rattle.btree_nodes.specs.PartRules.{elements_of, height_of, IsPart}
use Rattle.btree_scan.proofs.positions.at_position.Given as goal

abbrev pub invariant-loop-part : goal.invariant-loop-part
invariant-loop-part g l = record {
  element : (d : Elem) → get_or l.tree.elements l.place d ≡ get_or (elements_of l.part) l.offset d;
  total : l.total ≡ length (elements_of l.part);
  within : l.offset < l.total;
  part : IsPart l.part;
  steps : l.steps + height_of l.part ≡ l.initial.steps + height_of l.initial.part;
}

abbrev pub decreases-loop-part : goal.decreases-loop-part
decreases-loop-part g l = height_of l.part
