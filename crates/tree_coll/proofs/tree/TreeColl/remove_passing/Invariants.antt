use Rattle.std.proofs.Common.{◌≡◌, ◌≤◌, Some}
use Rattle.arc_core.specs.TreeReading.{is_selected}
use Rattle.tree_coll.specs.TreeOutcomes.{holding}
use Rattle.tree_coll.specs.TreePlanning.{without_between}
use Rattle.tree_coll.proofs.tree.TreeColl.remove_passing.Given as goal

abbrev pub invariant-loop-place : goal.invariant-loop-place
invariant-loop-place g l = record {
  low : l.low ≤ l.place;
  high : l.place ≤ l.high;
  contents : l.self.contents ≡ holding (without_between (is_selected (Some l.filter)) l.place l.high l.initial.self.contents.elements) l.initial.self.contents;
  spare : l.initial.self.spare ≤ l.self.spare;
}

abbrev pub decreases-loop-place : goal.decreases-loop-place
decreases-loop-place g l = l.place
