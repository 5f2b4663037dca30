use Rattle.std.proofs.Common.{◌+◌, ◌≡◌, ◌≤◌, ◌<◌, length, ℕ, true, false, get_or}
use Rattle.arc_core.specs.declared.trees.Elem.{Elem}
use Rattle.arc_core.specs.declared.bkeys.Bkey.TheVariants.{Number}
use Rattle.arc_core.specs.TreeContents.{is_below}
use Rattle.btree_nodes.proofs.search.below_number.Given as goal

abbrev pub invariant-loop-size : goal.invariant-loop-size
invariant-loop-size l = record {
  some : 1 ≤ l.size;
  within : l.low + l.size ≤ length l.elements;
  before : (k : ℕ) (d : Elem) → k < l.low → is_below (Number l.number) (get_or l.elements k d) ≡ true;
  behind : (k : ℕ) (d : Elem) → l.low + l.size ≤ k + 1 → k < length l.elements → is_below (Number l.number) (get_or l.elements k d) ≡ false;
}

abbrev pub decreases-loop-size : goal.decreases-loop-size
decreases-loop-size l = l.size
