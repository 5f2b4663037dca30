use Rattle.std.proofs.Common.{◌+◌, ◌≡◌, ◌≤◌, ◌<◌, length, true, false, get_or}
use Rattle.std.specs.Ordering.{is_le}
use Rattle.arc_core.specs.declared.trees.Elem.{Elem}
use Rattle.arc_core.specs.declared.bkeys.Bkey.TheVariants.{Number}
use Rattle.arc_core.specs.BkeyOrder.{bkey_cmp}
use Rattle.btree_nodes.specs.Subtree.{Subtree}
use Rattle.btree_nodes.proofs.search.child_with_number.Given as goal

abbrev pub invariant-loop-size : goal.invariant-loop-size
invariant-loop-size l = record {
  some : 1 < length l.children → 1 ≤ l.size;
  within : l.low + l.size < length l.children;
  before : (d : Subtree) (e : Elem) → 0 < l.low → is_le (bkey_cmp (get_or (get_or l.children l.low d).elements 0 e).bkey (Number l.number)) ≡ true;
  behind : (d : Subtree) (e : Elem) → is_le (bkey_cmp (get_or (get_or l.children (l.low + l.size) d).elements 0 e).bkey (Number l.number)) ≡ false;
}

abbrev pub decreases-loop-size : goal.decreases-loop-size
decreases-loop-size l = l.size
