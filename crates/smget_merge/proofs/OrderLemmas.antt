-- The order of bkeys in a direction.
use Rattle.std.proofs.Common.{◌≡◌, Bool, true, false}
use Rattle.std.specs.Cmp.{IsTotalOrder, IsStrictWeakOrder}
use Rattle.std.proofs.lemmas.Cmp.{back_total}
use Rattle.std.proofs.lemmas.List.Sorted.{ranks_by}
use Rattle.arc_core.specs.declared.trees.Elem.{Elem}
use Rattle.arc_core.specs.BkeyLaws.{bkey_cmp_total}
use Rattle.smget_merge.specs.MergedRows.{bkey_order, is_before}

pub order_total : (down : Bool) → IsTotalOrder (bkey_order down)
order_total true = back_total bkey_cmp_total
order_total false = bkey_cmp_total

pub before_weak : (down : Bool) → IsStrictWeakOrder (is_before down)
before_weak down = ranks_by (order_total down) (λ (element : Elem). element.bkey)

-- what comes before an element is not behind it
pub not_back : (down : Bool) (x y : Elem) → is_before down x y ≡ true → is_before down y x ≡ false
not_back down x y before = (before_weak down).one_way x y before

-- what does not come before an element does not come before one in front of that
pub not_further : (down : Bool) (m x y : Elem) → is_before down y x ≡ true → is_before down m x ≡ false → is_before down m y ≡ false
not_further down m x y before none = (before_weak down).chain m x y none (not_back down y x before)
