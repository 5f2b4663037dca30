-- What a walk saves up for the nodes that it enters.
use Rattle.std.proofs.Common.{◌≡◌, ℕ, Bool, if◌then◌else◌, ◌==◌, ◌+◌, ◌-◌, ◌*◌, ◌/◌, ◌<◌, ◌≤◌, List, [], length, ap, ◌∙◌, inl, inr, arith}
use Rattle.std.specs.Borrow.{Bor}
use Rattle.std.proofs.lemmas.Bool.{cases_lt}
use Rattle.std.proofs.lemmas.Bool.Decides.{nat_tests}
use Rattle.arc_core.specs.declared.trees.Elem.{Elem}
use Rattle.btree_nodes.specs.Subtree.{Subtree}
use Rattle.btree_nodes.proofs.BalanceLemmas.{child_some}
use Rattle.btree_scan.specs.Descents.{IsNearest, IsNearLeaf}
use Rattle.btree_scan.specs.Ways.{ahead, beside, credit_of}
use Rattle.btree_scan.proofs.DirectionLemmas.{length_joined}

most_by : (n a d x : ℕ) → (if a == 0 then 0 else (16 - n) + (8 * (d - 1) - x / 4)) ≤ (16 - n) + (8 * (d - 1) - x / 4)
most_by n a d x = grind (arith, nat_tests)

pub credit_most : (down : Bool) (n : ℕ) (way : List (Bor (List Subtree))) → credit_of down n way ≤ (16 - n) + (8 * (length way - 1) - length (beside way) / 4)
credit_most down n way = most_by n (length (ahead down way)) (length way) (length (beside way))

some_by : (n a d x : ℕ) → 0 < a → (if a == 0 then 0 else (16 - n) + (8 * (d - 1) - x / 4)) ≡ (16 - n) + (8 * (d - 1) - x / 4)
some_by n a d x some = grind (arith, nat_tests)

pub credit_some : (down : Bool) (n : ℕ) (way : List (Bor (List Subtree))) → 0 < length (ahead down way) → credit_of down n way ≡ (16 - n) + (8 * (length way - 1) - length (beside way) / 4)
credit_some down n way some = some_by n (length (ahead down way)) (length way) (length (beside way)) some

more_by : (n a d x : ℕ) → (if a == 0 then 0 else (16 - n) + (8 * (d - 1) - x / 4)) ≤ (if a == 0 then 0 else (16 - (n + 1)) + (8 * (d - 1) - x / 4)) + 1
more_by n a d x = grind (arith, nat_tests)

-- a walk that hands an element out saves no more than an eighth up
pub credit_more : (down : Bool) (n : ℕ) (way : List (Bor (List Subtree))) → credit_of down n way ≤ credit_of down (n + 1) way + 1
credit_more down n way = more_by n (length (ahead down way)) (length way) (length (beside way))

-- where nothing is ahead nothing is saved up
pub credit_none : (down : Bool) (n : ℕ) (way : List (Bor (List Subtree))) → ahead down way ≡ [] → credit_of down n way ≡ 0
credit_none down n way none = ap (λ xs. if length xs == 0 then 0 else (16 - n) + (8 * (length way - 1) - length (beside way) / 4)) none

-- a leaf beside the last one
spent_beside : (l x x' n : ℕ) → 16 ≤ n → n ≤ 32 → x ≡ n + x' → 8 + ((16 - n) + (8 * (l - 1) - x' / 4)) ≤ 16 + (8 * (l - 1) - x / 4)
spent_beside l x x' n least most is = omega arith

-- a leaf below another branch
spent_above : (h l m x' n : ℕ) → 2 ≤ h → l ≤ 7 → m + h ≡ l + 1 → 16 ≤ n → n ≤ 32 → 256 ≤ n + x' → 8 * h + ((16 - n) + (8 * (l - 1) - x' / 4)) ≤ 16 + 8 * (l - 1)
spent_above h l m x' n high low depth least most fresh = omega arith

-- the steps to the next leaf were saved up
pub credit_spent : (down : Bool) (old mid low : List (Bor (List Subtree))) (child : Subtree) (leaf : List Elem) → length old ≤ 7 → IsNearest down old child mid → IsNearLeaf down mid child leaf low
    → 8 * child.height + ((16 - length leaf) + (8 * (length low - 1) - length (beside low) / 4)) ≤ credit_of down 0 old
credit_spent down old mid low child leaf fits nearest near =
    let some = child_some (child.height + 1) child nearest.is_child in
    let all = ap length nearest.elements ∙ length_joined down child.elements (ahead down mid) in
    let credit = credit_some down 0 old (omega arith) in
    let high = nearest.is_child.high in
    elim (cases_lt 1 child.height) [
      | inl above ↦
          let none = ap length (nearest.passed (omega arith)) in
          omega (arith, nearest.depth, near.depth, credit, spent_above child.height (length old) (length mid) (length (beside low)) (length leaf) (omega arith) fits nearest.depth near.least near.most (near.fresh (omega arith)))
      | inr one ↦
          let only : child.height ≡ 1 = omega arith in
          let same = near.same only in
          omega (
            arith,
            nearest.depth,
            near.depth,
            credit,
            ap (λ xs. length xs) same.0,
            ap (λ way. length (beside way)) same.1,
            spent_beside (length old) (length (beside old)) (length (beside low)) (length leaf) near.least near.most
                (omega (arith, nearest.sibling only, ap (λ xs. length xs) same.0, ap (λ way. length (beside way)) same.1)),
          )
    ]
