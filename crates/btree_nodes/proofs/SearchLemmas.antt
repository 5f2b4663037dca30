-- Elements by rising bkeys below and above a bkey.
use Rattle.std.proofs.Common.{◌≡◌, ℕ, zero, suc, ◌+◌, ◌<◌, ◌≤◌, ◌⊎◌, Bool, true, false, ◌||◌, cond, List, [], ◌∷◌, ◌++◌, length, get_or, refl, ap, sym, ◌∙◌, inl, inr, arith}
use Rattle.std.specs.List.{count_by, list_any}
use Rattle.std.specs.Ordering.{is_lt, is_eq, is_le, ordering_reverse}
use Rattle.std.specs.declared.cmp.Ordering.{Ordering}
use Rattle.std.specs.declared.cmp.Ordering.TheVariants.{Less, Equal, Greater}
use Rattle.std.proofs.lemmas.Bool.{cases_eq}
use Rattle.std.proofs.lemmas.List.{length-append, get_or_append_left, get_or-append-add}
use Rattle.std.proofs.lemmas.List.Sums.{sum_by-cons, sum_by-append}
use Rattle.std.proofs.lemmas.List.Folds.{list_any-append, list_any_none}
use Rattle.arc_core.specs.declared.bkeys.Bkey.{Bkey}
use Rattle.arc_core.specs.declared.trees.Elem.{Elem}
use Rattle.arc_core.specs.BkeyOrder.{bkey_cmp}
use Rattle.arc_core.specs.BkeyLaws.{bkey_cmp_total, bkey_cmp-IsAntisymmetric}
use Rattle.arc_core.specs.TreeContents.{IsRising, is_below, place_of}
use Rattle.btree_nodes.specs.Ways.{has_bkey}

-- a test is passed or not
pub bool_cases : (b : Bool) → (b ≡ true) ⊎ (b ≡ false)
bool_cases true = inl refl
bool_cases false = inr refl

or_false : (b : Bool) → (b || false) ≡ b
or_false true = refl
or_false false = refl

pub less : (o : Ordering) → is_lt o ≡ true → o ≡ Less
less Less is = refl
less Equal is = cc is
less Greater is = cc is

-- below what is below the bkey all is below it
pub below_down : (bkey : Bkey) (elements : List Elem) (k m : ℕ) (d : Elem) → IsRising elements → k ≤ m → m < length elements → is_below bkey (get_or elements m d) ≡ true → is_below bkey (get_or elements k d) ≡ true
below_down bkey elements k m d rising order within below =
    elim (cases_eq k m) [
      | inl same ↦ ap (λ n. is_below bkey (get_or elements n d)) same ∙ below
      | inr other ↦ ap is_lt (bkey_cmp_total.trans (get_or elements k d).bkey (get_or elements m d).bkey bkey (rising k m d (omega arith) within).below (less (bkey_cmp (get_or elements m d).bkey bkey) below))
    ]

-- above what is not below the bkey nothing is
pub not_below_up : (bkey : Bkey) (elements : List Elem) (k m : ℕ) (d : Elem) → IsRising elements → m ≤ k → k < length elements → is_below bkey (get_or elements m d) ≡ false → is_below bkey (get_or elements k d) ≡ false
not_below_up bkey elements k m d rising order within not_below =
    elim (bool_cases (is_below bkey (get_or elements k d))) [
      | inl passed ↦ let both = below_down bkey elements m k d rising order within passed in cc
      | inr failed ↦ failed
    ]

-- a test that a front passes and nothing behind it
pub count_front : (p : Elem → Bool) (xs : List Elem) (n : ℕ) → n ≤ length xs → ((k : ℕ) (d : Elem) → k < n → p (get_or xs k d) ≡ true)
    → ((k : ℕ) (d : Elem) → n ≤ k → k < length xs → p (get_or xs k d) ≡ false) → count_by p xs ≡ n
count_front p [] n within before behind = omega arith
count_front p (x ∷ xs) zero within before behind =
    let rest = count_front p xs zero (omega arith) (λ k d below. absurd (omega arith)) (λ k d low below. behind (suc k) d (omega arith) (omega arith)) in
    let one = sum_by-cons (λ (y : Elem). cond (p y) 1 0) x xs in
    let no = ap {B = ℕ} (λ b. cond b 1 0) (behind zero x (omega arith) (omega arith)) in
    omega (arith, rest, one, no)
count_front p (x ∷ xs) (suc n) within before behind =
    let rest = count_front p xs n (omega arith) (λ k d below. before (suc k) d (omega arith)) (λ k d low below. behind (suc k) d (omega arith) (omega arith)) in
    let one = sum_by-cons (λ (y : Elem). cond (p y) 1 0) x xs in
    let yes = ap {B = ℕ} (λ b. cond b 1 0) (before zero x (omega arith)) in
    omega (arith, rest, one, yes)

lt_le_at : (x y z : Bkey) (o : Ordering) → bkey_cmp y z ≡ o → bkey_cmp x y ≡ Less → is_le o ≡ true → bkey_cmp x z ≡ Less
lt_le_at x y z Less is lt le = bkey_cmp_total.trans x y z lt is
lt_le_at x y z Equal is lt le = ap (λ w. bkey_cmp x w) (sym (bkey_cmp-IsAntisymmetric y z is)) ∙ lt
lt_le_at x y z Greater is lt le = cc le

lt_le : (x y z : Bkey) → bkey_cmp x y ≡ Less → is_le (bkey_cmp y z) ≡ true → bkey_cmp x z ≡ Less
lt_le x y z lt le = lt_le_at x y z (bkey_cmp y z) refl lt le

greater : (o : Ordering) → is_le o ≡ false → o ≡ Greater
greater Less is = cc is
greater Equal is = cc is
greater Greater is = refl

-- an element in front of one that is at most the bkey
pub front_below : (bkey : Bkey) (A Z : List Elem) (k : ℕ) (d : Elem) → IsRising (A ++ Z) → k < length A → 0 < length Z → is_le (bkey_cmp (get_or Z 0 d).bkey bkey) ≡ true → bkey_cmp (get_or A k d).bkey bkey ≡ Less
front_below bkey A Z k d rising within some le =
    let there = get_or_append_left A Z d k within in
    let first = get_or-append-add A Z 0 d in
    let pair = rising k (length A + 0) d (omega arith) (omega (arith, length-append A Z)) in
    lt_le (get_or A k d).bkey (get_or Z 0 d).bkey bkey (ap (λ (e : Elem). bkey_cmp e.bkey (get_or Z 0 d).bkey) (sym there) ∙ (ap (λ (e : Elem). bkey_cmp (get_or (A ++ Z) k d).bkey e.bkey) (sym first) ∙ pair.below)) le

-- an element at or behind one that is above the bkey
pub behind_above : (bkey : Bkey) (Z : List Elem) (k : ℕ) (d : Elem) → IsRising Z → k < length Z → is_le (bkey_cmp (get_or Z 0 d).bkey bkey) ≡ false → bkey_cmp (get_or Z k d).bkey bkey ≡ Greater
behind_above bkey Z k d rising within above =
    elim (bool_cases (is_le (bkey_cmp (get_or Z k d).bkey bkey))) [
      | inl le ↦ elim (cases_eq 0 k) [
        | inl same ↦ let e = ap (λ n. is_le (bkey_cmp (get_or Z n d).bkey bkey)) same in cc
        | inr other ↦ let lt = lt_le (get_or Z 0 d).bkey (get_or Z k d).bkey bkey (rising 0 k d (omega arith) within).below le in let e = ap is_le lt in cc
      ]
      | inr failed ↦ greater (bkey_cmp (get_or Z k d).bkey bkey) failed
    ]

-- the bkey's place among elements in front of it, others, and elements behind it
pub place_between : (bkey : Bkey) (A M R : List Elem) → ((k : ℕ) (d : Elem) → k < length A → bkey_cmp (get_or A k d).bkey bkey ≡ Less) → ((k : ℕ) (d : Elem) → k < length R → bkey_cmp (get_or R k d).bkey bkey ≡ Greater)
    → place_of bkey (A ++ (M ++ R)) ≡ length A + place_of bkey M
place_between bkey A M R before behind =
    let p = is_below bkey in
    let f : Elem → ℕ = λ y. cond (p y) 1 0 in
    let all = count_front p A (length A) (omega arith) (λ k d within. ap is_lt (before k d within)) (λ k d low within. absurd (omega arith)) in
    let none = count_front p R 0 (omega arith) (λ k d within. absurd (omega arith)) (λ k d low within. ap is_lt (behind k d within)) in
    omega (arith, all, none, sum_by-append f A (M ++ R), sum_by-append f M R)

-- and whether it is there
pub found_between : (bkey : Bkey) (A M R : List Elem) → ((k : ℕ) (d : Elem) → k < length A → bkey_cmp (get_or A k d).bkey bkey ≡ Less) → ((k : ℕ) (d : Elem) → k < length R → bkey_cmp (get_or R k d).bkey bkey ≡ Greater)
    → has_bkey bkey (A ++ (M ++ R)) ≡ has_bkey bkey M
found_between bkey A M R before behind =
    let q = λ (e : Elem). is_eq (bkey_cmp bkey e.bkey) in
    let none_A = list_any_none q A (λ k d within. ap is_eq (bkey_cmp_total.antisymm bkey (get_or A k d).bkey) ∙ ap (λ o. is_eq (ordering_reverse o)) (before k d within)) in
    let none_R = list_any_none q R (λ k d within. ap is_eq (bkey_cmp_total.antisymm bkey (get_or R k d).bkey) ∙ ap (λ o. is_eq (ordering_reverse o)) (behind k d within)) in
    list_any-append q A (M ++ R) ∙ (ap (λ b. b || list_any q (M ++ R)) none_A ∙ (list_any-append q M R ∙ (ap (λ b. list_any q M || b) none_R ∙ or_false (list_any q M))))
