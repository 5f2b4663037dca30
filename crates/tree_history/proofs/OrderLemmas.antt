-- Two lists in the order of a direction that agree up to the element behind some others.
use Rattle.std.proofs.Common.{◌≡◌, ℕ, zero, suc, ◌+◌, ◌-◌, ◌<◌, Bool, true, false, not, if◌then◌else◌, List, [], ◌∷◌, length, get_or, take, drop, reverse, slice_get, Option, Some, refl, ap, sym, ◌∙◌, subst, inl, inr, arith}
use Rattle.std.specs.List.{All, AllPairs, filter}
use Rattle.std.specs.Ordering.{is_gt, ordering_reverse}
use Rattle.std.specs.declared.cmp.Ordering.{Ordering}
use Rattle.std.specs.declared.cmp.Ordering.TheVariants.{Less}
use Rattle.std.proofs.lemmas.Bool.{cases_Bool, both_ways, false_from_ne_true, not-true}
use Rattle.std.proofs.lemmas.Cmp.{upto}
use Rattle.std.proofs.lemmas.List.{drop-take, get_or-reverse, length-reverse}
use Rattle.std.proofs.lemmas.List.Elements.{All-weaker}
use Rattle.std.proofs.lemmas.List.Kept.{AllPairs-filter}
use Rattle.std.proofs.lemmas.Option.{get_or_from_slice_get, slice_get_within}
use Rattle.arc_core.specs.declared.bkeys.BkeyRange.{BkeyRange}
use Rattle.arc_core.specs.declared.filters.Filter.{Filter}
use Rattle.arc_core.specs.declared.trees.Elem.{Elem}
use Rattle.arc_core.specs.BkeyOrder.{bkey_cmp, is_down, is_in_range}
use Rattle.arc_core.specs.BkeyLaws.{bkey_cmp_total}
use Rattle.arc_core.specs.TreeReading.{is_selected, selected}
use Rattle.tree_history.specs.Agreement.{AreByBkey}
use Rattle.tree_history.proofs.EdgeLemmas.{greater_is}
use Rattle.tree_history.proofs.Lists.{AllPairs-head, AllPairs-tail, filter_none, left_out, not_itself, one_way, taken_in}

-- whether an element comes before another in a direction
abbrev pub comes_before : (down : Bool) → (x y : Elem) → Bool
comes_before false x y = is_gt (bkey_cmp y.bkey x.bkey)
comes_before true x y = is_gt (bkey_cmp x.bkey y.bkey)

-- The elements of a list go in a direction.
abbrev pub GoesIn : (down : Bool) → List Elem → Type 0
GoesIn down xs = AllPairs (λ x y. comes_before down x y ≡ true) xs

-- what is not behind an element: all up to it
abbrev pub is_up_to : (down : Bool) → Elem → Elem → Bool
is_up_to down end x = not (comes_before down end x)

up_one_way : (down : Bool) (x y : Elem) → comes_before down x y ≡ true → comes_before down y x ≡ false
up_one_way false x y first = greater_is x.bkey y.bkey ∙ one_way x.bkey y.bkey (sym (greater_is y.bkey x.bkey) ∙ first)
up_one_way true x y first = greater_is y.bkey x.bkey ∙ one_way y.bkey x.bkey (sym (greater_is x.bkey y.bkey) ∙ first)

-- what is not behind what is not behind
up_chain : (down : Bool) (x y z : Elem) → comes_before down x y ≡ false → comes_before down y z ≡ false → comes_before down x z ≡ false
up_chain false x y z first second = upto bkey_cmp_total z.bkey y.bkey x.bkey second first
up_chain true x y z first second = upto bkey_cmp_total x.bkey y.bkey z.bkey first second

up_itself : (down : Bool) (x : Elem) → comes_before down x x ≡ false
up_itself false x = greater_is x.bkey x.bkey ∙ not_itself x.bkey
up_itself true x = greater_is x.bkey x.bkey ∙ not_itself x.bkey

-- what comes before an element that is not behind the end is not behind it either
before_end : (down : Bool) (end x y : Elem) → comes_before down x y ≡ true → is_up_to down end y ≡ true → is_up_to down end x ≡ true
before_end down end x y first upto_end =
    ap not (up_chain down end y x (not-true (comes_before down end y) upto_end) (up_one_way down x y first))

module _ (down : Bool) (end : Elem) where
  abbrev R : Elem → Elem → Type 0
  R x y = comes_before down x y ≡ true

  none_behind : (x : Elem) (xs : List Elem) → GoesIn down (x ∷ xs) → is_up_to down end x ≡ false → All (λ y. is_up_to down end y ≡ false) xs
  none_behind x xs goes past =
      All-weaker (R x) (λ y. is_up_to down end y ≡ false) (λ y first. false_from_ne_true (is_up_to down end y) (λ near. both_ways (is_up_to down end x) past (before_end down end x y first near)))
      xs (AllPairs-head R x xs goes)

  -- all up to an end are the first ones
  pub first_ones : (xs : List Elem) → GoesIn down xs → filter (is_up_to down end) xs ≡ take (length (filter (is_up_to down end) xs)) xs
  first_ones [] goes = refl
  first_ones (x ∷ xs) goes = elim (cases_Bool (is_up_to down end x)) [
    | inl near ↦
        let kept = taken_in (is_up_to down end) x xs near in
        kept ∙ (ap (λ ys. x ∷ ys) (first_ones xs (AllPairs-tail R x xs goes)) ∙ ap (λ ys. take (length ys) (x ∷ xs)) (sym kept))
    | inr past ↦
        let none : filter (is_up_to down end) (x ∷ xs) ≡ [] = left_out (is_up_to down end) x xs past ∙ filter_none (is_up_to down end) xs (none_behind x xs goes past) in
        none ∙ ap (λ ys. take (length ys) (x ∷ xs)) (sym none)
  ]

  same_one : (x : Elem) → Some x ≡ Some end → x ≡ end
  same_one x is = cc is

  -- the one behind so many others
  pub number_up_to_end : (xs : List Elem) (n : ℕ) → GoesIn down xs → slice_get xs n ≡ Some end → length (filter (is_up_to down end) xs) ≡ suc n
  number_up_to_end [] n goes at = cc at
  number_up_to_end (x ∷ xs) zero goes at =
      let same : x ≡ end = same_one x at in
      let near : is_up_to down end x ≡ true = ap (λ y. not (comes_before down end y)) same ∙ ap not (up_itself down end) in
      let all : All (λ y. is_up_to down end y ≡ false) xs = All-weaker (R x) (λ y. is_up_to down end y ≡ false) (λ y first. ap not (ap (λ z. comes_before down z y) (sym same) ∙ first)) xs (AllPairs-head R x xs goes) in
      ap length (taken_in (is_up_to down end) x xs near ∙ ap (λ ys. x ∷ ys) (filter_none (is_up_to down end) xs all))
  number_up_to_end (x ∷ xs) (suc n) goes at =
      let first : R x end = subst (R x) (get_or_from_slice_get xs n end end at) (AllPairs-head R x xs goes n end (slice_get_within xs n end at)) in
      let near : is_up_to down end x ≡ true = ap not (up_one_way down x end first) in
      ap length (taken_in (is_up_to down end) x xs near) ∙ ap suc (number_up_to_end xs n (AllPairs-tail R x xs goes) at)

  -- two lists that agree up to the one behind so many others begin alike
  pub same_start : (xs ys : List Elem) (n : ℕ) → GoesIn down xs → GoesIn down ys → slice_get xs n ≡ Some end → filter (is_up_to down end) ys ≡ filter (is_up_to down end) xs → take (suc n) ys ≡ take (suc n) xs
  same_start xs ys n xs_go ys_go at same =
      let many = number_up_to_end xs n xs_go at in
      ap (λ k. take k ys) (sym (ap length same ∙ many)) ∙ (sym (first_ones ys ys_go) ∙ (same ∙ (first_ones xs xs_go ∙ ap (λ k. take k xs) many)))

-- a part of a common start
pub same_part : (xs ys : List Elem) (offset n : ℕ) → take (suc (offset + n)) ys ≡ take (suc (offset + n)) xs → take (suc n) (drop offset ys) ≡ take (suc n) (drop offset xs)
same_part xs ys offset n same =
    let count : offset + suc n ≡ suc (offset + n) = omega arith in
    sym (drop-take offset (suc n) ys) ∙ (ap (drop offset) (ap (λ k. take k ys) count ∙ (same ∙ ap (λ k. take k xs) (sym count))) ∙ drop-take offset (suc n) xs)

-- SELECTED ELEMENTS GO IN THE DIRECTION OF THEIR RANGE

greater_from : (o p : Ordering) → p ≡ ordering_reverse o → o ≡ Less → is_gt p ≡ true
greater_from o p back below = ap is_gt (back ∙ ap ordering_reverse below)

facing : (down : Bool) (xs : List Elem) → AreByBkey xs → GoesIn down (if down then reverse xs else xs)
facing false xs rise i j d order within =
    let x = get_or xs i d in
    let y = get_or xs j d in
    greater_from (bkey_cmp x.bkey y.bkey) (bkey_cmp y.bkey x.bkey) (bkey_cmp_total.antisymm y.bkey x.bkey) (rise i j d order within)
facing true xs rise i j d order within =
    let many = length-reverse xs in
    let high : j < length xs = omega arith in
    let x = get_or xs (length xs - 1 - i) d in
    let y = get_or xs (length xs - 1 - j) d in
    let x_is = get_or-reverse xs i d (omega arith) in
    let y_is = get_or-reverse xs j d high in
    let below = greater_from (bkey_cmp y.bkey x.bkey) (bkey_cmp x.bkey y.bkey) (bkey_cmp_total.antisymm x.bkey y.bkey) (rise (length xs - 1 - j) (length xs - 1 - i) d (omega arith) (omega arith)) in
    subst (λ (e : Elem). comes_before true e (get_or (reverse xs) j d) ≡ true) (sym x_is) (subst (λ (e : Elem). comes_before true x e ≡ true) (sym y_is) below)

pub selected_go : (range : BkeyRange) (asked : Option Filter) (xs : List Elem) → AreByBkey xs → GoesIn (is_down range) (selected range asked xs)
selected_go range asked xs rise =
    let inside : Elem → Bool = λ element. is_in_range range element.bkey in
    let down = is_down range in
    AllPairs-filter (λ x y. comes_before down x y ≡ true) (is_selected asked) (if down then reverse (filter inside xs) else filter inside xs)
    (facing down (filter inside xs) (AllPairs-filter (λ (x y : Elem). bkey_cmp x.bkey y.bkey ≡ Less) inside xs rise))
