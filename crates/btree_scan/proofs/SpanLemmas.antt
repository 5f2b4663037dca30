-- The places of a range's elements.
use Rattle.std.proofs.Common.{◌≡◌, ◌⊎◌, ℕ, ◌+◌, ◌-◌, ◌<◌, ◌≤◌, Bool, true, false, not, ◌&&◌, cond, if◌then◌else◌, None, List, [], ◌∷◌, ◌++◌, length, get_or, take, drop, max, refl, ap, sym, ◌∙◌, inl, inr, arith}
use Rattle.std.specs.List.{All, between, filter}
use Rattle.std.specs.Ordering.{is_lt, is_eq, is_gt, ordering_reverse}
use Rattle.std.specs.declared.cmp.Ordering.{Ordering}
use Rattle.std.specs.declared.cmp.Ordering.TheVariants.{Less, Equal, Greater}
use Rattle.std.proofs.lemmas.Bool.{cases_lt}
use Rattle.std.proofs.lemmas.List.{append-nil, length-take-le, length-drop, get_or-take, get_or-drop, get_or_default}
use Rattle.std.proofs.lemmas.List.Edits.{split_between, length-between, get_or-between}
use Rattle.std.proofs.lemmas.List.Elements.{All-head, All-tail, filter-append}
use Rattle.arc_core.specs.declared.bkeys.Bkey.{Bkey}
use Rattle.arc_core.specs.declared.bkeys.BkeyRange.{BkeyRange}
use Rattle.arc_core.specs.declared.trees.Elem.{Elem}
use Rattle.arc_core.specs.BkeyOrder.{bkey_cmp, is_down, is_in_range, lesser_end, greater_end, span}
use Rattle.arc_core.specs.TreeReading.{is_selected, selected}
use Rattle.btree_scan.proofs.DirectionLemmas.{as_many}
use Rattle.arc_core.specs.BkeyLaws.{bkey_cmp_total}
use Rattle.arc_core.specs.TreeContents.{IsRising, place_of}
use Rattle.btree_nodes.specs.Ways.{has_bkey}
use Rattle.btree_nodes.proofs.SearchLemmas.{bool_cases}
use Rattle.btree_nodes.proofs.TreeLemmas.{IsPlace, place_splits, above_others}
use Rattle.btree_scan.specs.Positions.{position_in}
use Rattle.btree_scan.specs.declared.positions.Position.TheVariants.{At, Before}
use Rattle.btree_scan.specs.Spans.{number_up_to, ArePlaces}
use Rattle.btree_scan.proofs.FoundLemmas.{absent_at}

pub filter_none : (p : Elem → Bool) (xs : List Elem) → All (λ x. p x ≡ false) xs → filter p xs ≡ []
filter_none p [] all = refl
filter_none p (x ∷ xs) all = let P : Elem → Type 0 = λ x. p x ≡ false in rw (All-head P x xs all) (filter_none p xs (All-tail P x xs all))

pub filter_every : (p : Elem → Bool) (xs : List Elem) → All (λ x. p x ≡ true) xs → filter p xs ≡ xs
filter_every p [] all = refl
filter_every p (x ∷ xs) all = let P : Elem → Type 0 = λ x. p x ≡ true in rw (All-head P x xs all) (ap (λ ys. x ∷ ys) (filter_every p xs (All-tail P x xs all)))

-- a test that passes between two places alone
pub filter_between : (p : Elem → Bool) (xs : List Elem) (low high : ℕ) → low ≤ high → high ≤ length xs → ((k : ℕ) (d : Elem) → k < low → p (get_or xs k d) ≡ false)
    → ((k : ℕ) (d : Elem) → low ≤ k → k < high → p (get_or xs k d) ≡ true) → ((k : ℕ) (d : Elem) → high ≤ k → k < length xs → p (get_or xs k d) ≡ false) → filter p xs ≡ between low high xs
filter_between p xs low high order within before inside behind =
    let A = take low xs in
    let M = between low high xs in
    let R = drop high xs in
    let front = filter_none p A (λ k d below. let k_low : k < low = omega (arith, below, length-take-le low xs (omega arith)) in ap p (get_or-take low xs k d k_low) ∙ before k d k_low) in
    let middle = filter_every p M (λ k d below. let k_in : low + k < high = omega (arith, below, length-between xs low high within) in ap p (get_or-between xs low high k d k_in) ∙ inside (low + k) d (omega arith) k_in) in
    let rest = filter_none p R (λ k d below. ap p (get_or-drop high xs k d) ∙ behind (high + k) d (omega arith) (omega (arith, below, length-drop high xs))) in
    ap (filter p) (split_between xs low high order) ∙ (filter-append p A (M ++ R) ∙ (ap (λ ys. ys ++ filter p (M ++ R)) front ∙ (filter-append p M R ∙ (ap (λ ys. ys ++ filter p R) middle ∙ (ap (λ ys. M ++ ys) rest ∙ append-nil M)))))

pub back_lt : (o p : Ordering) → p ≡ ordering_reverse o → is_lt o ≡ true → is_gt p ≡ true
back_lt Less p rev lt = ap is_gt rev
back_lt Equal p rev lt = cc lt
back_lt Greater p rev lt = cc lt

pub back_not_lt : (o p : Ordering) → p ≡ ordering_reverse o → is_lt o ≡ false → is_gt p ≡ false
back_not_lt Less p rev lt = cc lt
back_not_lt Equal p rev lt = ap is_gt rev
back_not_lt Greater p rev lt = ap is_gt rev

-- Where a list falls into what is at most a bkey and what is above it.
pub record IsUpTo (bkey : Bkey) (elements : List Elem) (place : ℕ) : Type 0 where
  pub within : place ≤ length elements
  pub before : (k : ℕ) (d : Elem) → k < place → is_gt (bkey_cmp (get_or elements k d).bkey bkey) ≡ false
  pub behind : (k : ℕ) (d : Elem) → place ≤ k → k < length elements → is_gt (bkey_cmp (get_or elements k d).bkey bkey) ≡ true

lt_not_gt : (o : Ordering) → is_lt o ≡ true → is_gt o ≡ false
lt_not_gt Less lt = refl
lt_not_gt Equal lt = cc lt
lt_not_gt Greater lt = cc lt

eq_not_gt : (o p : Ordering) → p ≡ ordering_reverse o → is_eq o ≡ true → is_gt p ≡ false
eq_not_gt Less p rev eq = cc eq
eq_not_gt Equal p rev eq = ap is_gt rev
eq_not_gt Greater p rev eq = cc eq

pub equal : (o : Ordering) → is_eq o ≡ true → o ≡ Equal
equal Less eq = cc eq
equal Equal eq = refl
equal Greater eq = cc eq

-- where a bkey is there, it is in its place
pub there : (bkey : Bkey) (elements : List Elem) → IsRising elements → has_bkey bkey elements ≡ true → place_of bkey elements < length elements
there bkey elements rising has =
    elim (cases_lt (place_of bkey elements) (length elements)) [
      | inl within ↦ within
      | inr past ↦ let none = absent_at bkey elements (place_of bkey elements) rising refl (λ d within. absurd (omega arith)) in cc
    ]

pub eq_there : (bkey : Bkey) (elements : List Elem) (d : Elem) → IsRising elements → has_bkey bkey elements ≡ true → is_eq (bkey_cmp bkey (get_or elements (place_of bkey elements) d).bkey) ≡ true
eq_there bkey elements d rising has =
    elim (bool_cases (is_eq (bkey_cmp bkey (get_or elements (place_of bkey elements) d).bkey))) [
      | inl same ↦ same
      | inr other ↦ let none = absent_at bkey elements (place_of bkey elements) rising refl
          (λ e within. ap (λ (x : Elem). is_eq (bkey_cmp bkey x.bkey)) (get_or_default elements (place_of bkey elements) e d within) ∙ other) in cc
    ]

up_to_before : (bkey : Bkey) (elements : List Elem) (k : ℕ) (d : Elem) → IsRising elements → has_bkey bkey elements ≡ true → IsPlace bkey elements (place_of bkey elements) → (k < place_of bkey elements) ⊎ (place_of bkey elements ≤ k) → k < place_of bkey elements + 1
    → is_gt (bkey_cmp (get_or elements k d).bkey bkey) ≡ false
up_to_before bkey elements k d rising has at (inl front) below = lt_not_gt (bkey_cmp (get_or elements k d).bkey bkey) (at.before k d front)
up_to_before bkey elements k d rising has at (inr low) below =
    let same : k ≡ place_of bkey elements = omega arith in
    let x = get_or elements k d in
    eq_not_gt (bkey_cmp bkey x.bkey) (bkey_cmp x.bkey bkey) (bkey_cmp_total.antisymm x.bkey bkey) (ap (λ n. is_eq (bkey_cmp bkey (get_or elements n d).bkey)) same ∙ eq_there bkey elements d rising has)

greater_by : (o p : Ordering) → p ≡ ordering_reverse o → o ≡ Less → is_gt p ≡ true
greater_by o p rev lt = ap is_gt rev ∙ ap (λ q. is_gt (ordering_reverse q)) lt

up_to_at : (bkey : Bkey) (elements : List Elem) → IsRising elements → (b : Bool) → has_bkey bkey elements ≡ b → IsUpTo bkey elements (place_of bkey elements + cond b 1 0)
up_to_at bkey elements rising true has =
    let at = place_splits bkey elements rising in
    let p = place_of bkey elements in
    let inside = there bkey elements rising has in
    record {
      within = omega arith;
      before = λ k d below. up_to_before bkey elements k d rising has at (cases_lt k p) below;
      behind = λ k d low within. let x = get_or elements p d in let y = get_or elements k d in
          greater_by (bkey_cmp bkey y.bkey) (bkey_cmp y.bkey bkey) (bkey_cmp_total.antisymm y.bkey bkey)
          (bkey_cmp_total.congr bkey x.bkey y.bkey (equal (bkey_cmp bkey x.bkey) (eq_there bkey elements d rising has)) ∙ (rising p k d (omega arith) within).below);
    }
up_to_at bkey elements rising false has =
    let at = place_splits bkey elements rising in
    record {
      within = omega (arith, at.within);
      before = λ k d below. lt_not_gt (bkey_cmp (get_or elements k d).bkey bkey) (at.before k d (omega arith));
      behind = λ k d low within. let y = get_or elements k d in
          greater_by (bkey_cmp bkey y.bkey) (bkey_cmp y.bkey bkey) (bkey_cmp_total.antisymm y.bkey bkey) (above_others bkey elements k d has within (at.behind k d (omega arith) within));
    }

pub up_to : (bkey : Bkey) (elements : List Elem) → IsRising elements → IsUpTo bkey elements (number_up_to bkey elements)
up_to bkey elements rising = up_to_at bkey elements rising (has_bkey bkey elements) refl

and_false : (b : Bool) → (b && false) ≡ false
and_false true = refl
and_false false = refl

-- the elements of a range stand together
pub are_places : (range : BkeyRange) (elements : List Elem) → IsRising elements → ArePlaces range elements (place_of (lesser_end range) elements) (max (number_up_to (greater_end range) elements) (place_of (lesser_end range) elements))
are_places range elements rising =
    let from = place_splits (lesser_end range) elements rising in
    let to = up_to (greater_end range) elements rising in
    let low = place_of (lesser_end range) elements in
    let up = number_up_to (greater_end range) elements in
    let test : Elem → Bool = λ element. is_in_range range element.bkey in
    record {
      order = omega arith;
      within = omega (arith, from.within, to.within);
      elements_are = filter_between test elements low (max up low) (omega arith) (omega (arith, from.within, to.within))
          (λ k d below. let x = (get_or elements k d).bkey in ap (λ g. not g && not (is_gt (bkey_cmp x (greater_end range)))) (back_lt (bkey_cmp x (lesser_end range)) (bkey_cmp (lesser_end range) x) (bkey_cmp_total.antisymm (lesser_end range) x) (from.before k d below)))
          (λ k d behind below. let x = (get_or elements k d).bkey in
          ap (λ g. not g && not (is_gt (bkey_cmp x (greater_end range)))) (back_not_lt (bkey_cmp x (lesser_end range)) (bkey_cmp (lesser_end range) x) (bkey_cmp_total.antisymm (lesser_end range) x) (from.behind k d behind (omega (arith, to.within, from.within))))
          ∙ ap (λ g. not g) (to.before k d (omega arith)))
          (λ k d past within. let x = (get_or elements k d).bkey in
          ap (λ g. not (is_gt (bkey_cmp (lesser_end range) x)) && not g) (to.behind k d (omega arith) within) ∙ and_false (not (is_gt (bkey_cmp (lesser_end range) x))));
    }

found_by : (b : Bool) (place p : ℕ) → At place ≡ (if b then At p else Before p) → (b ≡ true) × (place ≡ p)
found_by true place p is = (refl, cc is)
found_by false place p is = cc is

-- a position that is taken
pub found_position : (bkey : Bkey) (elements : List Elem) (place : ℕ) → At place ≡ position_in bkey elements → (has_bkey bkey elements ≡ true) × (place ≡ place_of bkey elements)
found_position bkey elements place is = found_by (has_bkey bkey elements) place (place_of bkey elements) is

-- without a filter all elements of the range are selected
pub none_selected : (range : BkeyRange) (elements : List Elem) (low high : ℕ) → ArePlaces range elements low high → high - low ≡ length (selected range None elements)
none_selected range elements low high places =
    let inside = filter (λ element. is_in_range range element.bkey) elements in
    sym (ap length (filter_every (is_selected None) (span (λ element. element.bkey) range elements) (λ k d within. refl))
    ∙ (as_many (is_down range) inside ∙ (ap length places.elements_are ∙ length-between elements low high places.within)))
