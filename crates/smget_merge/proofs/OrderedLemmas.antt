-- Rows of which none comes before one in front of it, and the first of each bkey.
use Rattle.std.proofs.Common.{◌≡◌, Bool, true, false, not, List, [], ◌∷◌, Some, None, refl, ap, sym, ◌∙◌, inl, inr, arith}
use Rattle.std.specs.List.{All, filter}
use Rattle.std.specs.Ordering.{is_lt, is_eq, ordering_reverse}
use Rattle.std.specs.declared.cmp.Ordering.{Ordering}
use Rattle.std.specs.declared.cmp.Ordering.TheVariants.{Less, Equal, Greater}
use Rattle.std.proofs.lemmas.Bool.{cases_Bool}
use Rattle.std.proofs.lemmas.Cmp.{alike_right}
use Rattle.std.proofs.lemmas.List.Elements.{All-nil, All-cons, All-head, All-tail, All-weaker, All-filter, filter_agree, filter_passes}
use Rattle.arc_core.specs.declared.bkeys.Bkey.{Bkey}
use Rattle.arc_core.specs.BkeyOrder.{bkey_cmp}
use Rattle.arc_core.specs.BkeyLaws.{bkey_cmp_total}
use Rattle.smget_merge.specs.MergedRows.{TreeRow, bkey_order, first_of_each, firsts, has_last, is_before, sorted, with_row}
use Rattle.smget_merge.proofs.OrderLemmas.{before_weak, not_back}
use Rattle.smget_merge.proofs.SortLemmas.{behind, in_front, with_row_all}

-- No row comes before one in front of it.
abbrev pub IsOrdered : Bool → List TreeRow → Type 0
IsOrdered down [] = Unit {0}
IsOrdered down (row ∷ rows) = All (λ (other : TreeRow). is_before down other.element row.element ≡ false) rows × IsOrdered down rows

-- what is not before a row is not before one that this is not before
pub all_not_before : (down : Bool) (row other : TreeRow) (rows : List TreeRow) → is_before down other.element row.element ≡ false → All (λ (z : TreeRow). is_before down z.element other.element ≡ false) rows
    → All (λ (z : TreeRow). is_before down z.element row.element ≡ false) (other ∷ rows)
all_not_before down row other rows none all =
    let P : TreeRow → Type 0 = λ z. is_before down z.element row.element ≡ false in
    All-cons P other rows none (All-weaker (λ (z : TreeRow). is_before down z.element other.element ≡ false) P (λ z not. (before_weak down).chain z.element other.element row.element not none) rows all)

with_row_ordered : (down : Bool) (row : TreeRow) (rows : List TreeRow) → IsOrdered down rows → IsOrdered down (with_row down row rows)
with_row_ordered down row [] ordered = (λ i d within. absurd (omega arith), tt)
with_row_ordered down row (other ∷ rows) ordered = elim (cases_Bool (is_before down other.element row.element)) [
  | inl before ↦ rw (behind down row other rows before)
      (with_row_all down (λ (z : TreeRow). is_before down z.element other.element ≡ false) row rows (not_back down other.element row.element before) ordered.0, with_row_ordered down row rows ordered.1)
  | inr none ↦ rw (in_front down row other rows none) (all_not_before down row other rows none ordered.0, ordered)
]

pub sorted_ordered : (down : Bool) (rows : List TreeRow) → IsOrdered down (sorted down rows)
sorted_ordered down [] = tt
sorted_ordered down (row ∷ rows) = with_row_ordered down row (sorted down rows) (sorted_ordered down rows)

-- UNIQUE ROWS

filter_every : (p : TreeRow → Bool) (rows : List TreeRow) → All (λ row. p row ≡ true) rows → filter p rows ≡ rows
filter_every p [] all = refl
filter_every p (row ∷ rows) all =
    let P : TreeRow → Type 0 = λ r. p r ≡ true in
    rw (All-head P row rows all) (ap (λ list. row ∷ list) (filter_every p rows (All-tail P row rows all)))

firsts_all : (P : TreeRow → Type 0) (rows : List TreeRow) → All P rows → All P (firsts rows)
firsts_all P [] all = All-nil P
firsts_all P (row ∷ rows) all =
    let differs : TreeRow → Bool = λ other. not (has_last (Some row.element.bkey) other.element) in
    All-cons P row (filter differs (firsts rows)) (All-head P row rows all) (All-filter differs P (firsts rows) (firsts_all P rows (All-tail P row rows all)))

equal_is : (o : Ordering) → is_eq o ≡ true → o ≡ Equal
equal_is Less is = cc
equal_is Equal is = refl
equal_is Greater is = cc

greater_is : (o : Ordering) → is_lt o ≡ false → is_eq o ≡ false → o ≡ Greater
greater_is Less none other = cc
greater_is Equal none other = cc
greater_is Greater none other = refl

not_equal_back : (o p : Ordering) → p ≡ ordering_reverse o → is_eq p ≡ false → is_eq o ≡ false
not_equal_back Less p back other = refl
not_equal_back Equal p back other = ap is_eq (sym back) ∙ other
not_equal_back Greater p back other = refl

-- what is not before a bkey and is another one comes behind it
comes_behind : (down : Bool) (x y : Bkey) → is_lt (bkey_order down y x) ≡ false → is_eq (bkey_cmp y x) ≡ false → is_lt (bkey_order down x y) ≡ true
comes_behind true x y none other =
    ap is_lt (bkey_cmp_total.antisymm y x ∙ ap ordering_reverse (greater_is (bkey_cmp x y) none (not_equal_back (bkey_cmp x y) (bkey_cmp y x) (bkey_cmp_total.antisymm y x) other)))
comes_behind false x y none other = ap is_lt (bkey_cmp_total.antisymm x y ∙ ap ordering_reverse (greater_is (bkey_cmp y x) none other))

-- equal bkeys are ordered alike
alike : (down : Bool) (x y z : Bkey) → bkey_cmp z x ≡ Equal → bkey_order down z y ≡ bkey_order down x y
alike true x y z same = alike_right bkey_cmp_total z x y same
alike false x y z same = bkey_cmp_total.congr z x y same

-- what is not before a row behind a bkey is another one than that
apart : (down : Bool) (x y z : Bkey) → is_lt (bkey_order down x y) ≡ true → is_lt (bkey_order down z y) ≡ false → not (is_eq (bkey_cmp z x)) ≡ true
apart down x y z first none = elim (cases_Bool (is_eq (bkey_cmp z x))) [
  | inl same ↦ let both = ap is_lt (alike down x y z (equal_is (bkey_cmp z x) same)) in cc
  | inr other ↦ rw other refl
]

later_firsts : (down : Bool) (last : TreeRow) (rows : List TreeRow) → IsOrdered down rows → All (λ (row : TreeRow). is_before down row.element last.element ≡ false) rows
    → first_of_each (Some last.element.bkey) rows ≡ filter (λ other. not (has_last (Some last.element.bkey) other.element)) (firsts rows)
later_firsts down last [] ordered all = refl
later_firsts down last (row ∷ rows) ordered all =
    let B : TreeRow → Type 0 = λ r. is_before down r.element last.element ≡ false in
    let l = last.element.bkey in
    let r = row.element.bkey in
    let by_last : TreeRow → Bool = λ other. not (has_last (Some l) other.element) in
    let by_row : TreeRow → Bool = λ other. not (has_last (Some r) other.element) in
    elim (cases_Bool (is_eq (bkey_cmp r l))) [
      | inl same ↦
          let agree : (other : TreeRow) → by_row other ≡ by_last other = λ other. ap (λ o. not (is_eq o)) (alike_right bkey_cmp_total r l other.element.bkey (equal_is (bkey_cmp r l) same)) in
          rw same (later_firsts down last rows ordered.1 (All-tail B row rows all)
          ∙ (sym (filter_every by_last (filter by_last (firsts rows)) (filter_passes by_last (firsts rows))) ∙ ap (filter by_last) (sym (filter_agree by_row by_last agree (firsts rows)))))
      | inr other ↦
          let first = comes_behind down l r (All-head B row rows all) other in
          let D : TreeRow → Type 0 = λ z. by_last z ≡ true in
          let each : All D rows = All-weaker (λ (z : TreeRow). is_before down z.element row.element ≡ false) D (λ z none. apart down l r z.element.bkey first none) rows ordered.0 in
          let stay = filter_every by_last (filter by_row (firsts rows)) (All-filter by_row D (firsts rows) (firsts_all D rows each)) in
          rw other (ap (λ list. row ∷ list) (later_firsts down row rows ordered.1 ordered.0 ∙ sym stay))
    ]

-- of ordered rows, the first of those that follow one another with one bkey are the first of each bkey
pub unique_firsts : (down : Bool) (rows : List TreeRow) → IsOrdered down rows → first_of_each None rows ≡ firsts rows
unique_firsts down [] ordered = refl
unique_firsts down (row ∷ rows) ordered = ap (λ list. row ∷ list) (later_firsts down row rows ordered.1 ordered.0)
