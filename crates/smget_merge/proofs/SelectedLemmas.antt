-- It is the same to select rows first and to sort them then.
use Rattle.std.proofs.Common.{◌≡◌, ℕ, Bool, true, false, List, [], ◌∷◌, ◌++◌, Option, None, refl, ap, sym, ◌∙◌, inl, inr}
use Rattle.std.specs.List.{filter}
use Rattle.std.proofs.lemmas.Bool.{cases_Bool}
use Rattle.std.proofs.lemmas.List.Elements.{All-filter, filter-append}
use Rattle.arc_core.specs.declared.bkeys.BkeyRange.{BkeyRange}
use Rattle.arc_core.specs.declared.filters.Filter.{Filter}
use Rattle.arc_core.specs.declared.trees.Elem.{Elem}
use Rattle.arc_core.specs.BkeyOrder.{is_down, span}
use Rattle.arc_core.specs.TreeReading.{is_selected, selected}
use Rattle.smget_merge.specs.MergedRows.{TreeRow, first_of_each, is_before, merged, rows_in, rows_of, selected_rows, sorted, wanted, with_row}
use Rattle.smget_merge.proofs.OrderedLemmas.{IsOrdered, all_not_before, sorted_ordered, unique_firsts}
use Rattle.smget_merge.proofs.SortLemmas.{behind, in_front, foremost}

module _ (p : TreeRow → Bool) where
  kept : (row : TreeRow) (rows : List TreeRow) → p row ≡ true → filter p (row ∷ rows) ≡ row ∷ filter p rows
  kept row rows passes = rw passes refl

  dropped : (row : TreeRow) (rows : List TreeRow) → p row ≡ false → filter p (row ∷ rows) ≡ filter p rows
  dropped row rows fails = rw fails refl

  filter_kept : (down : Bool) (row : TreeRow) (rows : List TreeRow) → IsOrdered down rows → p row ≡ true → filter p (with_row down row rows) ≡ with_row down row (filter p rows)
  filter_kept down row [] ordered passes = kept row [] passes
  filter_kept down row (other ∷ rows) ordered passes = elim (cases_Bool (is_before down other.element row.element)) [
    | inl before ↦ ap (filter p) (behind down row other rows before) ∙ elim (cases_Bool (p other)) [
      | inl stays ↦ kept other (with_row down row rows) stays ∙ (ap (λ list. other ∷ list) (filter_kept down row rows ordered.1 passes)
          ∙ (sym (behind down row other (filter p rows) before) ∙ ap (with_row down row) (sym (kept other rows stays))))
      | inr goes ↦ dropped other (with_row down row rows) goes ∙ (filter_kept down row rows ordered.1 passes ∙ ap (with_row down row) (sym (dropped other rows goes)))
    ]
    | inr none ↦ ap (filter p) (in_front down row other rows none) ∙ (kept row (other ∷ rows) passes
        ∙ sym (foremost down row (filter p (other ∷ rows)) (All-filter p (λ (z : TreeRow). is_before down z.element row.element ≡ false) (other ∷ rows) (all_not_before down row other rows none ordered.0))))
  ]

  filter_dropped : (down : Bool) (row : TreeRow) (rows : List TreeRow) → p row ≡ false → filter p (with_row down row rows) ≡ filter p rows
  filter_dropped down row [] fails = dropped row [] fails
  filter_dropped down row (other ∷ rows) fails = elim (cases_Bool (is_before down other.element row.element)) [
    | inl before ↦ ap (filter p) (behind down row other rows before) ∙ elim (cases_Bool (p other)) [
      | inl stays ↦ kept other (with_row down row rows) stays ∙ (ap (λ list. other ∷ list) (filter_dropped down row rows fails) ∙ sym (kept other rows stays))
      | inr goes ↦ dropped other (with_row down row rows) goes ∙ (filter_dropped down row rows fails ∙ sym (dropped other rows goes))
    ]
    | inr none ↦ ap (filter p) (in_front down row other rows none) ∙ dropped row (other ∷ rows) fails
  ]

  pub filter_sorted : (down : Bool) (rows : List TreeRow) → filter p (sorted down rows) ≡ sorted down (filter p rows)
  filter_sorted down [] = refl
  filter_sorted down (row ∷ rows) = elim (cases_Bool (p row)) [
    | inl passes ↦ filter_kept down row (sorted down rows) (sorted_ordered down rows) passes ∙ (ap (with_row down row) (filter_sorted down rows) ∙ ap (sorted down) (sym (kept row rows passes)))
    | inr fails ↦ filter_dropped down row (sorted down rows) fails ∙ (filter_sorted down rows ∙ ap (sorted down) (sym (dropped row rows fails)))
  ]

module _ (asked : Option Filter) where
  abbrev is_asked : TreeRow → Bool
  is_asked row = is_selected asked row.element

  rows_filter : (number : ℕ) (elements : List Elem) → filter (λ (row : TreeRow). is_selected asked row.element) (rows_of number elements) ≡ rows_of number (filter (is_selected asked) elements)
  rows_filter number [] = refl
  rows_filter number (x ∷ xs) = elim (cases_Bool (is_selected asked x)) [
    | inl passes ↦ rw passes (ap (λ list. record { number = number; element = x } ∷ list) (rows_filter number xs))
    | inr fails ↦ rw fails (rows_filter number xs)
  ]

  pub filter_rows : (range : BkeyRange) (trees : List (ℕ × List Elem)) → filter (λ (row : TreeRow). is_selected asked row.element) (rows_in range trees) ≡ selected_rows range asked trees
  filter_rows range [] = refl
  filter_rows range (tree ∷ trees) =
      let p : TreeRow → Bool = λ row. is_selected asked row.element in
      let rows = rows_of tree.0 (span (λ element. element.bkey) range tree.1) in
      filter-append p rows (rows_in range trees)
      ∙ (ap (λ list. list ++ filter p (rows_in range trees)) (rows_filter tree.0 (span (λ element. element.bkey) range tree.1)) ∙ ap (λ list. rows_of tree.0 (selected range asked tree.1) ++ list) (filter_rows range trees))

  selects : (range : BkeyRange) (trees : List (ℕ × List Elem)) → filter (λ (row : TreeRow). is_selected asked row.element) (sorted (is_down range) (rows_in range trees)) ≡ sorted (is_down range) (selected_rows range asked trees)
  selects range trees = filter_sorted (λ (row : TreeRow). is_selected asked row.element) (is_down range) (rows_in range trees) ∙ ap (sorted (is_down range)) (filter_rows range trees)

  pub reads : (range : BkeyRange) (unique : Bool) (trees : List (ℕ × List Elem)) → wanted asked unique None (sorted (is_down range) (rows_in range trees)) ≡ merged range asked unique trees
  reads range true trees = ap (first_of_each None) (selects range trees) ∙ unique_firsts (is_down range) (sorted (is_down range) (selected_rows range asked trees)) (sorted_ordered (is_down range) (selected_rows range asked trees))
  reads range false trees = selects range trees
