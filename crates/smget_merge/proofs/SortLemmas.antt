-- Rows sorted by bkey.
use Rattle.std.proofs.Common.{◌≡◌, Bool, true, false, List, [], ◌∷◌, ◌++◌, ◌+◌, length, refl, ap, sym, ◌∙◌, inl, inr, arith}
use Rattle.std.specs.List.{All}
use Rattle.std.proofs.lemmas.Bool.{cases_Bool}
use Rattle.std.proofs.lemmas.List.Elements.{All-nil, All-cons, All-head, All-tail}
use Rattle.smget_merge.specs.MergedRows.{TreeRow, is_before, with_row, sorted}
use Rattle.smget_merge.proofs.OrderLemmas.{not_back, not_further}

module _ (down : Bool) where
  -- a row goes behind one that comes before it, and else in front
  pub behind : (row other : TreeRow) (rows : List TreeRow) → is_before down other.element row.element ≡ true → with_row down row (other ∷ rows) ≡ other ∷ with_row down row rows
  behind row other rows before = rw before refl

  pub in_front : (row other : TreeRow) (rows : List TreeRow) → is_before down other.element row.element ≡ false → with_row down row (other ∷ rows) ≡ row ∷ other ∷ rows
  in_front row other rows none = rw none refl

  -- of two rows of which one comes before the other, either may be put in first
  pub swapped : (x y : TreeRow) (rows : List TreeRow) → is_before down y.element x.element ≡ true → with_row down y (with_row down x rows) ≡ with_row down x (with_row down y rows)
  swapped x y [] before = in_front y x [] (not_back down y.element x.element before) ∙ sym (behind x y [] before)
  swapped x y (m ∷ rows) before = elim (cases_Bool (is_before down m.element x.element)) [
    | inl first ↦ elim (cases_Bool (is_before down m.element y.element)) [
      | inl earlier ↦
          ap (with_row down y) (behind x m rows first) ∙ (behind y m (with_row down x rows) earlier ∙ (ap (λ list. m ∷ list) (swapped x y rows before)
          ∙ (sym (behind x m (with_row down y rows) first) ∙ ap (with_row down x) (sym (behind y m rows earlier)))))
      | inr later ↦
          ap (with_row down y) (behind x m rows first) ∙ (in_front y m (with_row down x rows) later ∙ (ap (λ list. y ∷ list) (sym (behind x m rows first))
          ∙ (sym (behind x y (m ∷ rows) before) ∙ ap (with_row down x) (sym (in_front y m rows later)))))
    ]
    | inr last ↦
        let later = not_further down m.element x.element y.element before last in
        ap (with_row down y) (in_front x m rows last) ∙ (in_front y x (m ∷ rows) (not_back down y.element x.element before) ∙ (ap (λ list. y ∷ list) (sym (in_front x m rows last))
        ∙ (sym (behind x y (m ∷ rows) before) ∙ ap (with_row down x) (sym (in_front y m rows later)))))
  ]

  -- rows put in, the last one first
  pub with_rows : List TreeRow → List TreeRow → List TreeRow
  with_rows [] base = base
  with_rows (row ∷ rows) base = with_row down row (with_rows rows base)

  pub sorted_append : (xs ys : List TreeRow) → sorted down (xs ++ ys) ≡ with_rows xs (sorted down ys)
  unfolding with_rows
  sorted_append [] ys = refl
  sorted_append (x ∷ xs) ys = ap (with_row down x) (sorted_append xs ys)

  with_rows_put : (x : TreeRow) (list base : List TreeRow) → with_rows (with_row down x list) base ≡ with_row down x (with_rows list base)
  unfolding with_rows
  with_rows_put x [] base = refl
  with_rows_put x (y ∷ list) base = elim (cases_Bool (is_before down y.element x.element)) [
    | inl before ↦ ap (λ rows. with_rows rows base) (behind x y list before) ∙ (ap (with_row down y) (with_rows_put x list base) ∙ swapped x y (with_rows list base) before)
    | inr none ↦ ap (λ rows. with_rows rows base) (in_front x y list none)
  ]

  with_rows_sorted : (xs base : List TreeRow) → with_rows (sorted down xs) base ≡ with_rows xs base
  unfolding with_rows
  with_rows_sorted [] base = refl
  with_rows_sorted (x ∷ xs) base = with_rows_put x (sorted down xs) base ∙ ap (with_row down x) (with_rows_sorted xs base)

  -- rows that were sorted, with further ones
  pub sorted_again : (xs ys : List TreeRow) → sorted down (sorted down xs ++ ys) ≡ sorted down (xs ++ ys)
  sorted_again xs ys = sorted_append (sorted down xs) ys ∙ (with_rows_sorted xs (sorted down ys) ∙ sym (sorted_append xs ys))

  pub with_row_all : (P : TreeRow → Type 0) (row : TreeRow) (rows : List TreeRow) → P row → All P rows → All P (with_row down row rows)
  with_row_all P row [] here all = All-cons P row [] here (All-nil P)
  with_row_all P row (other ∷ rows) here all = elim (cases_Bool (is_before down other.element row.element)) [
    | inl before ↦ rw (behind row other rows before) (All-cons P other (with_row down row rows) (All-head P other rows all) (with_row_all P row rows here (All-tail P other rows all)))
    | inr none ↦ rw (in_front row other rows none) (All-cons P row (other ∷ rows) here all)
  ]

  sorted_all : (P : TreeRow → Type 0) (rows : List TreeRow) → All P rows → All P (sorted down rows)
  sorted_all P [] all = All-nil P
  sorted_all P (row ∷ rows) all = with_row_all P row (sorted down rows) (All-head P row rows all) (sorted_all P rows (All-tail P row rows all))

  -- a row goes in front of those of which none comes before it
  pub foremost : (row : TreeRow) (rows : List TreeRow) → All (λ (other : TreeRow). is_before down other.element row.element ≡ false) rows → with_row down row rows ≡ row ∷ rows
  foremost row [] all = refl
  foremost row (other ∷ rows) all = in_front row other rows (All-head (λ (other : TreeRow). is_before down other.element row.element ≡ false) other rows all)

  past_first : (row : TreeRow) (xs base : List TreeRow) → All (λ (other : TreeRow). is_before down row.element other.element ≡ true) xs → with_rows xs (row ∷ base) ≡ row ∷ with_rows xs base
  unfolding with_rows
  past_first row [] base all = refl
  past_first row (x ∷ xs) base all =
      let P : TreeRow → Type 0 = λ other. is_before down row.element other.element ≡ true in
      ap (with_row down x) (past_first row xs base (All-tail P x xs all)) ∙ behind x row (with_rows xs base) (All-head P x xs all)

  -- a row that comes before all in front of it, and before which none behind it comes, is the first
  pub sorted_first : (xs : List TreeRow) (row : TreeRow) (ys : List TreeRow) → All (λ (other : TreeRow). is_before down row.element other.element ≡ true) xs → All (λ (other : TreeRow). is_before down other.element row.element ≡ false) ys
      → sorted down (xs ++ row ∷ ys) ≡ row ∷ sorted down (xs ++ ys)
  sorted_first xs row ys before none =
      sorted_append xs (row ∷ ys) ∙ (ap (with_rows xs) (foremost row (sorted down ys) (sorted_all (λ (other : TreeRow). is_before down other.element row.element ≡ false) ys none))
      ∙ (past_first row xs (sorted down ys) before ∙ ap (λ list. row ∷ list) (sym (sorted_append xs ys))))

  with_row_length : (row : TreeRow) (rows : List TreeRow) → length (with_row down row rows) ≡ length rows + 1
  with_row_length row [] = refl
  with_row_length row (other ∷ rows) = elim (cases_Bool (is_before down other.element row.element)) [
    | inl before ↦ let more = with_row_length row rows in rw (behind row other rows before) (omega arith)
    | inr none ↦ rw (in_front row other rows none) (omega arith)
  ]

  pub sorted_length : (rows : List TreeRow) → length (sorted down rows) ≡ length rows
  sorted_length [] = refl
  sorted_length (row ∷ rows) = let rest = sorted_length rows in let more = with_row_length row (sorted down rows) in omega arith
