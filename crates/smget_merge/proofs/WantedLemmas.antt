-- Which rows are wanted.
use Rattle.std.proofs.Common.{◌≡◌, Bool, true, false, not, ◌&&◌, List, [], ◌∷◌, ◌++◌, Option, Some, refl, ap, sym, ◌∙◌, inl, inr}
use Rattle.std.specs.List.{filter}
use Rattle.std.proofs.lemmas.Bool.{cases_Bool, and_cases, and_parts, not-true, not-false}
use Rattle.std.proofs.lemmas.List.{append_assoc}
use Rattle.arc_core.specs.declared.bkeys.Bkey.{Bkey}
use Rattle.arc_core.specs.declared.filters.Filter.{Filter}
use Rattle.arc_core.specs.TreeReading.{is_selected}
use Rattle.smget_merge.specs.MergedRows.{TreeRow, first_of_each, has_last, wanted}
use Rattle.smget_merge.specs.Merges.{HandsOut, Merging, is_wanted}

module _ (asked : Option Filter) where
  passing : List TreeRow → List TreeRow
  passing rows = filter (λ row. is_selected asked row.element) rows

  kept : (row : TreeRow) (rows : List TreeRow) → is_selected asked row.element ≡ true → filter (λ (row : TreeRow). is_selected asked row.element) (row ∷ rows) ≡ row ∷ filter (λ (row : TreeRow). is_selected asked row.element) rows
  kept row rows passes = rw passes refl

  dropped : (row : TreeRow) (rows : List TreeRow) → is_selected asked row.element ≡ false → filter (λ (row : TreeRow). is_selected asked row.element) (row ∷ rows) ≡ filter (λ (row : TreeRow). is_selected asked row.element) rows
  dropped row rows fails = rw fails refl

  unselected : (unique : Bool) (last : Option Bkey) (row : TreeRow) (rows : List TreeRow) → is_selected asked row.element ≡ false → wanted asked unique last (row ∷ rows) ≡ wanted asked unique last rows
  unselected true last row rows fails = ap (first_of_each last) (dropped row rows fails)
  unselected false last row rows fails = dropped row rows fails

  seen : (unique : Bool) (last : Option Bkey) (row : TreeRow) (rows : List TreeRow) → is_selected asked row.element ≡ true → (unique && has_last last row.element) ≡ true → wanted asked unique last (row ∷ rows) ≡ wanted asked unique last rows
  seen true last row rows passes same = ap (first_of_each last) (kept row rows passes) ∙ rw same refl
  seen false last row rows passes same = cc

  first : (unique : Bool) (last : Option Bkey) (row : TreeRow) (rows : List TreeRow) → is_selected asked row.element ≡ true → (unique && has_last last row.element) ≡ false → wanted asked unique last (row ∷ rows) ≡ row ∷ wanted asked unique (Some row.element.bkey) rows
  first true last row rows passes new = ap (first_of_each last) (kept row rows passes) ∙ rw new refl
  first false last row rows passes new = kept row rows passes

  pub wanted_first : (unique : Bool) (last : Option Bkey) (row : TreeRow) (rows : List TreeRow) → is_wanted asked unique last row.element ≡ true → wanted asked unique last (row ∷ rows) ≡ row ∷ wanted asked unique (Some row.element.bkey) rows
  wanted_first unique last row rows is =
      let parts = and_parts (is_selected asked row.element) (not (unique && has_last last row.element)) is in
      first unique last row rows parts.0 (not-true (unique && has_last last row.element) parts.1)

  pub passed_over : (unique : Bool) (last : Option Bkey) (row : TreeRow) (rows : List TreeRow) → is_wanted asked unique last row.element ≡ false → wanted asked unique last (row ∷ rows) ≡ wanted asked unique last rows
  passed_over unique last row rows is = elim (cases_Bool (is_selected asked row.element)) [
    | inl passes ↦ elim (and_cases (is_selected asked row.element) (not (unique && has_last last row.element)) is) [
      | inl fails ↦ unselected unique last row rows fails
      | inr same ↦ seen unique last row rows passes (not-false (unique && has_last last row.element) same)
    ]
    | inr fails ↦ unselected unique last row rows fails
  ]

-- How far a merge has come: what was passed over was not wanted.
pub record HasPassed (asked : Option Filter) (unique : Bool) (old now : Merging) : Type 0 where
  pub wanted_is : wanted asked unique old.last old.left ≡ wanted asked unique now.last now.left
  pub last : now.last ≡ old.last
  pub passed : (rows : List TreeRow) × (old.left ≡ rows ++ now.left)

module _ (asked : Option Filter) (unique : Bool) (old now next : Merging) (row : TreeRow) (so_far : HasPassed asked unique old now) (taken : now.left ≡ row ∷ next.left) (same : next.last ≡ now.last) where
  from_next : wanted asked unique old.last old.left ≡ wanted asked unique next.last (row ∷ next.left)
  from_next = so_far.wanted_is ∙ (ap (wanted asked unique now.last) taken ∙ ap (λ last. wanted asked unique last (row ∷ next.left)) (sym same))

  -- a row more that is not wanted
  pub passes_more : is_wanted asked unique next.last row.element ≡ false → HasPassed asked unique old next
  passes_more is = record {
    wanted_is = from_next ∙ passed_over asked unique next.last row next.left is;
    last = same ∙ so_far.last;
    passed = (so_far.passed.0 ++ row ∷ [], so_far.passed.1 ∙ (ap (λ rows. so_far.passed.0 ++ rows) taken ∙ sym (append_assoc so_far.passed.0 (row ∷ []) next.left)));
  }

  -- the first row that is wanted
  pub hands_out : is_wanted asked unique next.last row.element ≡ true → (new : Merging) → new.left ≡ next.left → new.last ≡ Some row.element.bkey → HandsOut asked unique old row new
  hands_out is new left last = record {
    first = from_next ∙ (wanted_first asked unique next.last row next.left is ∙ (ap (λ rows. row ∷ wanted asked unique (Some row.element.bkey) rows) (sym left) ∙ ap (λ bkey. row ∷ wanted asked unique bkey new.left) (sym last)));
    others = (so_far.passed.0, so_far.passed.1 ∙ ap (λ rows. so_far.passed.0 ++ rows) (taken ∙ ap (λ rows. row ∷ rows) (sym left)));
    last = last;
  }
