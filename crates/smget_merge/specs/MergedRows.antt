-- The rows of several trees as one read in the range's direction. (A read over many trees is the ARCUS protocol's `smget`; that
-- rows of one bkey come in the order of the trees, and that the first of them is kept, is this server's own.)
use Rattle.std.specs.Prelude.{ℕ, Bool, true, false, not, List, [], ◌∷◌, map, filter, flat_map, if◌then◌else◌, Option, None, Some}
use Rattle.std.specs.Ordering.{is_lt, is_eq}
use Rattle.std.specs.declared.cmp.Ordering.{Ordering}
use Rattle.arc_core.specs.declared.bkeys.Bkey.{Bkey}
use Rattle.arc_core.specs.declared.filters.Filter.{Filter}
use Rattle.arc_core.specs.declared.trees.Elem.{Elem}
use Rattle.arc_core.specs.declared.bkeys.BkeyRange.{BkeyRange}
use Rattle.arc_core.specs.BkeyOrder.{bkey_cmp, is_down, span}
use Rattle.arc_core.specs.TreeReading.{is_selected, selected}

-- an element with the number of its tree
pub record TreeRow : Type 0 where
  pub number : ℕ
  pub element : Elem

-- elements of one tree as rows
abbrev pub rows_of : ℕ → List Elem → List TreeRow
rows_of number elements = map (λ element. record { number = number; element = element }) elements

-- the order of bkeys in a direction
abbrev pub bkey_order : Bool → Bkey → Bkey → Ordering
bkey_order true x y = bkey_cmp y x
bkey_order false x y = bkey_cmp x y

-- whether an element comes before another one in a direction, by their bkeys
abbrev pub is_before : Bool → Elem → Elem → Bool
is_before down x y = is_lt (bkey_order down x.bkey y.bkey)

-- a row behind all those whose bkeys come before its own, and before those with its bkey
abbrev pub with_row : Bool → TreeRow → List TreeRow → List TreeRow
with_row down row [] = row ∷ []
with_row down row (other ∷ rows) = if is_before down other.element row.element then other ∷ with_row down row rows else row ∷ other ∷ rows

-- the rows by their bkeys in a direction; rows of one bkey keep their order
abbrev pub sorted : Bool → List TreeRow → List TreeRow
sorted down [] = []
sorted down (row ∷ rows) = with_row down row (sorted down rows)

-- whether an element has this bkey, where there is one
abbrev pub has_last : Option Bkey → Elem → Bool
has_last None element = false
has_last (Some last) element = is_eq (bkey_cmp element.bkey last)

-- of rows with one bkey that follow one another, the first; none of those in front that have the bkey `last`, which was seen before
abbrev pub first_of_each : Option Bkey → List TreeRow → List TreeRow
first_of_each last [] = []
first_of_each last (row ∷ rows) = if has_last last row.element then first_of_each last rows else row ∷ first_of_each (Some row.element.bkey) rows

-- the rows that pass the filter, where there is one; of each bkey the first alone where they are to be unique
abbrev pub wanted : Option Filter → Bool → Option Bkey → List TreeRow → List TreeRow
wanted asked true last rows = first_of_each last (filter (λ row. is_selected asked row.element) rows)
wanted asked false last rows = filter (λ row. is_selected asked row.element) rows

-- the rows of trees, which are given by their numbers and elements, that a read selects: one tree after another
abbrev pub selected_rows : BkeyRange → Option Filter → List (ℕ × List Elem) → List TreeRow
selected_rows range asked trees = flat_map (λ tree. rows_of tree.0 (selected range asked tree.1)) trees

-- the first row of each bkey
abbrev pub firsts : List TreeRow → List TreeRow
firsts [] = []
firsts (row ∷ rows) = row ∷ filter (λ other. not (has_last (Some row.element.bkey) other.element)) (firsts rows)

-- a merged read of trees: what it selects, sorted by bkey in the range's direction; the first row of each bkey alone where they are
-- to be unique
abbrev pub merged : BkeyRange → Option Filter → Bool → List (ℕ × List Elem) → List TreeRow
merged range asked true trees = firsts (sorted (is_down range) (selected_rows range asked trees))
merged range asked false trees = sorted (is_down range) (selected_rows range asked trees)

-- the rows of trees that a range has, one tree after another
abbrev pub rows_in : BkeyRange → List (ℕ × List Elem) → List TreeRow
rows_in range trees = flat_map (λ tree. rows_of tree.0 (span (λ element. element.bkey) range tree.1)) trees
