-- What is left of the walks of several trees.
use Rattle.std.specs.Prelude.{◌≡◌, ℕ, Bool, true, List, [], ◌∷◌, map, flat_map, sum_by, slice_get, Option, None, Some}
use Rattle.std.specs.Borrow.{Bor}
use Rattle.std.specs.List.{AllPairs}
use Rattle.arc_core.specs.declared.trees.Elem.{Elem}
use Rattle.smget_merge.specs.MergedRows.{TreeRow, rows_of, is_before}

-- The number of the tree, the elements that are left, and what is saved up for nodes that are still to be entered.
pub record WalkLeft : Type 0 where
  pub number : ℕ
  pub elements : List Elem
  pub credit : ℕ

-- the next element and those behind it
abbrev pub from_head : Option (Bor Elem) → List Elem → List Elem
from_head None left = []
from_head (Some head) left = head.now ∷ left

-- the rows of all walks, one walk after another
abbrev pub all_rows : List WalkLeft → List TreeRow
all_rows walks = flat_map (λ walk. rows_of walk.number walk.elements) walks

-- the next element of each walk
abbrev pub heads_of : List WalkLeft → List (Option Elem)
heads_of walks = map (λ walk. slice_get walk.elements 0) walks

-- what the walks have saved up together
abbrev pub all_credit : List WalkLeft → ℕ
all_credit walks = sum_by (λ walk. walk.credit) walks

-- Each element comes before all those behind it.
abbrev pub IsFacing : Bool → List Elem → Type 0
IsFacing down elements = AllPairs (λ x y. is_before down x y ≡ true) elements
