-- Which places the elements of a range have.
use Rattle.std.specs.Prelude.{◌≡◌, ℕ, ◌+◌, ◌≤◌, List, length, filter, slice_range, if◌then◌else◌}
use Rattle.arc_core.specs.declared.bkeys.Bkey.{Bkey}
use Rattle.arc_core.specs.declared.bkeys.BkeyRange.{BkeyRange}
use Rattle.arc_core.specs.declared.trees.Elem.{Elem}
use Rattle.arc_core.specs.BkeyOrder.{is_in_range}
use Rattle.arc_core.specs.TreeContents.{place_of}
use Rattle.btree_nodes.specs.Ways.{has_bkey}

-- how many elements have this bkey or a smaller one
abbrev pub number_up_to : Bkey → List Elem → ℕ
number_up_to bkey elements = place_of bkey elements + (if has_bkey bkey elements then 1 else 0)

-- The elements of a range stand from one place to before another.
pub record ArePlaces (range : BkeyRange) (elements : List Elem) (low high : ℕ) : Type 0 where
  pub order : low ≤ high
  pub within : high ≤ length elements
  pub elements_are : filter (λ element. is_in_range range element.bkey) elements ≡ slice_range elements low high
