-- The places of a bkey among elements by rising bkeys.
use Rattle.std.specs.Prelude.{◌≡◌, ℕ, ◌-◌, ◌≤◌, true, false, List, length, take, drop}
use Rattle.std.specs.List.{All}
use Rattle.arc_core.specs.declared.bkeys.Bkey.{Bkey}
use Rattle.arc_core.specs.declared.bkeys.Bkey.TheVariants.{Number}
use Rattle.arc_core.specs.declared.trees.Elem.{Elem}
use Rattle.arc_core.specs.TreeContents.{IsRising, is_below, is_above}

-- The elements before this place are below the bkey, and the others are not.
pub record IsCutAt (bkey : Bkey) (elements : List Elem) (place : ℕ) : Type 0 where
  pub rising : IsRising elements
  pub within : place ≤ length elements
  pub before : All (λ element. is_below bkey element ≡ true) (take place elements)
  pub behind : All (λ element. is_below bkey element ≡ false) (drop place elements)

-- So many of the last elements are above the number, and the others are not.
pub record IsCutAbove (number : ℕ) (elements : List Elem) (count : ℕ) : Type 0 where
  pub within : count ≤ length elements
  pub before : All (λ element. is_above (Number number) element ≡ false) (take (length elements - count) elements)
  pub behind : All (λ element. is_above (Number number) element ≡ true) (drop (length elements - count) elements)

-- The bkey has this place and is not there: the elements before the place are below it, and the others above it.
pub record IsNewAt (bkey : Bkey) (elements : List Elem) (place : ℕ) : Type 0 where
  pub rising : IsRising elements
  pub within : place ≤ length elements
  pub before : All (λ element. is_below bkey element ≡ true) (take place elements)
  pub behind : All (λ element. is_above bkey element ≡ true) (drop place elements)
