-- What contracts see of a tree.
use Rattle.std.specs.Prelude.{ℕ, ◌-◌, ◌^◌, ◌≤◌, List}
use Rattle.arc_core.specs.declared.trees.Elem.{Elem}

-- The elements by rising bkeys, for how many further elements there is room, and how many nodes stand on a way from the root
-- down to a leaf, both of them too.
pub record Contents : Type 0 where
  pub elements : List Elem
  pub spare : ℕ
  pub height : ℕ

-- A tree of so many elements may be so high: above one level it has at least 16 to the levels below the root.
abbrev pub MayBeHigh : (count height : ℕ) → Type 0
MayBeHigh count height = 2 ≤ height → 16 ^ (height - 1) ≤ count
