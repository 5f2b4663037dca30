-- What contracts see of a merge, and what its calls do.
use Rattle.std.specs.Prelude.{◌≡◌, ℕ, Bool, not, ◌&&◌, List, [], ◌∷◌, ◌++◌, Option, Some}
use Rattle.arc_core.specs.declared.bkeys.Bkey.{Bkey}
use Rattle.arc_core.specs.declared.bkeys.BkeyRange.{BkeyRange}
use Rattle.arc_core.specs.declared.filters.Filter.{Filter}
use Rattle.arc_core.specs.declared.trees.Elem.{Elem}
use Rattle.arc_core.specs.TreeReading.{is_selected}
use Rattle.smget_merge.specs.MergedRows.{TreeRow, has_last, wanted}

-- The range; for how many further trees there is room; the rows that are left, whether they are wanted or not; the bkey of the
-- row that was handed out last; and how many eighths of a step are saved up for nodes that are still to be entered.
pub record Merging : Type 0 where
  pub range : BkeyRange
  pub room : ℕ
  pub left : List TreeRow
  pub last : Option Bkey
  pub credit : ℕ

-- The first row that is wanted was handed out. With it went those before it, and no others.
pub record HandsOut (asked : Option Filter) (unique : Bool) (old : Merging) (row : TreeRow) (new : Merging) : Type 0 where
  pub first : wanted asked unique old.last old.left ≡ row ∷ wanted asked unique new.last new.left
  pub others : (passed : List TreeRow) × (old.left ≡ passed ++ row ∷ new.left)
  pub last : new.last ≡ Some row.element.bkey

-- No row was wanted, and none is left.
pub record IsUsedUp (asked : Option Filter) (unique : Bool) (old new : Merging) : Type 0 where
  pub none : wanted asked unique old.last old.left ≡ []
  pub left : new.left ≡ []
  pub last : new.last ≡ old.last

-- whether an element passes the filter, and has not the last bkey where rows are to be unique
abbrev pub is_wanted : Option Filter → Bool → Option Bkey → Elem → Bool
is_wanted asked unique last element = is_selected asked element && not (unique && has_last last element)
