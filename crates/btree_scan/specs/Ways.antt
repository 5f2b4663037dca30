-- What stands ahead of a walk, level by level: the root's children first, those beside the leaf last.
use Rattle.std.specs.Prelude.{ℕ, ◌+◌, ◌-◌, ◌*◌, ◌/◌, ◌≤◌, Bool, ◌==◌, if◌then◌else◌, List, [], ◌∷◌, length, ⊤}
use Rattle.std.specs.List.{All}
use Rattle.std.specs.Borrow.{Bor}
use Rattle.arc_core.specs.declared.trees.Elem.{Elem}
use Rattle.arc_core.specs.TreeContents.{IsRising}
use Rattle.btree_nodes.specs.Subtree.{Subtree, all_elements, IsChildAt}
use Rattle.btree_scan.specs.Directions.{joined}

-- the elements below all that stands ahead, in the tree's order
abbrev pub ahead : Bool → List (Bor (List Subtree)) → List Elem
ahead down [] = []
ahead down (children ∷ lower) = joined down (ahead down lower) (all_elements children.now)

-- the elements below what stands beside the leaf
abbrev pub beside : List (Bor (List Subtree)) → List Elem
beside [] = []
beside (children ∷ []) = all_elements children.now
beside (children ∷ next ∷ lower) = beside (next ∷ lower)

-- The children are those of branches that lead down to a node of height `low`.
abbrev pub AreLevels : ℕ → List (Bor (List Subtree)) → Type 0
AreLevels low [] = ⊤
AreLevels low (children ∷ lower) = All (IsChildAt (low + 1 + length lower)) children.now × AreLevels low lower

-- What stands ahead of a leaf: by rising bkeys, and below at most eight levels.
pub record IsWay (down : Bool) (way : List (Bor (List Subtree))) : Type 0 where
  pub rising : IsRising (ahead down way)
  pub levels : AreLevels 1 way
  pub fits : length way ≤ 7

-- How many eighths of a step are saved up where so many elements of the leaf are left: none where nothing is ahead, and else
-- two steps at the leaf's end, and one more for each level above the leaf's parent at that one's end.
abbrev pub credit_of : Bool → ℕ → List (Bor (List Subtree)) → ℕ
credit_of down count way =
    if length (ahead down way) == 0 then 0 else (16 - count) + (8 * (length way - 1) - length (beside way) / 4)
