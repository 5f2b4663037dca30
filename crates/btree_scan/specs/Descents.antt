-- What the steps of a walk from leaf to leaf leave.
use Rattle.std.specs.Prelude.{◌≡◌, ◌⊎◌, ◌+◌, ◌≤◌, Bool, List, [], length}
use Rattle.std.specs.Borrow.{Bor}
use Rattle.arc_core.specs.declared.trees.Elem.{Elem}
use Rattle.btree_nodes.specs.Subtree.{Subtree, IsChildAt}
use Rattle.btree_scan.specs.Directions.{joined}
use Rattle.btree_scan.specs.Ways.{ahead, beside, AreLevels}

-- A child was the nearest that stood ahead: one beside the leaf, or else nothing was left there.
pub record IsNearest (down : Bool) (old : List (Bor (List Subtree))) (child : Subtree) (new : List (Bor (List Subtree))) : Type 0 where
  pub elements : ahead down old ≡ joined down child.elements (ahead down new)
  pub is_child : IsChildAt (child.height + 1) child
  pub levels : AreLevels child.height new
  pub depth : length new + child.height ≡ length old + 1
  pub sibling : child.height ≡ 1 → length (beside old) ≡ length child.elements + length (beside new)
  pub passed : 2 ≤ child.height → beside old ≡ []

-- The way went on from a child down to its nearest leaf.
pub record IsNearLeaf (down : Bool) (old : List (Bor (List Subtree))) (child : Subtree) (leaf : List Elem) (new : List (Bor (List Subtree))) : Type 0 where
  pub elements : joined down leaf (ahead down new) ≡ joined down child.elements (ahead down old)
  pub levels : AreLevels 1 new
  pub depth : length new + 1 ≡ length old + child.height
  pub least : 16 ≤ length leaf
  pub most : length leaf ≤ 32
  pub same : child.height ≡ 1 → (leaf ≡ child.elements) × (new ≡ old)
  pub fresh : 2 ≤ child.height → 256 ≤ length leaf + length (beside new)

-- All of a leaf is at hand, or a part of it and nothing is ahead any more.
abbrev pub IsCut : List Elem → List Elem → (old new : List (Bor (List Subtree))) → Type 0
IsCut leaf elements old new = (new ≡ []) ⊎ ((new ≡ old) × (elements ≡ leaf))
