-- What a removal of elements that stand next to each other leaves.
use Rattle.std.specs.Prelude.{◌≡◌, ◌≢◌, ℕ, ◌+◌, ◌-◌, ◌%◌, ◌^◌, ◌≤◌, ◌<◌, List, ◌++◌, length, slice_index_or, slice_range, Option, Some, None}
use Rattle.std.specs.List.{All, remove_range}
use Rattle.arc_core.specs.declared.trees.Elem.{Elem}
use Rattle.arc_core.specs.TreeContents.{elem_sizes}
use Rattle.btree_nodes.specs.declared.runs.Run.{Run}
use Rattle.btree_nodes.specs.Subtree.{Subtree, all_elements, height_over, IsBranch, IsChildAt, IsDense}

-- At least one and at most so many elements, from a place on, were removed; the last of them is at hand, and so are the
-- stated sizes of all of them, modulo 2^64.
pub record IsRun (old : List Elem) (place limit : ℕ) (new : List Elem) (run : Run) : Type 0 where
  pub some : 1 ≤ run.count
  pub most : run.count ≤ limit
  pub within : place + run.count ≤ length old
  pub elements : new ≡ remove_range old place (place + run.count)
  pub size : run.size ≡ elem_sizes (slice_range old place (place + run.count)) % 2 ^ 64
  pub last : (d : Elem) → run.last ≡ Some (slice_index_or old (place + (run.count - 1)) d)

-- A node lost such a run.
pub record IsTrimmed (old : Subtree) (place limit : ℕ) (new : Subtree) (run : Run) : Type 0 where
  pub removed : IsRun old.elements place limit new.elements run
  pub height : new.height ≡ old.height
  pub room : old.room ≤ new.room
  pub width : new.width ≤ old.width
  pub dense : IsDense new

-- What a branch asks of a child, but for the least number of its elements or children.
pub record IsLooseAt (height : ℕ) (child : Subtree) : Type 0 where
  pub level : child.height + 1 ≡ height
  pub high : 1 ≤ child.height
  pub roomy : 32 ≤ child.room
  pub dense : IsDense child

-- A branch of two children at least, one of which may have lost too much.
pub record IsLooseBranch (children : List Subtree) (room index : ℕ) : Type 0 where
  pub two : 2 ≤ length children
  pub most : length children ≤ 32
  pub roomy : 32 ≤ room
  pub within : index < length children
  pub balanced : All (IsLooseAt (height_over children)) children
  pub wide : (k : ℕ) (d : Subtree) → k < length children → k ≢ index → 16 ≤ (slice_index_or children k d).width

-- The children keep the rules of a branch now, and the elements below them are as before.
pub record IsMended (old new : List Subtree) (room : ℕ) : Type 0 where
  pub branch : IsBranch new room
  pub elements : all_elements new ≡ all_elements old
  pub height : height_over new ≡ height_over old
  pub length_is : length new ≤ length old
  -- one that is left alone is not full
  pub alone : length new ≡ 1 → (d : Subtree) → (slice_index_or new 0 d).width < 32

-- Two neighbours became one node or two, which keep the rules of a branch of this height.
abbrev pub IsPaired : ℕ → Subtree → Subtree → Subtree → Option Subtree → Type 0
IsPaired height left right first None = IsChildAt height first × (first.width < 32) × (first.elements ≡ left.elements ++ right.elements)
IsPaired height left right first (Some second) = IsChildAt height first × IsChildAt height second × (first.elements ++ second.elements ≡ left.elements ++ right.elements)
