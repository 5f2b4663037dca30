-- What an insert leaves of a node.
use Rattle.std.specs.Prelude.{◌≡◌, ℕ, ◌+◌, ◌≤◌, ◌<◌, List, length, take, insert, slice_index_or}
use Rattle.arc_core.specs.declared.trees.Elem.{Elem}
use Rattle.btree_nodes.specs.Subtree.{Subtree, all_elements, height_over, IsDense}

-- An element was inserted at a place.
pub record IsGrown (old : Subtree) (place : ℕ) (elem : Elem) (new : Subtree) : Type 0 where
  pub elements : new.elements ≡ insert old.elements place elem
  pub height : new.height ≡ old.height
  pub width : old.width ≤ new.width
  pub room : old.room ≤ new.room
  pub dense : IsDense new

-- Some children have the elements that they had, and the place below the child at `index` lies below the one at `index'`
-- now, which is not full.
pub record IsRoomMade (old new : List Subtree) (index offset index' offset' : ℕ) : Type 0 where
  pub elements : all_elements new ≡ all_elements old
  pub height : height_over new ≡ height_over old
  pub length_is : length old ≤ length new
  pub within : index' < length new
  pub place : length (all_elements (take index' new)) + offset' ≡ length (all_elements (take index old)) + offset
  pub below : (d : Subtree) → offset' ≤ length (slice_index_or new index' d).elements
  pub not_full : (d : Subtree) → (slice_index_or new index' d).width < 32
