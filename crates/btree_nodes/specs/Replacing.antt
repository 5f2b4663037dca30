-- What putting another element in a place leaves of a node.
use Rattle.std.specs.Prelude.{◌≡◌, ℕ, slice_index_or, slice_set}
use Rattle.arc_core.specs.declared.trees.Elem.{Elem}
use Rattle.btree_nodes.specs.Subtree.{Subtree}

-- The element in that place is another one now, and the old one was handed out; all else is as it was.
pub record IsReplaced (before : Subtree) (place : ℕ) (elem : Elem) (after : Subtree) (out : Elem) : Type 0 where
  pub elements : after.elements ≡ slice_set before.elements place elem
  pub handed : out ≡ slice_index_or before.elements place out
  pub height : after.height ≡ before.height
  pub width : after.width ≡ before.width
  pub room : after.room ≡ before.room
