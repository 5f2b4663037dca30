-- Where a place among the elements below some children lies.
use Rattle.std.specs.Prelude.{◌≡◌, ℕ, ◌+◌, ◌<◌, ◌≤◌, List, length, take, slice_index_or}
use Rattle.btree_nodes.specs.Subtree.{Subtree, all_elements}

-- The place is place `offset` below the child at `index`, or behind its last element where it is behind all.
pub record IsFoundAt (children : List Subtree) (place index offset : ℕ) : Type 0 where
  pub within : index < length children
  pub before : place ≡ length (all_elements (take index children)) + offset
  pub below : (d : Subtree) → offset ≤ length (slice_index_or children index d).elements
  pub inside : (d : Subtree) → place < length (all_elements children) → offset < length (slice_index_or children index d).elements
