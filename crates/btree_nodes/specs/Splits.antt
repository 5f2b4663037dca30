-- What a split of a full node leaves.
use Rattle.std.specs.Prelude.{◌≡◌, ℕ, ◌+◌, ◌≤◌, ◌++◌}
use Rattle.btree_nodes.specs.declared.spare.Spare.{Spare}
use Rattle.btree_nodes.specs.Subtree.{Subtree, IsDense}

-- A node is now two of 16 elements or children, with its elements in order.
pub record IsSplit (old first second : Subtree) : Type 0 where
  pub elements : old.elements ≡ first.elements ++ second.elements
  pub first_height : first.height ≡ old.height
  pub second_height : second.height ≡ old.height
  pub first_width : first.width ≡ 16
  pub second_width : second.width ≡ 16
  pub first_room : first.room ≡ old.room
  pub second_room : 32 ≤ second.room
  pub first_dense : IsDense first
  pub second_dense : IsDense second

-- One spare node was used, for a node of this height.
pub record IsSpent (height : ℕ) (old new : Spare) : Type 0 where
  pub leaves : height ≡ 1 → (old.leaves ≡ new.leaves + 1) × (old.branches ≡ new.branches)
  pub branches : 2 ≤ height → (old.leaves ≡ new.leaves) × (old.branches ≡ new.branches + 1)
