-- How many spare nodes an insert may use.
use Rattle.std.specs.Prelude.{ℕ, ◌+◌, ◌≤◌}
use Rattle.btree_nodes.specs.declared.spare.Spare.{Spare}

-- They are enough for an insert below a node of this height that is not full: for a split of each node below it.
pub record AreEnough (spare : Spare) (height : ℕ) : Type 0 where
  pub leaf : 2 ≤ height → 1 ≤ spare.leaves
  pub branches : height ≤ spare.branches + 2

-- They are enough for an insert below each child of a branch of this height, where the child is not full.
pub record AreEnoughBelow (spare : Spare) (height : ℕ) : Type 0 where
  pub leaf : 3 ≤ height → 1 ≤ spare.leaves
  pub branches : height ≤ spare.branches + 3
