-- Empty vectors that are kept for nodes.
use Rattle.std.specs.Prelude.{◌≡◌, ◌≤◌, [], vec_capacity}
use Rattle.std.specs.declared.vec.Vec.{Vec}

-- A vector is empty and has room for 32.
pub record IsEmptyRoom {T Z : Type 0} (vector : Vec T Z) : Type 0 where
  pub empty : vector.items ≡ []
  pub roomy : 32 ≤ vec_capacity vector
