-- What is moved between two neighbours.
use Rattle.std.specs.Prelude.{◌≡◌, ◌≤◌, ◌++◌, length, vec_capacity}
use Rattle.std.specs.declared.vec.Vec.{Vec}

-- Two vectors hold what they held, in order, and each has 16 to 32 items now.
pub record IsLeveled {T Z : Type 0} (left right first second : Vec T Z) : Type 0 where
  pub items : first.items ++ second.items ≡ left.items ++ right.items
  pub first_least : 16 ≤ length first.items
  pub first_most : length first.items ≤ 32
  pub second_least : 16 ≤ length second.items
  pub second_most : length second.items ≤ 32
  pub first_room : vec_capacity left ≤ vec_capacity first
  pub second_room : vec_capacity right ≤ vec_capacity second
