-- What contracts see of a set.
use Rattle.std.specs.Prelude.{ℕ, ◌-◌, min, List}

-- The values in the order of insertion, and for how many further values there is room.
pub record SetContents : Type 0 where
  pub values : List (List ℕ)
  pub spare : ℕ

-- the most values of a set, so that its count is a number of 32 bits
abbrev pub most_values : ℕ
most_values = 4_294_967_295

-- the room of a set of n values, of which memory allows so many further
abbrev pub room_of : ℕ → ℕ → ℕ
room_of n further = min further (most_values - n)
