-- What contracts see of a map.
use Rattle.std.specs.Prelude.{ℕ, ◌-◌, min, List}

-- The pairs of a field and its value, in the order of insertion, and for how many further pairs there is room.
pub record MapContents : Type 0 where
  pub pairs : List (List ℕ × List ℕ)
  pub spare : ℕ

-- the most pairs of a map, so that its count is a number of 32 bits
abbrev pub most_pairs : ℕ
most_pairs = 4_294_967_295

-- the room of a map of n pairs, of which memory allows so many further
abbrev pub room_of : ℕ → ℕ → ℕ
room_of n further = min further (most_pairs - n)
