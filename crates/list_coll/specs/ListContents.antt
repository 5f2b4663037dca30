-- What contracts see of a list.
use Rattle.std.specs.Prelude.{ℕ, ◌-◌, min, List}

-- The values of the elements, from the head on, and for how many further elements there is room.
pub record ListContents : Type 0 where
  pub values : List (List ℕ)
  pub spare : ℕ

-- the most elements of a list, so that its count is a number of 32 bits
abbrev pub most_elements : ℕ
most_elements = 4_294_967_295

-- the room of a list of n elements, of which memory allows so many further
abbrev pub room_of : ℕ → ℕ → ℕ
room_of n further = min further (most_elements - n)
