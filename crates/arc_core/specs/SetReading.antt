-- Values of sets.
use Rattle.std.specs.Prelude.{◌≢◌, ℕ, List, Option, position, bytes_eq, AllPairs}

-- the place of a value, counted from 0 in the order of insertion
abbrev pub place_of : List ℕ → List (List ℕ) → Option ℕ
place_of value values = position (bytes_eq value) values

-- no value is there twice
abbrev pub AreDistinct : List (List ℕ) → Type 0
AreDistinct values = AllPairs (λ x y. x ≢ y) values
