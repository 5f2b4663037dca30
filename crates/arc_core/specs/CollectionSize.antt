-- The stated sizes of what lists, sets and maps hold (this server's own).
use Rattle.std.specs.Prelude.{ℕ, ◌+◌, List, length, sum_by}

-- the stated size of an element of a list or a set, in bytes: 32 and its value
abbrev pub value_size : List ℕ → ℕ
value_size value = 32 + length value

-- the stated sizes of these elements together
abbrev pub values_size : List (List ℕ) → ℕ
values_size values = sum_by value_size values

-- the stated size of a pair of a map, in bytes: 32, its field and its value
abbrev pub pair_size : List ℕ × List ℕ → ℕ
pair_size pair = 32 + length pair.0 + length pair.1

-- the stated sizes of these pairs together
abbrev pub pairs_size : List (List ℕ × List ℕ) → ℕ
pairs_size pairs = sum_by pair_size pairs
