-- Fields of maps, and the pairs that they name.
use Rattle.std.specs.Prelude.{◌≢◌, ℕ, zero, suc, List, [], ◌∷◌, map, filter, filter_map, not, nat_eq, Bool, Option, position, slice_get, bytes_eq, AllPairs}
use Rattle.std.specs.List.{list_any}

-- the fields, in the same order
abbrev pub fields_of : List (List ℕ × List ℕ) → List (List ℕ)
fields_of pairs = map (λ pair. pair.0) pairs

-- the place of a field's pair, counted from 0 in the order of insertion
abbrev pub place_of : List ℕ → List (List ℕ × List ℕ) → Option ℕ
place_of field pairs = position (bytes_eq field) (fields_of pairs)

-- no field is there twice
abbrev pub HaveDistinctFields : List (List ℕ × List ℕ) → Type 0
HaveDistinctFields pairs = AllPairs (λ a b. a ≢ b) (fields_of pairs)

-- whether a field is among the names
abbrev pub is_named : List (List ℕ) → List ℕ → Bool
is_named names field = list_any (λ name. bytes_eq name field) names

-- the pairs whose fields are not among the names
abbrev pub without : List (List ℕ) → List (List ℕ × List ℕ) → List (List ℕ × List ℕ)
without names pairs = filter (λ pair. not (is_named names pair.0)) pairs

-- the pairs, where the one at a place has another value
abbrev pub with_value_at : List (List ℕ × List ℕ) → ℕ → List ℕ → List (List ℕ × List ℕ)
with_value_at [] place value = []
with_value_at (pair ∷ pairs) zero value = (pair.0, value) ∷ pairs
with_value_at (pair ∷ pairs) (suc place) value = pair ∷ with_value_at pairs place value

-- the numbers, each once, where it first stands
abbrev pub each_once : List ℕ → List ℕ
each_once [] = []
each_once (n ∷ ns) = n ∷ filter (λ other. not (nat_eq n other)) (each_once ns)

-- the places of the named fields that are there, in the order of naming; one that is named twice counts at its first place
abbrev pub chosen : List (List ℕ) → List (List ℕ × List ℕ) → List ℕ
chosen names pairs = each_once (filter_map (λ name. place_of name pairs) names)

-- the pairs of the named fields, in the order of naming, each once
abbrev pub named_pairs : List (List ℕ) → List (List ℕ × List ℕ) → List (List ℕ × List ℕ)
named_pairs names pairs = filter_map (slice_get pairs) (chosen names pairs)
