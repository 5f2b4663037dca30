-- Tables whose keys are vectors, seen by the bytes of their keys.
use Rattle.std.specs.Prelude.{ℕ, List, map}
use Rattle.std.specs.Ordering.{nat_cmp}
use Rattle.std.specs.Cmp.Lexicographic.{slice_cmp}
use Rattle.std.specs.FinMap.{FinMap, from_entries}

module _ {K X : Type 0} (bytes : K → List ℕ) where
  -- an entry with its key as the list of its bytes
  abbrev pub entry_by_bytes : K × X → List ℕ × X
  entry_by_bytes entry = (bytes entry.0, entry.1)

  -- the entries of a table, each with its key as the list of its bytes
  abbrev pub by_bytes : List (K × X) → List (List ℕ × X)
  by_bytes = map entry_by_bytes

  -- the finite map that a table is
  abbrev pub map_by_bytes : List (K × X) → FinMap (slice_cmp nat_cmp) X
  map_by_bytes entries = from_entries (by_bytes entries)
