-- Places by the numbers of their names.
use Rattle.std.specs.Prelude.{◌≡◌, ℕ, ◌+◌, ◌%◌, ◌^◌, ◌<◌, List, map, Some, nat_eq, bytes_eq}
use Rattle.std.specs.List.{AllByRecursion, Contains, IsDistinct}
use Rattle.std.specs.Map.{keys_of, lookup}
use Rattle.std.specs.Hash.FoldHasher as folding

-- the hash of a name
unfoldable pub name_hash : List ℕ → ℕ
name_hash name = folding.finish (folding.write folding.initial name)

-- one of the numbers of the names with this hash
abbrev pub nth_number : (hash k : ℕ) → ℕ
nth_number hash k = (hash + k) % 2 ^ 64

module _ {V X : Type 0} (name : V → List ℕ) (place : V → X) where
  -- an entry without its number
  abbrev pub entry_by_name : ℕ × V → List ℕ × X
  entry_by_name entry = (name entry.1, place entry.1)

  -- the entries without their numbers
  abbrev pub by_names : List (ℕ × V) → List (List ℕ × X)
  by_names = map entry_by_name

  -- No name has two entries, and each number is the name's hash and some k below `tries`.
  pub record IsNumbered (tries : ℕ) (es : List (ℕ × V)) : Type 0 where
    pub apart : IsDistinct bytes_eq (keys_of (by_names es))
    pub numbers : (entry : ℕ × V) → Contains es entry → (k : ℕ) × (k < tries) × (entry.0 ≡ nth_number (name_hash (name entry.1)) k)

module _ {V : Type 0} (name : V → List ℕ) where
  -- The name's entry is v, with this number, which no entry of another name has.
  pub record IsUnder (number : ℕ) (key : List ℕ) (v : V) (es : List (ℕ × V)) : Type 0 where
    pub here : lookup (nat_eq number) es ≡ Some v
    pub named : name v ≡ key
    pub alone : AllByRecursion (λ entry. nat_eq number entry.0 ≡ bytes_eq key (name entry.1)) es
