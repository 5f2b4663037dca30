-- The words of eviction from the end of a list of places.
use Rattle.std.specs.Prelude.{◌≡◌, ℕ, ◌+◌, ◌<◌, Bool, true, false, List, [], ◌∷◌, ◌++◌, length, bytes_eq, None}
use Rattle.std.specs.Option.{option_map_or}
use Rattle.std.specs.Map.{lookup}
use Rattle.lru.specs.LruCache.{last_entry}
use Rattle.arc_core.specs.Places.{others, weight_of}

module _ {X : Type 0} where
  -- whether the key's place is the last
  abbrev pub is_last : List ℕ → List (List ℕ × X) → Bool
  is_last key shelf = option_map_or (λ place. bytes_eq key place.0) (last_entry shelf) false

  -- the list with the key's place last, if the key has one
  abbrev pub to_back : List ℕ → List (List ℕ × X) → List (List ℕ × X)
  to_back key shelf = option_map_or (λ x. others key shelf ++ (key, x) ∷ []) (lookup (bytes_eq key) shelf) shelf

  -- the last places are gone: n of them, or those behind the key's place where these are fewer, and then `left` are left
  pub record PopsDownTo (weigh : List ℕ → X → ℕ) (key : List ℕ) (n : ℕ) (old new : List (List ℕ × X)) (freed left : ℕ) : Type 0 where
    pub gone : List (List ℕ × X)
    pub split : old ≡ new ++ gone
    pub spared : lookup (bytes_eq key) gone ≡ None
    pub count : length gone + left ≡ n
    pub weighs : freed ≡ weight_of weigh gone
    pub stops : 0 < left → is_last key new ≡ true
