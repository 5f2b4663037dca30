-- Which places are evicted to make room. (This server's own rule.)
use Rattle.std.specs.Prelude.{ℕ, suc, ◌+◌, Bool, ◌||◌, nat_le, if◌then◌else◌, List, [], ◌∷◌, length, bytes_eq, Option, Some, None, ℤ, pos, negsuc}
use Rattle.std.specs.Option.{option_or}
use Rattle.arc_core.specs.Places.{Places, others, total_of, sticky_total_of, weight_of}

-- the shortest suffix of the list that is enough, or none where no suffix is
abbrev pub shortest_suffix : {A : Type 0} → (List A → Bool) → List A → Option (List A)
shortest_suffix enough [] = if enough [] then Some [] else None
shortest_suffix enough (x ∷ xs) = option_or (shortest_suffix enough xs) (if enough (x ∷ xs) then Some (x ∷ xs) else None)

-- whether total + extra - freed is at most the limit
abbrev pub fits : ℕ → ℕ → ℤ → ℕ → Bool
fits limit total (pos extra) freed = nat_le (total + extra) (limit + freed)
fits limit total (negsuc less) freed = nat_le total (limit + freed + suc less)

module _ {X : Type 0} where
  -- whether the sticky items and `sticky_extra` bytes more are within the share; no eviction makes room there
  abbrev pub share_fits : (List ℕ → X → ℕ) → Places X → ℤ → Bool
  share_fits weigh places sticky_extra = fits places.share (sticky_total_of weigh places) sticky_extra 0

  -- the shortest suffix of the shelf without the key whose removal brings the total and `extra` to the limit or below, or
  -- none where removing all of that list does not
  abbrev pub least_eviction : (List ℕ → X → ℕ) → Places X → List ℕ → ℤ → Option (List (List ℕ × X))
  least_eviction weigh places key extra =
      shortest_suffix (λ suffix. fits places.limit (total_of weigh places) extra (weight_of weigh suffix)) (others key places.shelf)

  -- what is evicted to add `extra` bytes under the key, of which `sticky_extra` among the sticky items: none where these
  -- would pass the share, else the least eviction that makes room
  abbrev pub room : (List ℕ → X → ℕ) → Places X → List ℕ → (extra sticky_extra : ℤ) → Option (List (List ℕ × X))
  room weigh places key extra sticky_extra =
      if share_fits weigh places sticky_extra then least_eviction weigh places key extra else None

  -- the shelf without its last n places but the key's: a place stays that is the key's, or has n others after it
  abbrev pub survivors : List ℕ → ℕ → List (List ℕ × X) → List (List ℕ × X)
  survivors key n [] = []
  survivors key n (place ∷ older) =
      if bytes_eq key place.0 || nat_le n (length (others key older)) then place ∷ survivors key n older else survivors key n older

  -- the last n places of the shelf but the key's are gone
  abbrev pub evicted : List ℕ → ℕ → Places X → Places X
  evicted key n places = record places { shelf = survivors key n places.shelf }
