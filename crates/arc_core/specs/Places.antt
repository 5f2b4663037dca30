-- Where items stand, generic in what stands in a place: the machine's state has items there, and the shelf of the
-- code may have a place whose item is still to come.
use Rattle.std.specs.Prelude.{◌≡◌, ℕ, ◌+◌, Bool, true, false, not, if◌then◌else◌, List, [], ◌∷◌, length, filter, sum_by, bytes_eq, Option, None, IsSome, is_some}
use Rattle.std.specs.Ordering.{nat_cmp}
use Rattle.std.specs.Option.{option_or, option_map_or}
use Rattle.std.specs.List.{IsDistinct}
use Rattle.std.specs.Map.{keys_of, lookup, set_value}
use Rattle.std.specs.Cmp.Lexicographic.{slice_cmp}
use Rattle.std.specs.FinMap.{FinMap}
use Rattle.std.specs.FinMap as finite

-- The shelf: each key with what stands under it, most recently used first. The sticky items, which are never
-- evicted, by their keys. And two limits in bytes: that of all stated sizes, and the share of it that the sizes of the
-- sticky items may take.
pub record Places (X : Type 0) : Type 0 where
  pub shelf : List (List ℕ × X)
  pub sticky : FinMap (slice_cmp nat_cmp) X
  pub limit : ℕ
  pub share : ℕ

module _ {X : Type 0} where
  -- no place is taken
  abbrev pub empty_places : (limit share : ℕ) → Places X
  empty_places limit share = record { shelf = []; sticky = finite.empty; limit = limit; share = share }

  -- what stands under the key: on the shelf, or else among the sticky items
  abbrev pub found : List ℕ → Places X → Option X
  found key places = option_or (lookup (bytes_eq key) places.shelf) (finite.get places.sticky key)

  -- the places of the shelf under other keys
  abbrev pub others : List ℕ → List (List ℕ × X) → List (List ℕ × X)
  others key shelf = filter (λ place. not (bytes_eq key place.0)) shelf

  -- the number of places, on the shelf and among the sticky items
  abbrev pub count_of : Places X → ℕ
  count_of places = length places.shelf + finite.len places.sticky

  -- the sum of the sizes of what stands in these places
  abbrev pub weight_of : (List ℕ → X → ℕ) → List (List ℕ × X) → ℕ
  weight_of weigh = sum_by (λ place. weigh place.0 place.1)

  -- the sum of the sizes of the sticky items, computed anew
  abbrev pub sticky_total_of : (List ℕ → X → ℕ) → Places X → ℕ
  sticky_total_of weigh places = weight_of weigh (finite.entries places.sticky)

  -- the sum of all sizes, computed anew
  abbrev pub total_of : (List ℕ → X → ℕ) → Places X → ℕ
  total_of weigh places = weight_of weigh places.shelf + sticky_total_of weigh places

  -- no key has two places
  pub record HasEachKeyOnce (places : Places X) : Type 0 where
    pub on_shelf : IsDistinct bytes_eq (keys_of places.shelf)
    pub on_one_side : (key : List ℕ) → IsSome (lookup (bytes_eq key) places.shelf) → finite.get places.sticky key ≡ None

  -- the shelf with the key's place in front, if the key has one
  abbrev pub to_front : List ℕ → List (List ℕ × X) → List (List ℕ × X)
  to_front key shelf = option_map_or (λ x. (key, x) ∷ others key shelf) (lookup (bytes_eq key) shelf) shelf

  -- the shelf with x under the key: in the key's place, or in a new one in front
  abbrev pub shelved : List ℕ → X → List (List ℕ × X) → List (List ℕ × X)
  shelved key x shelf = if is_some (lookup (bytes_eq key) shelf) then set_value (bytes_eq key) shelf x else (key, x) ∷ shelf

  -- the key is used: on the shelf its place moves to the front
  abbrev pub brought_to_front : List ℕ → Places X → Places X
  brought_to_front key places = record places { shelf = to_front key places.shelf }

  -- x under the key on the side that is named, where the key keeps its place if it has one; a place on the other side goes
  abbrev pub placed : Bool → List ℕ → X → Places X → Places X
  placed true key x places = record places { shelf = others key places.shelf; sticky = finite.insert places.sticky key x }
  placed false key x places = record places { shelf = shelved key x places.shelf; sticky = finite.remove places.sticky key }

  -- x in the place that the key has, on whichever side; without a place nothing changes
  abbrev pub refilled : List ℕ → X → Places X → Places X
  refilled key x places = record places {
    shelf = set_value (bytes_eq key) places.shelf x;
    sticky = if finite.contains_key places.sticky key then finite.insert places.sticky key x else places.sticky;
  }

  -- the key has no place any more
  abbrev pub without : List ℕ → Places X → Places X
  without key places = record places { shelf = others key places.shelf; sticky = finite.remove places.sticky key }
