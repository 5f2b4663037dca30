-- Places that all have their item, beside the items themselves: the machine's state and the shelf that holds it.
use Rattle.std.specs.Prelude.{◌≡◌, ℕ, List, map, filter_map, Option, Some, option_map}
use Rattle.std.specs.Ordering.{nat_cmp}
use Rattle.std.specs.Cmp.Lexicographic.{slice_cmp}
use Rattle.std.specs.FinMap.{FinMap, entries, from_sorted}
use Rattle.arc_core.specs.Places.{Places}

module _ {X Y : Type 0} (f : X → Y) where
  -- the list with f of what stands in each place
  abbrev pub map_listed : List (List ℕ × X) → List (List ℕ × Y)
  map_listed = map (λ place. (place.0, f place.1))

  -- the finite map with f of each value
  abbrev pub map_values : FinMap (slice_cmp nat_cmp) X → FinMap (slice_cmp nat_cmp) Y
  map_values m = from_sorted (map_listed (entries m))

  -- the places with f of what stands in each
  abbrev pub map_places : Places X → Places Y
  map_places places = record { shelf = map_listed places.shelf; sticky = map_values places.sticky; limit = places.limit; share = places.share }

module _ {T : Type 0} where
  -- each item in its place
  abbrev pub filled : Places T → Places (Option T)
  filled = map_places (λ item. Some item)

  -- the places that have an item
  abbrev pub items_listed : List (List ℕ × Option T) → List (List ℕ × T)
  items_listed = filter_map (λ place. option_map (λ item. (place.0, item)) place.1)

  -- the items, without the hollow places
  abbrev pub items_of : Places (Option T) → Places T
  items_of places = record { shelf = items_listed places.shelf; sticky = from_sorted (items_listed (entries places.sticky)); limit = places.limit; share = places.share }

  -- no place is hollow
  abbrev pub IsFilled : Places (Option T) → Type 0
  IsFilled places = places ≡ filled (items_of places)
