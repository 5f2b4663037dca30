-- What the calls of the shelf speak of. A place may be hollow, which is to say that its item is still to come.
use Rattle.std.specs.Prelude.{◌≡◌, ℕ, Bool, true, false, List, ◌∷◌, length, bytes_eq, Option, Some, None, IsSome, ℤ, pos, negsuc}
use Rattle.std.specs.Ordering.{nat_cmp}
use Rattle.std.specs.Cmp.Lexicographic.{slice_cmp}
use Rattle.std.specs.FinMap.{FinMap}
use Rattle.std.specs.Option.{option_map_or, option_flatten}
use Rattle.std.specs.Map.{lookup}
use Rattle.std.specs.FinMap as finite
use Rattle.arc_core.specs.Places.{Places, found, others, placed, without}
use Rattle.byte_account.specs.Weight.{weight_under}
use Rattle.byte_account.specs.declared.room.Room.{Room}
use Rattle.byte_account.specs.declared.shelf.Held.{Held}
use Rattle.byte_account.specs.declared.room.Room.TheVariants.{Fits, Nothing}

-- the item under the key: none where the key has no place, or a hollow one
abbrev pub item_at : {T : Type 0} → List ℕ → Places (Option T) → Option T
item_at key places = option_flatten (found key places)

-- what stands under the key among the sticky places, or on the list
abbrev pub on_side : {X : Type 0} → Bool → List ℕ → Places X → Option X
on_side true key places = finite.get places.sticky key
on_side false key places = lookup (bytes_eq key) places.shelf

-- what the key's place weighs; 0 where it has none
abbrev pub weight_at : {X : Type 0} → (List ℕ → X → ℕ) → List ℕ → Places X → ℕ
weight_at weigh key places = weight_under weigh key (found key places)

-- The key has a place that weighs so much, on this side.
pub record IsHeld {X : Type 0} (weigh : List ℕ → X → ℕ) (key : List ℕ) (places : Places X) (held : Held) : Type 0 where
  pub there : IsSome (on_side held.sticky key places)
  pub weight : held.weight ≡ weight_at weigh key places

-- the two sides, with x under the key on the one that is named and nothing on the other
abbrev pub listed_at : {X : Type 0} → (sticky : Bool) → List ℕ → X → List (List ℕ × X) → List (List ℕ × X)
listed_at true key x shelf = others key shelf
listed_at false key x shelf = (key, x) ∷ shelf

abbrev pub stuck_at : {X : Type 0} → (sticky : Bool) → List ℕ → X → FinMap (slice_cmp nat_cmp) X → FinMap (slice_cmp nat_cmp) X
stuck_at true key x m = finite.insert m key x
stuck_at false key x m = finite.remove m key

-- the key's place moved to the side that is named
abbrev pub restuck : {X : Type 0} → Bool → List ℕ → Places X → Places X
restuck sticky key places = option_map_or (λ x. placed sticky key x places) (found key places) places

-- the places without the key's, where that is hollow
abbrev pub cancelled_at : {T : Type 0} → Option (Option T) → List ℕ → Places (Option T) → Places (Option T)
cancelled_at None key places = places
cancelled_at (Some None) key places = without key places
cancelled_at (Some (Some item)) key places = places

abbrev pub cancelled : {T : Type 0} → List ℕ → Places (Option T) → Places (Option T)
cancelled key places = cancelled_at (found key places) key places

-- the answer on room, by the suffix that is evicted
abbrev pub room_answer : {A : Type 0} → Option (List A) → Room
room_answer None = Nothing
room_answer (Some suffix) = Fits (length suffix)

-- what a change of the total adds to it
abbrev pub added_by : ℤ → ℕ
added_by (pos extra) = extra
added_by (negsuc less) = 0
