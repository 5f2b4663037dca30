-- What putting an item on the shelf leaves.
use Rattle.std.specs.Prelude.{◌≡◌, ℕ, Bool, if◌then◌else◌, List, length, Option, Some, None, ℤ, pos, ◌-ℤ◌}
use Rattle.std.specs.FinMap as finite
use Rattle.arc_core.specs.Places.{Places, placed}
use Rattle.arc_core.specs.Room.{room, evicted}
use Rattle.byte_account.specs.ShelfWords.{weight_at}
use Rattle.byte_account.specs.Weight.{weight_under}
use Rattle.byte_account.specs.declared.put.Put.{Put}
use Rattle.byte_account.specs.declared.put.Put.TheVariants as put

module _ {X : Type 0} (weigh : List ℕ → X → ℕ) where
  -- what a place weighs under the key where it is sticky; 0 where it is not
  abbrev pub sticky_weight_at : List ℕ → Places X → ℕ
  sticky_weight_at key places = weight_under weigh key (finite.get places.sticky key)

  module _ (sticky : Bool) (key : List ℕ) (x : X) where
    -- how much more x weighs than what it replaces
    abbrev pub added : Places X → ℤ
    added places = pos (weigh key x) -ℤ pos (weight_at weigh key places)

    -- how much more of it is sticky
    abbrev pub sticky_added : Places X → ℤ
    sticky_added places = pos (if sticky then weigh key x else 0) -ℤ pos (sticky_weight_at key places)

    -- what is evicted for x, or none where there is no room for it
    abbrev pub room_for : Places X → Option (List (List ℕ × X))
    room_for places = room weigh places key (added places) (sticky_added places)

    -- x stands under the key on the side that is named, behind as few evictions as make room for it.
    pub record IsPut (old new : Places X) : Type 0 where
      pub gone : List (List ℕ × X)
      pub fits : room_for old ≡ Some gone
      pub places : new ≡ placed sticky key x (evicted key (length gone) old)

    -- What putting x leaves, by the answer.
    abbrev pub Puts : Places X → Places X → Put → Type 0
    Puts old new put.Done = IsPut old new
    Puts old new put.NoRoom = (room_for old ≡ None) × (new ≡ old)
    Puts old new put.NoMemory = new ≡ old
