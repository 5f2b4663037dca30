-- What another expiry leaves.
use Rattle.std.specs.Prelude.{◌≡◌, ◌≢◌, ℕ, if◌then◌else◌, List, [], Option, Some, None, ℤ, pos, ◌-ℤ◌}
use Rattle.arc_core.specs.declared.items.Expiry.{Expiry}
use Rattle.arc_core.specs.Item.{is_sticky, with_expiry}
use Rattle.arc_core.specs.Places.{Places, found, placed, refilled}
use Rattle.arc_core.specs.Room.{room}
use Rattle.byte_account.specs.Weight.{place_weight}
use Rattle.byte_account.specs.declared.put.Put.{Put}
use Rattle.byte_account.specs.declared.put.Put.TheVariants as put
use Rattle.cache_engine.specs.Stored.{item_of}
use Rattle.cache_engine.specs.Putting.{weigh, sticky_of}
use Rattle.cache_engine.specs.declared.stored.Stored.{Stored}

-- An item is held under the key.
abbrev pub IsHeld : List ℕ → Places (Option Stored) → Type 0
IsHeld key places = (item : Stored) × (found key places ≡ Some (Some item))

-- how many bytes get to be sticky where the item under the key is given this expiry
abbrev pub sticky_added : Expiry → List ℕ → Stored → ℤ
sticky_added expiry key item = pos (if is_sticky expiry then weigh key item else 0) -ℤ pos (if sticky_of item then weigh key item else 0)

-- what is evicted for that, or none where there is no room: no bytes are added but to the sticky items
abbrev pub room_for_expiry : Expiry → List ℕ → Stored → Places (Option Stored) → Option (List (List ℕ × Option Stored))
room_for_expiry expiry key item places = room (place_weight weigh) places key (pos 0) (sticky_added expiry key item)

-- The item stands in its place with this expiry.
pub record HasExpiryThere (key : List ℕ) (expiry : Expiry) (old new : Places (Option Stored)) : Type 0 where
  pub was : Stored
  pub is : Stored
  pub held : found key old ≡ Some (Some was)
  pub expires : item_of is ≡ with_expiry expiry (item_of was)
  pub places : new ≡ refilled key (Some is) old

-- The item has this expiry, for which there was room, and stands on the side where it belongs then.
pub record HasExpiryOnShelf (key : List ℕ) (expiry : Expiry) (old new : Places (Option Stored)) : Type 0 where
  pub was : Stored
  pub is : Stored
  pub held : found key old ≡ Some (Some was)
  pub fits : room_for_expiry expiry key was old ≡ Some []
  pub expires : item_of is ≡ with_expiry expiry (item_of was)
  pub places : new ≡ placed (is_sticky expiry) key (Some is) old

-- There was no room, and nothing has changed.
pub record HasNoRoomOnShelf (key : List ℕ) (expiry : Expiry) (old new : Places (Option Stored)) : Type 0 where
  pub was : Stored
  pub held : found key old ≡ Some (Some was)
  pub none : room_for_expiry expiry key was old ≡ None
  pub same : new ≡ old

-- The item would have changed sides, for which there was room, and for want of memory nothing has changed.
pub record IsRefusedOnShelf (key : List ℕ) (expiry : Expiry) (old new : Places (Option Stored)) : Type 0 where
  pub was : Stored
  pub held : found key old ≡ Some (Some was)
  pub fits : room_for_expiry expiry key was old ≡ Some []
  pub changes : sticky_of was ≢ is_sticky expiry
  pub same : new ≡ old

-- What another expiry leaves, by the answer.
abbrev pub SetsExpiryOnShelf : List ℕ → Expiry → Places (Option Stored) → Places (Option Stored) → Put → Type 0
SetsExpiryOnShelf key expiry old new put.Done = HasExpiryOnShelf key expiry old new
SetsExpiryOnShelf key expiry old new put.NoRoom = HasNoRoomOnShelf key expiry old new
SetsExpiryOnShelf key expiry old new put.NoMemory = IsRefusedOnShelf key expiry old new

-- By this expiry the item under the key changes sides, and so many bytes more are sticky.
pub record Crosses (expiry : Expiry) (key : List ℕ) (places : Places (Option Stored)) (sticky_extra : ℤ) : Type 0 where
  pub was : Stored
  pub held : found key places ≡ Some (Some was)
  pub changes : sticky_of was ≢ is_sticky expiry
  pub added : sticky_extra ≡ sticky_added expiry key was
