-- What changes of a collection on the shelf leave.
use Rattle.std.specs.Prelude.{◌≡◌, ◌+◌, ◌≤◌, ◌&&◌, ℕ, Bool, true, false, if◌then◌else◌, List, length, Option, Some, None, option_map, pos, ◌-ℤ◌}
use Rattle.std.specs.FinMap.{contains_key}
use Rattle.arc_core.specs.CollectionRows.{is_empty}
use Rattle.arc_core.specs.Item.{Item, key_value, collection, IsItem, size_of, expiry_of, is_sticky}
use Rattle.arc_core.specs.Places.{Places, found, placed, refilled, without, total_of}
use Rattle.arc_core.specs.Room.{room, evicted}
use Rattle.byte_account.specs.Accounting.{HasShareFor}
use Rattle.byte_account.specs.Weight.{place_weight}
use Rattle.byte_account.specs.declared.put.Put.{Put}
use Rattle.byte_account.specs.declared.put.Put.TheVariants as put
use Rattle.cache_engine.specs.Stored.{item_of}
use Rattle.cache_engine.specs.Putting.{weigh, sticky_of}
use Rattle.cache_engine.specs.declared.stored.Stored.{Stored}
use Rattle.coll_items.specs.Changing.{inserted, taken_out, SuitsInsertion, FitsOut}
use Rattle.coll_items.specs.declared.changes.Insertion.{Insertion}
use Rattle.coll_items.specs.declared.changes.Removal.{Removal}

-- a collection with an element more
abbrev pub with_element : Insertion → Item → Item
with_element element (key_value flags expiry unique value) = key_value flags expiry unique value
with_element element (collection attrs contents) = collection attrs (inserted element contents)

-- The item is a collection that the element suits.
abbrev pub SuitsItem : Insertion → Item → Type 0
SuitsItem element (key_value flags expiry unique value) = ⊥
SuitsItem element (collection attrs contents) = SuitsInsertion element attrs contents

-- a collection without the elements that are taken out
abbrev pub with_taken_out : Removal → Item → Item
with_taken_out removal (key_value flags expiry unique value) = key_value flags expiry unique value
with_taken_out removal (collection attrs contents) = collection attrs (taken_out removal contents)

-- The item is a collection that has these elements.
abbrev pub FitsItem : Removal → Item → Type 0
FitsItem removal (key_value flags expiry unique value) = ⊥
FitsItem removal (collection attrs contents) = FitsOut removal contents

-- whether an item is a collection without elements
abbrev pub is_empty_item : Item → Bool
is_empty_item (key_value flags expiry unique value) = false
is_empty_item (collection attrs contents) = is_empty contents

-- what of a stated size is among the sticky items
abbrev pub sticky_part : Item → ℕ → ℕ
sticky_part item size = if is_sticky (expiry_of item) then size else 0

-- what is evicted for an item in the place of another, or none where there is no room
abbrev pub room_for_change : List ℕ → Stored → Item → Places (Option Stored) → Option (List (List ℕ × Option Stored))
room_for_change key was item places =
    room (place_weight weigh) places key (pos (size_of key item) -ℤ pos (weigh key was)) (pos (sticky_part item (size_of key item)) -ℤ pos (sticky_part (item_of was) (weigh key was)))

-- The element suits what is held under the key.
pub record SuitsOnShelf (key : List ℕ) (element : Insertion) (places : Places (Option Stored)) : Type 0 where
  pub was : Stored
  pub held : found key places ≡ Some (Some was)
  pub suits : SuitsItem element (item_of was)

-- So many evictions make room for it, and no fewer.
pub record HasRoomFor (key : List ℕ) (element : Insertion) (places : Places (Option Stored)) (evictions : ℕ) : Type 0 where
  pub was : Stored
  pub held : found key places ≡ Some (Some was)
  pub suits : SuitsItem element (item_of was)
  pub fits : option_map length (room_for_change key was (with_element element (item_of was)) places) ≡ Some evictions

-- The key's place is hollow, and there is room for the item in it.
pub record HasPlaceFor (key : List ℕ) (item : Stored) (places : Places (Option Stored)) : Type 0 where
  pub hollow : found key places ≡ Some None
  pub room : total_of (place_weight weigh) places + weigh key item ≤ places.limit
  pub share : HasShareFor (contains_key places.sticky key) (place_weight weigh) places (weigh key item)

-- What is held under the key has the elements that the removal takes out.
pub record FitsOnShelf (key : List ℕ) (removal : Removal) (places : Places (Option Stored)) : Type 0 where
  pub was : Stored
  pub held : found key places ≡ Some (Some was)
  pub fits : FitsItem removal (item_of was)

-- The item under the key has become another, behind as few evictions as make room.
pub record HasChanged (key : List ℕ) (change : Item → Item) (old new : Places (Option Stored)) : Type 0 where
  pub was : Stored
  pub is : Stored
  pub held : found key old ≡ Some (Some was)
  pub becomes : item_of is ≡ change (item_of was)
  pub keeps : IsItem (item_of is)
  pub gone : List (List ℕ × Option Stored)
  pub fits : room_for_change key was (item_of is) old ≡ Some gone
  pub places : new ≡ placed (sticky_of is) key (Some is) (evicted key (length gone) old)

-- There was no room for what the item under the key would have become, and nothing has changed.
pub record HasNoRoomToChange (key : List ℕ) (change : Item → Item) (old new : Places (Option Stored)) : Type 0 where
  pub was : Stored
  pub held : found key old ≡ Some (Some was)
  pub none : room_for_change key was (change (item_of was)) old ≡ None
  pub same : new ≡ old

-- The item under the key is what it was; it may have room for more elements.
pub record HasStayed (key : List ℕ) (old new : Places (Option Stored)) : Type 0 where
  pub was : Stored
  pub is : Stored
  pub held : found key old ≡ Some (Some was)
  pub stays : item_of is ≡ item_of was
  pub places : new ≡ refilled key (Some is) old

-- What putting an element into a collection leaves, by the answer.
abbrev pub InsertsOnShelf : List ℕ → Insertion → Places (Option Stored) → Places (Option Stored) → Put → Type 0
InsertsOnShelf key element old new put.Done = HasChanged key (with_element element) old new
InsertsOnShelf key element old new put.NoRoom = HasNoRoomToChange key (with_element element) old new
InsertsOnShelf key element old new put.NoMemory = HasStayed key old new

-- What stands under the key where the collection is dropped, or else what is left of it.
abbrev pub LeavesOnShelf : List ℕ → Removal → Places (Option Stored) → Places (Option Stored) → (dropped : Bool) → Type 0
LeavesOnShelf key removal old new true = new ≡ without key old
LeavesOnShelf key removal old new false = HasChanged key (with_taken_out removal) old new

-- What taking elements out of a collection leaves, by the answer.
pub record RemovesOnShelf (key : List ℕ) (removal : Removal) (drop_empty : Bool) (old new : Places (Option Stored)) (dropped : Bool) : Type 0 where
  pub was : Stored
  pub held : found key old ≡ Some (Some was)
  pub told : dropped ≡ (drop_empty && is_empty_item (with_taken_out removal (item_of was)))
  pub leaves : LeavesOnShelf key removal old new dropped
