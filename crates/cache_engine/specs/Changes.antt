-- What changes of the held items leave.
use Rattle.std.specs.Prelude.{◌≡◌, ◌≢◌, ◌&&◌, ℕ, Bool, true, false, List, [], length, Option, Some, None}
use Rattle.arc_core.specs.declared.attributes.Attrs.{Attrs}
use Rattle.arc_core.specs.declared.items.Expiry.{Expiry}
use Rattle.arc_core.specs.CollectionRows.{is_empty}
use Rattle.arc_core.specs.Item.{Contents, Item, collection, expiry_of, is_sticky, with_expiry}
use Rattle.arc_core.specs.Places.{Places, found, placed, without}
use Rattle.arc_core.specs.Step.{put_behind, room_for}
use Rattle.byte_account.specs.declared.put.Put.{Put}
use Rattle.byte_account.specs.declared.put.Put.TheVariants as put
use Rattle.coll_items.specs.Changing.{inserted, taken_out, SuitsInsertion, FitsOut}
use Rattle.coll_items.specs.declared.changes.Insertion.{Insertion}
use Rattle.coll_items.specs.declared.changes.Removal.{Removal}
use Rattle.cache_engine.specs.Planning.{state_at}

-- what is evicted for an item under the key, or none where there is no room for it
abbrev pub evicted_for : List ℕ → Item → Places Item → Option (List (List ℕ × Item))
evicted_for key item places = room_for (state_at 0 0 places) key item

-- The item stands under the key, behind as few evictions as make room.
pub record IsPutBehind (key : List ℕ) (item : Item) (old new : Places Item) : Type 0 where
  pub gone : List (List ℕ × Item)
  pub fits : evicted_for key item old ≡ Some gone
  pub places : new ≡ put_behind (length gone) key item old

-- What putting an item leaves, by its answer.
abbrev pub Puts : List ℕ → Item → Places Item → Places Item → Put → Type 0
Puts key item old new put.Done = IsPutBehind key item old new
Puts key item old new put.NoRoom = (evicted_for key item old ≡ None) × (new ≡ old)
Puts key item old new put.NoMemory = new ≡ old

-- An item is held under the key.
abbrev pub IsUnder : List ℕ → Places Item → Type 0
IsUnder key places = (item : Item) × (found key places ≡ Some item)

-- The item under the key has this expiry, for which there was room.
pub record HasExpiry (key : List ℕ) (expiry : Expiry) (old new : Places Item) : Type 0 where
  pub item : Item
  pub held : found key old ≡ Some item
  pub fits : evicted_for key (with_expiry expiry item) old ≡ Some []
  pub places : new ≡ placed (is_sticky expiry) key (with_expiry expiry item) old

-- What another expiry leaves, by its answer: it stands; there was no room; or the item would have changed sides, and for
-- want of memory nothing has changed.
abbrev pub SetsExpiry : List ℕ → Expiry → Places Item → Places Item → Put → Type 0
SetsExpiry key expiry old new put.Done = HasExpiry key expiry old new
SetsExpiry key expiry old new put.NoRoom = ((item : Item) → found key old ≡ Some item → evicted_for key (with_expiry expiry item) old ≡ None) × (new ≡ old)
SetsExpiry key expiry old new put.NoMemory =
    ((item : Item) → found key old ≡ Some item → (is_sticky (expiry_of item) ≢ is_sticky expiry) × (evicted_for key (with_expiry expiry item) old ≢ None)) × (new ≡ old)

-- A collection is held under the key that this element suits.
pub record SuitsUnder (key : List ℕ) (element : Insertion) (places : Places Item) : Type 0 where
  pub attrs : Attrs
  pub contents : Contents
  pub held : found key places ≡ Some (collection attrs contents)
  pub suits : SuitsInsertion element attrs contents

-- What putting an element into the collection under the key leaves, by its answer: it is there, behind as few evictions as
-- make room; there was no room; or for want of memory nothing has changed.
abbrev pub Inserts : List ℕ → Insertion → Places Item → Places Item → Put → Type 0
Inserts key element old new answer =
    (attrs : Attrs) (contents : Contents) → found key old ≡ Some (collection attrs contents) → Puts key (collection attrs (inserted element contents)) old new answer

-- A collection is held under the key that has the elements which this removal takes out.
pub record FitsUnder (key : List ℕ) (removal : Removal) (places : Places Item) : Type 0 where
  pub attrs : Attrs
  pub contents : Contents
  pub held : found key places ≡ Some (collection attrs contents)
  pub fits : FitsOut removal contents

-- What stands under the key where the collection is dropped, or else what is left of it.
abbrev pub Leaves : List ℕ → (left : Item) → Places Item → Places Item → (dropped : Bool) → Type 0
Leaves key left old new true = new ≡ without key old
Leaves key left old new false = Puts key left old new put.Done

-- What taking elements out of the collection under the key leaves: it is dropped exactly where it is empty then and
-- `drop_empty` says so.
abbrev pub Removes : List ℕ → Removal → (drop_empty : Bool) → Places Item → Places Item → (dropped : Bool) → Type 0
Removes key removal drop_empty old new dropped =
    (attrs : Attrs) (contents : Contents) → found key old ≡ Some (collection attrs contents)
    → (dropped ≡ (drop_empty && is_empty (taken_out removal contents))) × Leaves key (collection attrs (taken_out removal contents)) old new dropped
