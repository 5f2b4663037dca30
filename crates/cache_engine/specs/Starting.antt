-- How keys stand at the start of a step, and what putting an item leaves at its end.
use Rattle.std.specs.Prelude.{◌≡◌, ◌&&◌, ℕ, Bool, true, false, not, if◌then◌else◌, List, [], ◌∷◌, length, Option, Some, None}
use Rattle.arc_core.specs.declared.attributes.Attrs.{Attrs}
use Rattle.arc_core.specs.declared.items.Expiry.{Expiry}
use Rattle.arc_core.specs.CollectionRows.{is_empty}
use Rattle.arc_core.specs.Item.{Item, Contents, collection, expiry_of, with_expiry, has_expired}
use Rattle.arc_core.specs.Places.{Places, found, without}
use Rattle.arc_core.specs.Step.{unexpired, used, put_behind}
use Rattle.byte_account.specs.declared.put.Put.{Put}
use Rattle.byte_account.specs.declared.put.Put.TheVariants as put
use Rattle.cache_engine.specs.Changes.{evicted_for, SetsExpiry}
use Rattle.coll_items.specs.Changing.{inserted, taken_out}
use Rattle.coll_items.specs.declared.changes.Insertion.{Insertion}
use Rattle.coll_items.specs.declared.changes.Removal.{Removal}
use Rattle.cache_engine.specs.declared.key_state.KeyState.{KeyState}
use Rattle.cache_engine.specs.declared.key_state.KeyState.TheVariants as key_state

-- how the key of this item stands
abbrev pub key_state_of : ℕ → Option Item → KeyState
key_state_of latest None = key_state.Absent
key_state_of latest (Some item) = if has_expired latest (expiry_of item) then key_state.Expired else key_state.Live

-- whether an item is held under a key that stands like this
abbrev pub is_held : KeyState → Bool
is_held key_state.Absent = false
is_held key_state.Expired = true
is_held key_state.Live = true

-- the item, where it has not expired
abbrev pub live_of : ℕ → Option Item → Option Item
live_of latest None = None
live_of latest (Some item) = if has_expired latest (expiry_of item) then None else Some item

-- whether an item that is put under a key that stands like this moves to the front
abbrev pub moves : ℕ → KeyState → Expiry → Bool
moves latest key_state.Absent expiry = false
moves latest key_state.Expired expiry = true
moves latest key_state.Live expiry = not (has_expired latest expiry)

-- The item stands under the key, behind as few evictions as make room, and the key was used.
pub record IsPutInStep (latest : ℕ) (key : List ℕ) (item : Item) (old new : Places Item) : Type 0 where
  pub gone : List (List ℕ × Item)
  pub fits : evicted_for key item (unexpired latest (key ∷ []) old) ≡ Some gone
  pub places : new ≡ used latest (key ∷ []) (put_behind (length gone) key item (unexpired latest (key ∷ []) old))

-- What putting an item leaves in a step that names the key alone, by its answer.
abbrev pub PutsInStep : ℕ → List ℕ → Item → Places Item → Places Item → Put → Type 0
PutsInStep latest key item old new put.Done = IsPutInStep latest key item old new
PutsInStep latest key item old new put.NoRoom = (evicted_for key item (unexpired latest (key ∷ []) old) ≡ None) × (new ≡ unexpired latest (key ∷ []) old)
PutsInStep latest key item old new put.NoMemory = new ≡ old

-- The item has this expiry, for which there was room, and the key was used.
pub record HasExpiryInStep (latest : ℕ) (key : List ℕ) (expiry : Expiry) (old new : Places Item) : Type 0 where
  pub item : Item
  pub held : found key old ≡ Some item
  pub fits : evicted_for key (with_expiry expiry item) old ≡ Some []
  pub places : new ≡ used latest (key ∷ []) (put_behind 0 key (with_expiry expiry item) old)

-- What another expiry leaves in a step that names the key alone: it stands, and the key was used; or nothing has changed.
abbrev pub SetsExpiryInStep : ℕ → List ℕ → Expiry → Places Item → Places Item → Put → Type 0
SetsExpiryInStep latest key expiry old new put.Done = HasExpiryInStep latest key expiry old new
SetsExpiryInStep latest key expiry old new answer = SetsExpiry key expiry old new answer

-- An item is held under the key that has not expired.
pub record IsLiveUnder (latest : ℕ) (key : List ℕ) (places : Places Item) : Type 0 where
  pub item : Item
  pub held : found key places ≡ Some item
  pub lives : has_expired latest (expiry_of item) ≡ false

-- What putting an element into a collection leaves in a step that names its key alone, by its answer.
abbrev pub InsertsInStep : ℕ → List ℕ → Insertion → Places Item → Places Item → Put → Type 0
InsertsInStep latest key element old new answer =
    (attrs : Attrs) (contents : Contents) → found key old ≡ Some (collection attrs contents)
    → PutsInStep latest key (collection attrs (inserted element contents)) old new answer

-- What is left in such a step of a collection under the key: it is gone, or it holds the others.
abbrev pub LeavesInStep : ℕ → List ℕ → Item → Places Item → Places Item → (dropped : Bool) → Type 0
LeavesInStep latest key left old new true = new ≡ without key old
LeavesInStep latest key left old new false = PutsInStep latest key left old new put.Done

-- What taking elements out of a collection leaves in such a step. It goes where it is empty then and is not to stay so.
abbrev pub RemovesInStep : ℕ → List ℕ → Removal → (drop_empty : Bool) → Places Item → Places Item → (dropped : Bool) → Type 0
RemovesInStep latest key removal drop_empty old new dropped =
    (attrs : Attrs) (contents : Contents) → found key old ≡ Some (collection attrs contents)
    → (dropped ≡ (drop_empty && is_empty (taken_out removal contents))) × LeavesInStep latest key (collection attrs (taken_out removal contents)) old new dropped
