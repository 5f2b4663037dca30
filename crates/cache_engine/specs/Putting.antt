-- What putting an item on the shelf leaves.
use Rattle.std.specs.Prelude.{◌≡◌, ℕ, Bool, List, Option, Some}
use Rattle.arc_core.specs.Item.{size_of, expiry_of, is_sticky}
use Rattle.arc_core.specs.Places.{Places, found}
use Rattle.byte_account.specs.Putting as shelf
use Rattle.byte_account.specs.ShelfWords.{on_side}
use Rattle.byte_account.specs.Weight.{place_weight}
use Rattle.byte_account.specs.declared.put.Put.{Put}
use Rattle.cache_engine.specs.Stored.{item_of}
use Rattle.cache_engine.specs.declared.stored.Stored.{Stored}

-- the stated size of an item under its key
abbrev pub weigh : List ℕ → Stored → ℕ
weigh key stored = size_of key (item_of stored)

-- whether an item is never evicted
abbrev pub sticky_of : Stored → Bool
sticky_of stored = is_sticky (expiry_of (item_of stored))

-- An item is held under the key on that side.
abbrev pub IsHeldOn : Bool → List ℕ → Places (Option Stored) → Type 0
IsHeldOn sticky key places = (old : Stored) × (found key places ≡ Some (Some old)) × (on_side sticky key places ≡ Some (Some old))

-- what is evicted for the item, or none where there is no room
abbrev pub room_for : List ℕ → Stored → Places (Option Stored) → Option (List (List ℕ × Option Stored))
room_for key item places = shelf.room_for (place_weight weigh) (sticky_of item) key (Some item) places

-- What putting an item leaves, by its answer.
abbrev pub PutsOnShelf : List ℕ → Stored → Places (Option Stored) → Places (Option Stored) → Put → Type 0
PutsOnShelf key item old new answer = shelf.Puts (place_weight weigh) (sticky_of item) key (Some item) old new answer
