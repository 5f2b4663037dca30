-- What retrievals answer, before their keys are used.
use Rattle.std.specs.Prelude.{◌≡◌, ◌||◌, ℕ, Bool, true, false, List, [], ◌∷◌, ◌++◌, bytes_eq, Option, Some, None, Result, Ok, Err}
use Rattle.std.specs.Option.{option_map_or}
use Rattle.arc_core.specs.declared.replies.ValueRow.{ValueRow}
use Rattle.arc_core.specs.declared.faults.NoMemory.{NoMemory}
use Rattle.arc_core.specs.Item.{Item, expiry_of, has_expired}
use Rattle.arc_core.specs.Places.{Places, found}
use Rattle.arc_core.specs.Step.{rows_of_item}
use Rattle.cache_engine.specs.Starting.{live_of}

-- the rows of the items under the keys that have not expired, in the keys' order
abbrev pub live_rows : Bool → ℕ → Places Item → List (List ℕ) → List ValueRow
live_rows unique latest places [] = []
live_rows unique latest places (key ∷ keys) =
    option_map_or (rows_of_item unique key) (live_of latest (found key places)) [] ++ live_rows unique latest places keys

-- whether an item has expired
abbrev pub is_late : ℕ → Option Item → Bool
is_late latest None = false
is_late latest (Some item) = has_expired latest (expiry_of item)

-- whether the item under one of the keys has expired
abbrev pub some_late : ℕ → Places Item → List (List ℕ) → Bool
some_late latest places [] = false
some_late latest places (key ∷ keys) = is_late latest (found key places) || some_late latest places keys

-- whether the key is among these
abbrev pub is_among : List ℕ → List (List ℕ) → Bool
is_among key [] = false
is_among key (first ∷ keys) = bytes_eq key first || is_among key keys

-- No item under one of the keys has expired.
abbrev pub AreLive : ℕ → List (List ℕ) → Places Item → Type 0
AreLive latest keys places = (key : List ℕ) → is_among key keys ≡ true → found key places ≡ live_of latest (found key places)

-- A key was read: its row stands behind the others, and it is told whether its item has expired.
abbrev pub ReadsKey : Bool → ℕ → Places Item → List ℕ → List ValueRow → List ValueRow → Result Bool NoMemory → Type 0
ReadsKey unique latest places key old new (Ok late) = (new ≡ old ++ live_rows unique latest places (key ∷ [])) × (late ≡ is_late latest (found key places))
ReadsKey unique latest places key old new (Err _) = Unit {0}
