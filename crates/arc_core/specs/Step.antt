-- One step of the machine: what a request changes, and what is answered.
--
-- The latest second is raised and the named items that have expired are dropped. Then the request's row of the table
-- says what is to be done, by the item under the key. That is carried out where there is room, and each named key was
-- used then.
use Rattle.std.specs.Prelude.{ℕ, ◌+◌, ◌-◌, ◌^◌, ◌==◌, ◌++◌, ◌-ℤ◌, pos, max, nat_lt, ◌%◌, Bool, true, false, if◌then◌else◌, List, [], ◌∷◌, length, decimal, Option, Some, None, ℤ}
use Rattle.std.specs.Option.{option_map, option_map_or}
use Rattle.arc_core.specs.declared.items.Expiry.{Expiry}
use Rattle.arc_core.specs.declared.requests.StoreVerb.{StoreVerb}
use Rattle.arc_core.specs.declared.requests.StoreVerb.TheVariants as verb
use Rattle.arc_core.specs.declared.replies.Reply.{Reply}
use Rattle.arc_core.specs.declared.replies.Reply.TheVariants as reply
use Rattle.arc_core.specs.declared.replies.Word.TheVariants as word
use Rattle.arc_core.specs.declared.replies.ValueRow.{ValueRow}
use Rattle.arc_core.specs.PlainRequest.{PlainAct, PlainRequest, store, get, count, delete, touch, flush_all, version, make, on_collection}
use Rattle.arc_core.specs.Words.{number_below}
use Rattle.arc_core.specs.Plan.{Plan, answer_only, put, take_away, take_all}
use Rattle.arc_core.specs.Item.{Item, key_value, collection, size_of, expiry_of, with_expiry, expiry_at, has_expired, is_sticky}
use Rattle.arc_core.specs.Places.{Places, empty_places, found, placed, brought_to_front, without}
use Rattle.arc_core.specs.Room.{room, evicted}
use Rattle.arc_core.specs.CacheState.{CacheState}
use Rattle.arc_core.specs.CollectionRequests.{asked_of, empty_of}
use Rattle.arc_core.specs.CollectionStep.{plan_of_asked, plan_of_create}

-- the keys that a request names, in its order
abbrev pub named_keys : PlainAct → List (List ℕ)
named_keys (store verb key flags exptime value) = key ∷ []
named_keys (get keys unique) = keys
named_keys (count up key delta initial) = key ∷ []
named_keys (delete key) = key ∷ []
named_keys (touch key exptime) = key ∷ []
named_keys flush_all = []
named_keys version = []
named_keys (make kind key args) = key ∷ []
named_keys (on_collection key asked) = key ∷ []

-- THE START OF A STEP

-- the places without the key's, where an item stands there that has expired
abbrev pub without_expired : ℕ → List ℕ → Option Item → Places Item → Places Item
without_expired latest key None places = places
without_expired latest key (Some item) places = if has_expired latest (expiry_of item) then without key places else places

-- the places without the items under these keys that have expired
abbrev pub unexpired : ℕ → List (List ℕ) → Places Item → Places Item
unexpired latest [] places = places
unexpired latest (key ∷ keys) places = unexpired latest keys (without_expired latest key (found key places) places)

-- the state at the start of a step: the latest second is raised, and named items that have expired are gone
abbrev pub started : CacheState → ℕ → List (List ℕ) → CacheState
started state now keys =
    record state { latest = max state.latest now; places = unexpired (max state.latest now) keys state.places }

-- THE TABLE

-- the counter's next value: it begins again at 1
abbrev pub next_unique : ℕ → ℕ
next_unique n = if n == 2 ^ 64 - 1 then 1 else n + 1

-- a value is put under the key, and the cas counter rises to be its unique
abbrev pub put_value : CacheState → List ℕ → ℕ → Expiry → List ℕ → Reply → Plan
put_value state key flags expiry value answer =
    put key (key_value flags expiry (next_unique state.counter) value) (next_unique state.counter) answer

-- a value made of a held one is put in its place, where it is not too large
abbrev pub put_joined : CacheState → List ℕ → ℕ → Expiry → List ℕ → Plan
put_joined state key flags expiry value =
    if nat_lt 1048576 (length value) then answer_only (reply.Word word.TooLarge)
    else put_value state key flags expiry value (reply.Word word.Stored)

-- the rows of the storing commands, by the item under the key. A collection is of another kind.
abbrev pub plan_of_store : CacheState → StoreVerb → List ℕ → ℕ → ℤ → List ℕ → Option Item → Plan
plan_of_store state verb key flags exptime value (Some (collection attrs contents)) = answer_only (reply.Word word.TypeMismatch)
plan_of_store state verb.Set key flags exptime value held = put_value state key flags (expiry_at state.latest exptime) value (reply.Word word.Stored)
plan_of_store state verb.Add key flags exptime value None = put_value state key flags (expiry_at state.latest exptime) value (reply.Word word.Stored)
plan_of_store state verb.Add key flags exptime value (Some item) = answer_only (reply.Word word.NotStored)
plan_of_store state verb.Replace key flags exptime value None = answer_only (reply.Word word.NotStored)
plan_of_store state verb.Replace key flags exptime value (Some item) = put_value state key flags (expiry_at state.latest exptime) value (reply.Word word.Stored)
plan_of_store state verb.Append key flags exptime value None = answer_only (reply.Word word.NotStored)
plan_of_store state verb.Append key flags exptime value (Some (key_value old_flags expiry unique old)) = put_joined state key old_flags expiry (old ++ value)
plan_of_store state verb.Prepend key flags exptime value None = answer_only (reply.Word word.NotStored)
plan_of_store state verb.Prepend key flags exptime value (Some (key_value old_flags expiry unique old)) = put_joined state key old_flags expiry (value ++ old)
plan_of_store state (verb.Cas asked) key flags exptime value None = answer_only (reply.Word word.NotFound)
plan_of_store state (verb.Cas asked) key flags exptime value (Some (key_value old_flags expiry unique old)) =
    if unique == asked then put_value state key flags (expiry_at state.latest exptime) value (reply.Word word.Stored)
    else answer_only (reply.Word word.Exists)

-- a number after a count (`incr`, `decr`): up it begins again at 0 after the greatest of 64 bits, down it ends at 0
abbrev pub counted : Bool → ℕ → ℕ → ℕ
counted true delta n = (n + delta) % 2 ^ 64
counted false delta n = n - delta

-- a number is put under the key as its decimal digits, and is the answer
abbrev pub put_number : CacheState → List ℕ → ℕ → Expiry → ℕ → Plan
put_number state key flags expiry n = put_value state key flags expiry (decimal n) (reply.Number n)

-- a count where no item is held: `initial` has the client flags, the exptime and the number of one that is made
abbrev pub plan_of_first : CacheState → List ℕ → Option (ℕ × ℤ × ℕ) → Plan
plan_of_first state key None = answer_only (reply.Word word.NotFound)
plan_of_first state key (Some initial) = put_number state key initial.0 (expiry_at state.latest initial.1) initial.2

-- a count of the number that a held value spells, which keeps the item's client flags and expiry
abbrev pub plan_of_next : CacheState → Bool → List ℕ → ℕ → ℕ → Expiry → Option ℕ → Plan
plan_of_next state up key delta flags expiry None = answer_only (reply.Word word.NotNumeric)
plan_of_next state up key delta flags expiry (Some n) = put_number state key flags expiry (counted up delta n)

-- the rows of the counting commands, `incr` and `decr`, by the item under the key. A collection is of another kind.
abbrev pub plan_of_count : CacheState → Bool → List ℕ → ℕ → Option (ℕ × ℤ × ℕ) → Option Item → Plan
plan_of_count state up key delta initial None = plan_of_first state key initial
plan_of_count state up key delta initial (Some (key_value flags expiry unique value)) =
    plan_of_next state up key delta flags expiry (number_below (2 ^ 64) value)
plan_of_count state up key delta initial (Some (collection attrs contents)) = answer_only (reply.Word word.TypeMismatch)

-- the row of `delete`, by the item under the key
abbrev pub plan_of_delete : List ℕ → Option Item → Plan
plan_of_delete key None = answer_only (reply.Word word.NotFound)
plan_of_delete key (Some item) = take_away key (reply.Word word.Deleted)

-- the row of `touch`, by the item under the key
abbrev pub plan_of_touch : CacheState → List ℕ → ℤ → Option Item → Plan
plan_of_touch state key exptime None = answer_only (reply.Word word.NotFound)
plan_of_touch state key exptime (Some item) = put key (with_expiry (expiry_at state.latest exptime) item) state.counter (reply.Word word.Touched)

-- the rows that a held item answers to a retrieval: one for a key-value item. A collection is passed over.
abbrev pub rows_of_item : Bool → List ℕ → Item → List ValueRow
rows_of_item unique key (key_value flags expiry number value) =
    record { key = key; flags = flags; unique = if unique then Some number else None; value = value } ∷ []
rows_of_item unique key (collection attrs contents) = []

-- the rows of the items under the keys, in the keys' order
abbrev pub rows_of : Bool → Places Item → List (List ℕ) → List ValueRow
rows_of unique places [] = []
rows_of unique places (key ∷ keys) = option_map_or (rows_of_item unique key) (found key places) [] ++ rows_of unique places keys

-- the row of the table
abbrev pub plan_of : CacheState → PlainAct → Plan
plan_of state (store verb key flags exptime value) = plan_of_store state verb key flags exptime value (found key state.places)
plan_of state (get keys unique) = answer_only (reply.Values (rows_of unique state.places keys))
plan_of state (count up key delta initial) = plan_of_count state up key delta initial (found key state.places)
plan_of state (delete key) = plan_of_delete key (found key state.places)
plan_of state (touch key exptime) = plan_of_touch state key exptime (found key state.places)
plan_of state flush_all = take_all (reply.Word word.Ok)
plan_of state version = answer_only (reply.Word word.Version)
plan_of state (make kind key args) = plan_of_create state.latest state.counter key args (empty_of kind) (found key state.places)
plan_of state (on_collection key asked) = plan_of_asked state.latest state.counter key (asked_of asked) (found key state.places)

-- THE PLAN CARRIED OUT

-- how many bytes an item adds under the key, less those of the item that it replaces
abbrev pub extra_of : CacheState → List ℕ → Item → ℤ
extra_of state key item = pos (size_of key item) -ℤ pos (option_map_or (size_of key) (found key state.places) 0)

-- the stated size of an item that is never evicted; 0 of any other
abbrev pub sticky_size : List ℕ → Item → ℕ
sticky_size key item = if is_sticky (expiry_of item) then size_of key item else 0

-- how many bytes an item adds to those of the sticky items, less those of the item that it replaces
abbrev pub sticky_extra_of : CacheState → List ℕ → Item → ℤ
sticky_extra_of state key item = pos (sticky_size key item) -ℤ pos (option_map_or (sticky_size key) (found key state.places) 0)

-- what is evicted for the item under the key, or none where there is no room for it
abbrev pub room_for : CacheState → List ℕ → Item → Option (List (List ℕ × Item))
room_for state key item = room size_of state.places key (extra_of state key item) (sticky_extra_of state key item)

-- the places with the item under the key, after so many evictions
abbrev pub put_behind : ℕ → List ℕ → Item → Places Item → Places Item
put_behind evictions key item places = placed (is_sticky (expiry_of item)) key item (evicted key evictions places)

-- what the plan leaves and answers, or none where an item is to be put for which there is no room
abbrev pub carried_out : CacheState → Plan → Option (CacheState × Reply)
carried_out state (answer_only answer) = Some (state, answer)
carried_out state (put key item counter answer) =
    option_map (λ gone. (record state { counter = counter; places = put_behind (length gone) key item state.places }, answer))
    (room_for state key item)
carried_out state (take_away key answer) = Some (record state { places = without key state.places }, answer)
carried_out state (take_all answer) = Some (record state { places = empty_places state.places.limit state.places.share }, answer)

-- THE END OF A STEP

-- the places after the key was used: an item there that has not expired moves to the front of the shelf
abbrev pub used_at : ℕ → List ℕ → Option Item → Places Item → Places Item
used_at latest key None places = places
used_at latest key (Some item) places = if has_expired latest (expiry_of item) then places else brought_to_front key places

-- the places after these keys were used, one after another
abbrev pub used : ℕ → List (List ℕ) → Places Item → Places Item
used latest [] places = places
used latest (key ∷ keys) places = used latest keys (used_at latest key (found key places) places)

-- the state and the answer, where the named keys were used; where there was no room the state at the start stays
abbrev pub ended : CacheState → List (List ℕ) → Option (CacheState × Reply) → CacheState × Reply
ended start keys None = (start, reply.Word word.OutOfMemory)
ended start keys (Some done) = (record done.0 { places = used done.0.latest keys done.0.places }, done.1)

-- ONE STEP
abbrev pub step : CacheState → ℕ → PlainRequest → CacheState × Reply
step state now request =
    let start = started state now (named_keys request.act) in
    ended start (named_keys request.act) (carried_out start (plan_of start request.act))
