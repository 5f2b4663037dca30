-- Histories of executed requests, and which of them are legal.
use Rattle.std.specs.Prelude.{◌≡◌, ◌≢◌, ◌⊎◌, ℕ, List, [], ◌∷◌, Some, None}
use Rattle.arc_core.specs.declared.replies.Reply.{Reply}
use Rattle.arc_core.specs.declared.replies.Reply.TheVariants as reply
use Rattle.arc_core.specs.declared.replies.Word.TheVariants as word
use Rattle.arc_core.specs.PlainRequest.{PlainAct, PlainRequest, CollAct, store, get, count, delete, touch, flush_all, version, make, on_collection}
use Rattle.arc_core.specs.PlainRequest as act
use Rattle.arc_core.specs.CacheState.{CacheState}
use Rattle.arc_core.specs.Item.{Item, expiry_of, expiry_at, with_expiry, is_sticky}
use Rattle.arc_core.specs.Places.{found}
use Rattle.arc_core.specs.Step.{named_keys, started, step, room_for}

-- One executed request: by which seat and session, at which second, and with which reply.
pub record Entry : Type 0 where
  pub seat : ℕ
  pub session : ℕ
  pub second : ℕ
  pub request : PlainRequest
  pub reply : Reply

-- The request on a collection may want memory: all may but the deletes, and the question whether a set has a value.
abbrev pub CollMayWantMemory : CollAct → Type 0
CollMayWantMemory (act.list_delete range drop_empty) = ⊥
CollMayWantMemory (act.set_delete value drop_empty) = ⊥
CollMayWantMemory (act.set_exist value) = ⊥
CollMayWantMemory (act.map_delete fields drop_empty) = ⊥
CollMayWantMemory _ = Unit {0}

-- The request may want memory, by the state at the start of its step: all may but those that are known to need none. A
-- `touch` needs some only where its item gets to be sticky or is no longer so, and there is room for it then.
abbrev pub MayWantMemory : CacheState → PlainAct → Type 0
MayWantMemory start (store verb key flags exptime value) = Unit {0}
MayWantMemory start (get keys unique) = Unit {0}
MayWantMemory start (count up key delta initial) = Unit {0}
MayWantMemory start (delete key) = ⊥
MayWantMemory start (touch key exptime) =
    (item : Item) × (found key start.places ≡ Some item) × (is_sticky (expiry_of item) ≢ is_sticky (expiry_at start.latest exptime))
    × (room_for start key (with_expiry (expiry_at start.latest exptime) item) ≢ None)
MayWantMemory start flush_all = ⊥
MayWantMemory start version = ⊥
MayWantMemory start (make kind key args) = Unit {0}
MayWantMemory start (on_collection key asked) = CollMayWantMemory asked

-- The reply and the new state are those of the machine's step. Or memory was refused to a request that may want it, and nothing has changed.
abbrev pub Executes : CacheState → ℕ → PlainRequest → Reply → CacheState → Type 0
Executes old now request answer new =
    (step old now request ≡ (new, answer))
    ⊎ (MayWantMemory (started old now (named_keys request.act)) request.act × (answer ≡ reply.Word word.NoMemory) × (new ≡ old))

-- The history is legal from the old state, and leads to the new one.
abbrev pub Replays : CacheState → List Entry → CacheState → Type 0
Replays old [] new = new ≡ old
Replays old (entry ∷ entries) new =
    (middle : CacheState) × Executes old entry.second entry.request entry.reply middle × Replays middle entries new
