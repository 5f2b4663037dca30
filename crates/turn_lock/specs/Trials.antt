-- What the tests' executor and their teams of threads keep.
use Rattle.std.specs.Prelude.{◌≡◌, ℕ, [], length, Some, None}
use Rattle.arc_core.specs.CacheState.{CacheState, opening_state}
use Rattle.turn_lock.specs.Seats.{SeatView}

-- nothing was ever held; this is the latest second
abbrev pub vacant_state : ℕ → CacheState
vacant_state latest = record (opening_state 0 0) { latest = latest }

-- the seat is of the same lock, and has the same numbers and register
abbrev pub Stays : SeatView → SeatView → Type 0
Stays old new = (new.lock ≡ old.lock) × (new.ended ≡ old.ended) × (new.register ≡ old.register)

-- nothing was joined into it, and it does not have the register
abbrev pub IsFresh : SeatView → Type 0
IsFresh seat = (seat.ended ≡ []) × (seat.register ≡ None)

-- it has the register with this next number, and so many seats were joined into it
abbrev pub HasJoined : SeatView → ℕ → ℕ → Type 0
HasJoined seat next count = (seat.register ≡ Some next) × (length seat.ended ≡ count)
