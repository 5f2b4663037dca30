-- How the seats of a team stand, and how they are joined.
use Rattle.std.specs.Prelude.{◌≡◌, ◌⊎◌, ℕ, ◌+◌, ◌<◌, List, [], ◌∷◌, length, Some, None}
use Rattle.arc_core.specs.CacheState.{CacheState}
use Rattle.arc_core.specs.History.{Entry}
use Rattle.atomic_table.specs.Seated.{TableId}
use Rattle.turn_lock.specs.Calls.{calls_of, LeadsTo}
use Rattle.turn_lock.specs.Seats.{SeatView}
use Rattle.worker_server.specs.declared.worker.WorkerEnd.{WorkerEnd}
use Rattle.worker_server.specs.declared.worker.WorkerEnd.TheVariants as worker_end
use Rattle.worker_team.specs.Team.{fresh_seat}

-- the seat that others were split from, when this many are out
abbrev pub main_seat : TableId → CacheState → ℕ → SeatView
main_seat lock opening out = record { lock = lock; number = 0; opening = opening; seen = []; mine = []; ended = []; register = Some (out + 1) }

-- Where a worker stands: its seat, how many links it handed back, and how it ended.
pub record Post : Type 0 where
  pub seat : SeatView
  pub next : ℕ
  pub ended : WorkerEnd

abbrev pub post : SeatView → ℕ → WorkerEnd → Post
post seat next ended = record { seat = seat; next = next; ended = ended }

-- These have not run yet, and their seats are numbered from `number` on.
abbrev pub AreFresh : TableId → CacheState → ℕ → List Post → Type 0
AreFresh lock opening number [] = Unit {0}
AreFresh lock opening number (first ∷ rest) =
    (first ≡ post (fresh_seat lock opening number) 0 worker_end.NotRun) × AreFresh lock opening (number + 1) rest

-- A seat of this lock with this number, into which none was joined, and which has no register.
pub record IsOut (lock : TableId) (number : ℕ) (seat : SeatView) : Type 0 where
  pub same_lock : seat.lock ≡ lock
  pub number_is : seat.number ≡ number
  pub none_joined : seat.ended ≡ []
  pub no_register : seat.register ≡ None

-- so is each of these, numbered from `number` on
abbrev pub AreOut : TableId → ℕ → List SeatView → Type 0
AreOut lock number [] = Unit {0}
AreOut lock number (seat ∷ seats) = IsOut lock number seat × AreOut lock (number + 1) seats

-- The history has the calls of these seats.
abbrev pub AreKept : List Entry → ℕ → List SeatView → Type 0
AreKept history number [] = Unit {0}
AreKept history number (seat ∷ seats) = (calls_of number history ≡ seat.mine) × AreKept history (number + 1) seats

-- All seats were joined and the lock was closed: there is one history, which has their calls and no others.
pub record Closes (opening : CacheState) (seats : List SeatView) (closing : CacheState) : Type 0 where
  pub history : List Entry
  pub legal : LeadsTo opening history closing
  pub kept : AreKept history 1 seats
  pub no_others : (number : ℕ) → (number ≡ 0) ⊎ (length seats < number) → calls_of number history ≡ []
