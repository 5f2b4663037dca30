-- A team of workers at one lock: who is in it, and what it has done when all have ended.
use Rattle.std.specs.Prelude.{◌≡◌, ◌⊎◌, ℕ, ◌+◌, ◌<◌, List, [], ◌∷◌, length, Option, None}
use Rattle.arc_core.specs.CacheState.{CacheState}
use Rattle.arc_core.specs.History.{Entry}
use Rattle.arc_core.specs.Outside.{Linked}
use Rattle.atomic_table.specs.Seated.{TableId}
use Rattle.turn_lock.specs.Calls.{calls_of, LeadsTo}
use Rattle.turn_lock.specs.Seats.{SeatView}
use Rattle.worker_server.specs.declared.worker.WorkerEnd.{WorkerEnd}
use Rattle.worker_server.specs.declared.worker.WorkerEnd.TheVariants as worker_end
use Rattle.worker_server.specs.Ports.{PortState}
use Rattle.worker_server.specs.Workers.{worker_state, HasRun}
use Rattle.worker_team.specs.declared.team.Member.{Member}

-- A worker that has not run yet: its port, its clock, and how many sessions it serves at most.
pub record Hired (P C : Type 0) : Type 0 where
  pub port : P
  pub clock : C
  pub sessions : ℕ

abbrev pub hired : {P C : Type 0} → P → C → ℕ → Hired P C
hired port clock sessions = record { port = port; clock = clock; sessions = sessions }

-- What contracts see of a team that has not run yet: the state that its executor stands for, who is in it, and for how many
-- workers it has room.
pub record TeamView (P C : Type 0) : Type 0 where
  pub opening : CacheState
  pub workers : List (Hired P C)
  pub room : ℕ

-- a seat of this lock that has this number and has made no calls
abbrev pub fresh_seat : TableId → CacheState → ℕ → SeatView
fresh_seat lock opening number = record { lock = lock; number = number; opening = opening; seen = []; mine = []; ended = []; register = None }

-- What is left of a worker: its port, how many links it served, and how it ended.
pub record Left (P : Type 0) : Type 0 where
  pub port : P
  pub served : ℕ
  pub ended : WorkerEnd

abbrev pub left : {P : Type 0} → P → ℕ → WorkerEnd → Left P
left port served ended = record { port = port; served = served; ended = ended }

-- The worker has not run.
abbrev pub HasNotRun : {P : Type 0} → Member P → Type 0
HasNotRun member = (member.served ≡ 0) × (member.end ≡ worker_end.NotRun)

-- A worker that serves the links of its port one after another has run. It is read by what its links, its port and its clock
-- tell.
pub record HasServedPort {L P C : Type 0} (look : L → Linked) (tell : P → PortState L) (coming : C → Option (List ℕ))
    (worker : Hired P C) (before : SeatView) (member : Member P) (after : SeatView) : Type 0 where
  -- the seconds of its clock that were still to come when it had ended
  pub later : Option (List ℕ)
  pub ran : HasRun look (worker_state (tell worker.port) (coming worker.clock) before 0 worker.sessions worker_end.NotRun)
      (worker_state (tell member.port) later after member.served worker.sessions member.end)

-- What follows is of any kind of workers: `Ran` says that a worker whose seat was this one has run, what is left of it, and what its
-- seat was when it had ended.
module _ {P C : Type 0} (Ran : Hired P C → SeatView → Member P → SeatView → Type 0) where
  -- ONE WORKER, whose seat has this number. It has run, and its calls are those that the history has of its seat.
  pub record HasWorked (lock : TableId) (opening : CacheState) (history : List Entry) (number : ℕ) (worker : Hired P C) (member : Member P) : Type 0 where
    -- its seat when it had ended
    pub seat : SeatView
    pub ran : Ran worker (fresh_seat lock opening number) member seat
    pub own : calls_of number history ≡ seat.mine

  -- so it is for each of these, whose seats are numbered from `number` on
  abbrev pub AllHaveWorked : TableId → CacheState → List Entry → ℕ → List (Hired P C) → List (Member P) → Type 0
  AllHaveWorked lock opening history number [] [] = Unit {0}
  AllHaveWorked lock opening history number (worker ∷ workers) (member ∷ members) =
      HasWorked lock opening history number worker member × AllHaveWorked lock opening history (number + 1) workers members
  AllHaveWorked lock opening history number [] (member ∷ members) = ⊥
  AllHaveWorked lock opening history number (worker ∷ workers) [] = ⊥

  -- ONE HISTORY. The workers have run side by side, and there is one history from the state before to the state behind: each
  -- reply and each state in it are those of the machine. It has the calls of each worker's seat, numbered from 1 on, and no
  -- others.
  pub record TeamHasWorked (opening : CacheState) (workers : List (Hired P C)) (closing : CacheState) (members : List (Member P)) : Type 0 where
    pub lock : TableId
    pub history : List Entry
    pub legal : LeadsTo opening history closing
    pub each : AllHaveWorked lock opening history 1 workers members
    pub no_others : (number : ℕ) → (number ≡ 0) ⊎ (length workers < number) → calls_of number history ≡ []
