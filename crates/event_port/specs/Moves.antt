-- What an event worker does: it serves many links at once through one seat, each by a session of its own.
use Rattle.std.specs.Prelude.{◌≡◌, ◌⊎◌, ℕ, ◌+◌, ◌<◌, ◌≤◌, ◌==◌, ◌^◌, if◌then◌else◌, List, [], ◌∷◌, length, Contains, Option, None}
use Rattle.std.specs.List.{AllByRecursion}
use Rattle.arc_core.specs.declared.ends.End.{End}
use Rattle.arc_core.specs.declared.ends.End.TheVariants as end
use Rattle.arc_core.specs.History.{Entry}
use Rattle.arc_core.specs.Outside.{Linked}
use Rattle.pipe_session.specs.Desks.{TicksThrough}
use Rattle.pipe_session.specs.Outside.{Moment, moment, outside}
use Rattle.pipe_session.specs.Turns.{IsOver}
use Rattle.turn_lock.specs.Seats.{SeatView}
use Rattle.worker_server.specs.declared.worker.WorkerEnd.{WorkerEnd}
use Rattle.worker_server.specs.Apart.{session_calls}
use Rattle.worker_server.specs.Ports.{links_then, then_returned}
use Rattle.worker_server.specs.Sessions.{HasCalled}
use Rattle.worker_server.specs.Workers.{EndsFor}
use Rattle.event_port.specs.Pollers.{PollerState}

-- ONE MOVE, with the number of its link. The link came and was taken on; or it was handed back with the end of its session;
-- or it came and was handed back at once as Crowded, just as it came.
pub data Move (L : Type 0) : Type 0 where
  takes_on : ℕ → L → Move L
  hands_back : ℕ → L → End → Move L
  turns_away : ℕ → L → Move L

-- Where a worker stands: how many links came, how many of them it has taken on, and the numbers of those that are open.
pub record Stand : Type 0 where
  pub came : ℕ
  pub taken_on : ℕ
  pub present : List ℕ

abbrev pub stand : ℕ → ℕ → List ℕ → Stand
stand came taken_on present = record { came = came; taken_on = taken_on; present = present }

-- the numbers without this one
abbrev pub without : ℕ → List ℕ → List ℕ
without number [] = []
without number (first ∷ rest) = if first == number then rest else first ∷ without number rest

-- 1,024 links are open, or as many were taken on as may be
abbrev pub IsFull : (limit : ℕ) → Stand → Type 0
IsFull limit at = (length at.present ≡ 1024) ⊎ (at.taken_on ≡ limit)

-- What a move does. Links are numbered from 0 in the order in which they come. A link is taken on where there is room, and
-- turned away exactly where there is none. One that is handed back was open, and is open no more.
abbrev pub Moves : {L : Type 0} → (limit : ℕ) → Stand → Move L → Stand → Type 0
Moves limit from (takes_on number link) to =
    (number ≡ from.came) × (length from.present < 1024) × (from.taken_on < limit)
    × (to ≡ stand (from.came + 1) (from.taken_on + 1) (number ∷ from.present))
Moves limit from (hands_back number link _) to =
    Contains from.present number × (to ≡ stand from.came from.taken_on (without number from.present))
Moves limit from (turns_away number link) to =
    (number ≡ from.came) × IsFull limit from × (to ≡ stand (from.came + 1) from.taken_on from.present)

-- the moves lead from the one to the other, one after another
abbrev pub MovesThrough : {L : Type 0} → (limit : ℕ) → Stand → List (Move L) → Stand → Type 0
MovesThrough limit from [] to = to ≡ from
MovesThrough limit from (move ∷ moves) to = (middle : Stand) × Moves limit from move middle × MovesThrough limit middle moves to

-- the links that came, in their order
abbrev pub came_by : {L : Type 0} → List (Move L) → List L
came_by [] = []
came_by (takes_on number link ∷ moves) = link ∷ came_by moves
came_by (hands_back number link _ ∷ moves) = came_by moves
came_by (turns_away number link ∷ moves) = link ∷ came_by moves

-- the links that were handed back, in their order, each with its end
abbrev pub went_by : {L : Type 0} → List (Move L) → List (L × End)
went_by [] = []
went_by (takes_on number link ∷ moves) = went_by moves
went_by (hands_back number link ended ∷ moves) = (link, ended) ∷ went_by moves
went_by (turns_away number link ∷ moves) = (link, end.Crowded) ∷ went_by moves

-- how many links were handed back with another end than Crowded
abbrev pub served_by : {L : Type 0} → List (Move L) → ℕ
served_by [] = 0
served_by (takes_on number link ∷ moves) = served_by moves
served_by (hands_back number link _ ∷ moves) = served_by moves + 1
served_by (turns_away number link ∷ moves) = served_by moves

-- A snapshot of what an event worker works with: its poller, the seconds of its clock that are to come, where they are told,
-- and its seat.
pub record EventState (L : Type 0) : Type 0 where
  pub poller : PollerState L
  pub coming : Option (List ℕ)
  pub seat : SeatView

abbrev pub event_state : {L : Type 0} → PollerState L → Option (List ℕ) → SeatView → EventState L
event_state poller coming seat = record { poller = poller; coming = coming; seat = seat }

-- The entry is of this seat, and came at a second of 32 bits.
pub record IsOfSeat (seat : ℕ) (entry : Entry) : Type 0 where
  pub seat_is : entry.seat ≡ seat
  pub second : entry.second < 2 ^ 32

-- Whatever the entry. The seat and the clock are shared by many sessions, and what became of them is said of all together.
abbrev pub AnyAnswer : Unit {0} → Entry → Unit {0} → Type 0
AnyAnswer from entry to = Unit {0}

-- What follows reads a link by what it tells: `look`.
module _ {L : Type 0} (look : L → Linked) where
  -- what is outside of a session on this link, but for the seat and the clock
  abbrev pub at_link : L → Moment (Unit {0})
  at_link link = moment tt (outside (look link).incoming (look link).outgoing None)

  -- ONE LINK. A session ran on it from its coming to its end: the bytes that it took, its units, its requests, its text,
  -- what was sent of it, and the cause of its end. Its requests are those of the calls that have its number, in order.
  pub record IsServedAmong (number : ℕ) (calls : List Entry) (came went : L) (ended : End) : Type 0 where
    pub over : IsOver AnyAnswer (at_link came) (at_link went) ended
    pub entries : over.entries ≡ session_calls number calls

  -- No memory was there for its session. Nothing was taken from the link or sent to it.
  pub record IsUntouched (number : ℕ) (calls : List Entry) (came went : L) (ended : End) : Type 0 where
    pub same : went ≡ came
    pub no_memory : ended ≡ end.NoMemory
    pub none : session_calls number calls ≡ []

  -- Each link that is handed back had been taken on under its number, and was served, or left untouched for want of memory.
  -- One that is turned away has no calls.
  abbrev pub IsAnswered : List (Move L) → List Entry → Move L → Type 0
  IsAnswered moves calls (takes_on number link) = Unit {0}
  IsAnswered moves calls (hands_back number went ended) =
      (came : L) × Contains moves (takes_on number came)
      × (IsServedAmong number calls came went ended ⊎ IsUntouched number calls came went ended)
  IsAnswered moves calls (turns_away number link) = session_calls number calls ≡ []

  -- THE EVENT WORKER. It made these moves, and its seat these calls. In the end no link is open.
  pub record HasRunEvents (limit : ℕ) (before after : EventState L) (ended : WorkerEnd) (served : ℕ) : Type 0 where
    pub moves : List (Move L)
    pub calls : List Entry
    -- how many links came
    pub number : ℕ
    pub legal : MovesThrough limit (stand 0 0 []) moves (stand number served [])
    pub count : served ≡ served_by moves
    pub links : before.poller.port.links ≡ links_then (came_by moves) after.poller.port.links
    pub returned : after.poller.port.returned ≡ then_returned before.poller.port.returned (went_by moves)
    pub held : after.poller.held ≡ before.poller.held
    pub answered : AllByRecursion (IsAnswered moves calls) moves
    pub no_others : (session : ℕ) → number ≤ session → session_calls session calls ≡ []
    pub called : HasCalled before.seat calls after.seat
    pub own : AllByRecursion (IsOfSeat before.seat.number) calls
    pub seconds : TicksThrough before.coming calls after.coming
    pub ends : EndsFor ended served limit before.poller.port after.poller.port
