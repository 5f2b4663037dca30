-- What workers do: each serves the links of its port one after another, and all share one lock.
use Rattle.std.specs.Prelude.{◌≡◌, ℕ, ◌+◌, List, [], ◌∷◌, length, map, Option, IfSome}
use Rattle.std.specs.List.{AllByRecursion}
use Rattle.arc_core.specs.declared.ends.End.{End}
use Rattle.arc_core.specs.Outside.{Rose, Linked}
use Rattle.pipe_session.specs.Outside.{Moment, moment, outside}
use Rattle.turn_lock.specs.Calls.{Begins}
use Rattle.turn_lock.specs.Seats.{SeatView}
use Rattle.worker_server.specs.declared.worker.WorkerEnd.{WorkerEnd}
use Rattle.worker_server.specs.declared.worker.WorkerEnd.TheVariants as worker_end
use Rattle.worker_server.specs.Ports.{PortState, links_then, then_returned}
use Rattle.worker_server.specs.Sessions.{IsServed, IsSound}

-- One link that was served: as it came from the port, as it was handed back, and how its session ended.
pub record Service (L : Type 0) : Type 0 where
  pub came : L
  pub went : L
  pub ended : End

-- A snapshot of a worker: its port, the seconds of its clock that are to come, where they are told, its seat, how many links
-- it handed back, how many it serves at most, and how it ended.
pub record WorkerState (L : Type 0) : Type 0 where
  pub port : PortState L
  pub coming : Option (List ℕ)
  pub seat : SeatView
  pub next : ℕ
  pub sessions : ℕ
  pub ended : WorkerEnd

abbrev pub worker_state : {L : Type 0} → PortState L → Option (List ℕ) → SeatView → ℕ → ℕ → WorkerEnd → WorkerState L
worker_state port coming seat next sessions ended =
    record { port = port; coming = coming; seat = seat; next = next; sessions = sessions; ended = ended }

abbrev pub SameFaults : {L : Type 0} → (before after : PortState L) → Type 0
SameFaults before after = after.faults ≡ before.faults

abbrev pub SameRefusals : {L : Type 0} → (before after : PortState L) → Type 0
SameRefusals before after = after.refusals ≡ before.refusals

-- Why a worker has ended that served so many links and may serve `sessions`: no link is left, where that is told; so many
-- were served; the port failed; or it was refused memory. No other count rose.
abbrev pub EndsFor : {L : Type 0} → WorkerEnd → (served sessions : ℕ) → (before after : PortState L) → Type 0
EndsFor worker_end.Closed served sessions before after =
    IfSome after.links (λ links. links ≡ []) × SameFaults before after × SameRefusals before after
EndsFor worker_end.Limit served sessions before after = (served ≡ sessions) × SameFaults before after × SameRefusals before after
EndsFor worker_end.PortFault served sessions before after = Rose before.faults after.faults × SameRefusals before after
EndsFor worker_end.NoMemory served sessions before after = Rose before.refusals after.refusals × SameFaults before after
EndsFor worker_end.NotRun served sessions before after = ⊥

-- The seat has seen more of the history: what each of the others has seen begins it. All else of it is as it was.
pub record HasMet (old : SeatView) (others : List SeatView) (new : SeatView) : Type 0 where
  pub seat : new ≡ record old { seen = new.seen }
  pub own : Begins old.seen new.seen
  pub theirs : AllByRecursion (λ other. Begins other.seen new.seen) others
  pub stays_sound : IsSound old → IsSound new

-- What follows reads a link by what it tells: `look`.
module _ {L : Type 0} (look : L → Linked) where
  -- a seat and what is outside of a session on this link, at one moment
  abbrev pub moment_of : SeatView → L → Option (List ℕ) → Moment SeatView
  moment_of seat link coming = moment seat (outside (look link).incoming (look link).outgoing coming)

  -- These links were served one after another, by sessions that are numbered from `number` on. They led the seat and the
  -- clock from the one state to the other.
  abbrev pub ServesFrom : (number : ℕ) → SeatView → Option (List ℕ) → List (Service L) → SeatView → Option (List ℕ) → Type 0
  ServesFrom number seat coming [] seat' coming' = (seat' ≡ seat) × (coming' ≡ coming)
  ServesFrom number seat coming (service ∷ services) seat' coming' =
      (middle : SeatView) × (later : Option (List ℕ))
      × IsServed number (moment_of seat service.came coming) (moment_of middle service.went later) service.ended
      × ServesFrom (number + 1) middle later services seat' coming'

  -- THE WORKER. It served these links, and no others: they were the first of those to come, their sessions have the numbers
  -- from 0 on, and each link was handed back with the end of its session.
  pub record HasRun (before after : WorkerState L) : Type 0 where
    pub services : List (Service L)
    pub served : ServesFrom 0 before.seat before.coming services after.seat after.coming
    pub links : before.port.links ≡ links_then (map (λ s. s.came) services) after.port.links
    pub returned : after.port.returned ≡ then_returned before.port.returned (map (λ s. (s.went, s.ended)) services)
    pub number : after.next ≡ length services
    pub same_sessions : after.sessions ≡ before.sessions
    pub ends : EndsFor after.ended (length services) before.sessions before.port after.port

  -- each of these workers has run
  abbrev pub AllRan : List (WorkerState L) → List (WorkerState L) → Type 0
  AllRan [] [] = Unit {0}
  AllRan (before ∷ more) (after ∷ more') = HasRun before after × AllRan more more'
  AllRan [] (after ∷ more') = ⊥
  AllRan (before ∷ more) [] = ⊥

  -- ALL WORKERS. Each has run. Then the first one's seat has met each other's: what any of them has seen begins what it has
  -- seen.
  abbrev pub HaveServed : List (WorkerState L) → List (WorkerState L) → Type 0
  HaveServed before [] = before ≡ []
  HaveServed before (first ∷ others) =
      (ran : SeatView) × AllRan before (record first { seat = ran } ∷ others) × HasMet ran (map (λ w. w.seat) others) first.seat
