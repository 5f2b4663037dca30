-- How an event worker goes on, for the functions within: no public clause cites what stands here.
use Rattle.std.specs.Prelude.{◌≡◌, ◌≢◌, ℕ, ◌+◌, ◌<◌, ◌≤◌, List, [], ◌∷◌, length, Contains, Option, Some, None}
use Rattle.std.specs.List.{AllByRecursion}
use Rattle.arc_core.specs.declared.ends.End.{End}
use Rattle.arc_core.specs.History.{Entry}
use Rattle.arc_core.specs.Outside.{Linked}
use Rattle.pipe_session.specs.Desks.{TicksThrough}
use Rattle.pipe_session.specs.Turns.{Standing, Deeds, SoFar, IsOver}
use Rattle.pipe_session.specs.declared.turn.Turn.{Turn}
use Rattle.pipe_session.specs.declared.turn.Turn.TheVariants as turn
use Rattle.slab.specs.Slab.{Slab, get, slab_len, Updates}
use Rattle.turn_lock.specs.Seats.{SeatView}
use Rattle.worker_server.specs.declared.worker.WorkerEnd.{WorkerEnd}
use Rattle.worker_server.specs.Apart.{session_calls}
use Rattle.worker_server.specs.Ports.{links_then, then_returned}
use Rattle.worker_server.specs.Sessions.{IsOf, HasCalled}
use Rattle.worker_server.specs.Workers.{EndsFor, SameFaults, SameRefusals}
use Rattle.event_port.specs.declared.guests.Guest.{Guest}
use Rattle.event_port.specs.declared.guests.Floor.{Floor}
use Rattle.event_port.specs.Pollers.{PollerState, TakesIn}
use Rattle.event_port.specs.Moves.{Move, takes_on, hands_back, turns_away, stand, MovesThrough, came_by, went_by, EventState, IsOfSeat, AnyAnswer, at_link, IsAnswered}

-- A clock that tells its seconds has one that is to come.
abbrev pub HasSecond : Option (List ℕ) → Type 0
HasSecond None = Unit {0}
HasSecond (Some []) = ⊥
HasSecond (Some (second ∷ seconds)) = Unit {0}

-- where there were calls before, the clock has one
abbrev pub GoesOnTicking : List Entry → Option (List ℕ) → Type 0
GoesOnTicking [] coming = Unit {0}
GoesOnTicking (entry ∷ entries) coming = HasSecond coming

-- no link came or was taken on
pub record SameNumbers {L : Type 0} (old new : Floor L) : Type 0 where
  pub came : new.came ≡ old.came
  pub taken_on : new.taken_on ≡ old.taken_on
  pub limit : new.limit ≡ old.limit

-- there is room for a further link
pub record HasPlace {L : Type 0} (floor : Floor L) : Type 0 where
  pub few : slab_len floor.guests ≢ 1024
  pub below : floor.taken_on < floor.limit

-- nothing was done yet
pub record IsBegun {L : Type 0} (limit : ℕ) (floor : Floor L) : Type 0 where
  pub none : floor.guests.slots ≡ []
  pub none_came : floor.came ≡ 0
  pub none_taken_on : floor.taken_on ≡ 0
  pub limit_is : floor.limit ≡ limit

-- These are the calls of one session that a seat has made between, each at the clock's next second.
pub record MadeCalls (number : ℕ) (more : List Entry) (seat seat' : SeatView) (coming coming' : Option (List ℕ)) : Type 0 where
  pub called : HasCalled seat more seat'
  pub own : AllByRecursion (IsOf seat.number number) more
  pub seconds : TicksThrough coming more coming'

module _ {L : Type 0} where
  -- no guest has this number
  abbrev pub HasNone : Slab (Guest L) → ℕ → Type 0
  HasNone guests number = (key : ℕ) (guest : Guest L) → get guests key ≡ Some guest → guest.number ≢ number

  -- a number that was handed back, or turned away, is no guest's
  abbrev pub IsGone : Slab (Guest L) → ℕ → Move L → Type 0
  IsGone guests came (takes_on number link) = Unit {0}
  IsGone guests came (hands_back number link _) = (number < came) × HasNone guests number
  IsGone guests came (turns_away number link) = (number < came) × HasNone guests number

  -- Each link that came back, and no other thing of the poller but how many are out.
  abbrev pub OnlyReturns : (before after : PollerState L) → Type 0
  OnlyReturns before after = after.port ≡ record before.port { returned = after.port.returned }

  -- what one wake leaves of the poller, by whether the worker goes on
  abbrev pub GoesOnOrEnds : (before after : PollerState L) → Floor L → Option WorkerEnd → Type 0
  GoesOnOrEnds before after floor None = SameFaults before.port after.port × SameRefusals before.port after.port
  GoesOnOrEnds before after floor (Some ended) = EndsFor ended floor.taken_on floor.limit before.port after.port

  -- The guest with this key was handed back with this end.
  pub record HandsBack (old : Floor L) (before : PollerState L) (key : ℕ) (ended : End) (new : Floor L) (after : PollerState L) : Type 0 where
    pub guest : Guest L
    pub was : get old.guests key ≡ Some guest
    pub updates : Updates old.guests new.guests key None
    pub fewer : slab_len new.guests + 1 ≡ slab_len old.guests
    pub numbers : SameNumbers old new
    pub taken : TakesIn before guest.link ended after

module _ {L : Type 0} (look : L → Linked) where
  -- the session on this link has been answered so since the link came
  abbrev pub StandsAt : (came link : L) → Standing → List Entry → Type 0
  StandsAt came link session told = (deeds : Deeds) × SoFar AnyAnswer (at_link look came) (at_link look link) session deeds × (deeds.entries ≡ told)

  -- so it has, since some link came
  abbrev pub StandsSomehow : Guest L → Option (List ℕ) → Type 0
  StandsSomehow guest coming = (came : L) × (told : List Entry) × GoesOnTicking told coming × StandsAt came guest.link guest.session told

  -- or it is over, with all of this
  abbrev pub IsOverWith : (came link : L) → End → List Entry → Type 0
  IsOverWith came link ended told = (over : IsOver AnyAnswer (at_link look came) (at_link look link) ended) × (over.entries ≡ told)

  -- by the answer of a turn
  abbrev pub TurnedTo : (came : L) → Guest L → List Entry → Turn → Type 0
  TurnedTo came guest told (turn.Over ended) = IsOverWith came guest.link ended told
  TurnedTo came guest told other = StandsAt came guest.link guest.session told

  -- by the answer of many turns
  abbrev pub WorkedTo : (came : L) → Guest L → List Entry → Option End → Type 0
  WorkedTo came guest told None = StandsAt came guest.link guest.session told
  WorkedTo came guest told (Some ended) = IsOverWith came guest.link ended told

  -- One guest: when it came, and what its session has done since.
  pub record IsGuest (moves : List (Move L)) (calls : List Entry) (next : ℕ) (present : List ℕ) (guest : Guest L) : Type 0 where
    pub came : L
    pub taken_on : Contains moves (takes_on guest.number came)
    pub stands : StandsAt came guest.link guest.session (session_calls guest.number calls)
    pub is_present : Contains present guest.number
    pub below : guest.number < next

  -- What the worker has done since it began, and that its guests are those that are open.
  pub record Runs (before now : EventState L) (floor : Floor L) : Type 0 where
    pub moves : List (Move L)
    pub calls : List Entry
    pub present : List ℕ
    pub legal : MovesThrough floor.limit (stand 0 0 []) moves (stand floor.came floor.taken_on present)
    pub links : before.poller.port.links ≡ links_then (came_by moves) now.poller.port.links
    pub returned : now.poller.port.returned ≡ then_returned before.poller.port.returned (went_by moves)
    pub held : now.poller.held ≡ before.poller.held + length present
    pub answered : AllByRecursion (IsAnswered look moves calls) moves
    pub no_others : (session : ℕ) → floor.came ≤ session → session_calls session calls ≡ []
    pub called : HasCalled before.seat calls now.seat
    pub own : AllByRecursion (IsOfSeat before.seat.number) calls
    pub seconds : TicksThrough before.coming calls now.coming
    pub guests : (key : ℕ) (guest : Guest L) → get floor.guests key ≡ Some guest → IsGuest moves calls floor.came present guest
    pub apart : (key other : ℕ) (guest guest' : Guest L) → get floor.guests key ≡ Some guest → get floor.guests other ≡ Some guest'
        → guest.number ≡ guest'.number → key ≡ other
    pub size : slab_len floor.guests ≡ length present
    pub gone : AllByRecursion (IsGone floor.guests floor.came) moves
    pub within : floor.taken_on ≤ floor.limit
    pub few : length present ≤ 1024
