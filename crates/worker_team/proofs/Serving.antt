-- Workers that serve the links of their ports one after another have run.
use Rattle.std.proofs.Common.{◌≡◌, ℕ, ◌+◌, List, [], ◌∷◌, length, map, Option, refl, sym, ap, subst, arith}
use Rattle.arc_core.specs.CacheState.{CacheState}
use Rattle.arc_core.specs.Outside.{Linked}
use Rattle.atomic_table.specs.Seated.{TableId}
use Rattle.turn_lock.specs.Seats.{SeatView}
use Rattle.worker_server.specs.declared.worker.WorkerEnd.{WorkerEnd}
use Rattle.worker_server.specs.declared.worker.WorkerEnd.TheVariants as worker_end
use Rattle.worker_server.specs.Ports.{PortState}
use Rattle.worker_server.specs.Workers.{Service, WorkerState, worker_state, ServesFrom, HasRun, AllRan, HaveServed}
use Rattle.worker_team.specs.declared.team.Member.{Member}
use Rattle.worker_team.specs.Team.{Hired, hired, Left, left, HasServedPort, TeamHasWorked}
use Rattle.worker_team.specs.Disbanding.{post, AreOut, AreFresh, Closes}
use Rattle.worker_team.proofs.Running.{KeepsSeat, keeps_on, keeps_met, left_of, AllEnded, as_many, all_out, team_has_worked}

module _ {L : Type 0} (look : L → Linked) where
  keeps_from : (number : ℕ) (seat : SeatView) (coming : Option (List ℕ)) (services : List (Service L)) (seat' : SeatView) (coming' : Option (List ℕ))
      → ServesFrom look number seat coming services seat' coming' → KeepsSeat seat seat'
  keeps_from number seat coming [] seat' coming' (same, still) = record {
    same_lock = ap (λ s. s.lock) same;
    same_number = ap (λ s. s.number) same;
    same_ended = ap (λ s. s.ended) same;
    same_register = ap (λ s. s.register) same;
  }
  keeps_from number seat coming (first ∷ services) seat' coming' (at, then, served, more) =
      keeps_on seat at seat' (record {
        same_lock = ap (λ s. s.lock) served.called.grown;
        same_number = ap (λ s. s.number) served.called.grown;
        same_ended = ap (λ s. s.ended) served.called.grown;
        same_register = ap (λ s. s.register) served.called.grown;
      }) (keeps_from (number + 1) at then services seat' coming' more)

  keeps : (before after : WorkerState L) → HasRun look before after → KeepsSeat before.seat after.seat
  keeps before after ran = keeps_from 0 before.seat before.coming ran.services after.seat after.coming ran.served

-- What follows reads a worker by what it consists of.
module _ {L P C W : Type 0} (look : L → Linked) (tell : P → PortState L) (coming : C → Option (List ℕ))
    (port_of : W → P) (clock_of : W → C) (seat_of : W → SeatView) (next_of : W → ℕ) (sessions_of : W → ℕ) (end_of : W → WorkerEnd) where
  abbrev pub state : W → WorkerState L
  state w = worker_state (tell (port_of w)) (coming (clock_of w)) (seat_of w) (next_of w) (sessions_of w) (end_of w)

  abbrev pub hired_of : W → Hired P C
  hired_of w = hired (port_of w) (clock_of w) (sessions_of w)

  abbrev pub left_by : W → Left P
  left_by w = left (port_of w) (next_of w) (end_of w)

  abbrev pub HaveEnded : List W → List W → Type 0
  HaveEnded before after = AllEnded (HasServedPort look tell coming) hired_of left_by seat_of next_of end_of before after

  has_served : (w v : W) (seat : SeatView) → HasRun look (state w) (record (state v) { seat = seat }) → (member : Member P) → left_of member ≡ left_by v
      → HasServedPort look tell coming (hired_of w) (seat_of w) member seat
  has_served w v seat ran member same = record {
    later = coming (clock_of v);
    ran = subst (λ l. HasRun look (worker_state (tell (port_of w)) (coming (clock_of w)) (seat_of w) 0 (sessions_of w) worker_end.NotRun)
        (worker_state (tell l.port) (coming (clock_of v)) seat l.served (sessions_of w) l.ended)) (sym same)
        (record {
          services = ran.services;
          served = ran.served;
          links = ran.links;
          returned = ran.returned;
          number = ran.number;
          same_sessions = refl;
          ends = ran.ends;
        });
  }

  ran_ended : (before after : List W) → AllRan look (map state before) (map state after) → HaveEnded before after
  ran_ended [] [] ran = tt
  ran_ended (w ∷ ws) (v ∷ vs) (first, rest) =
      (record { seat = seat_of v; ran = has_served w v (seat_of v) first; mine = refl; keeps = keeps look (state w) (state v) first }, ran_ended ws vs rest)
  ran_ended [] (v ∷ vs) ran = absurd ran
  ran_ended (w ∷ ws) [] ran = absurd ran

  all_ended : (before after : List W) → HaveServed look (map state before) (map state after) → HaveEnded before after
  all_ended [] [] served = tt
  all_ended (w ∷ ws) [] served = absurd (omega (arith, ap length served))
  all_ended [] (v ∷ vs) (seat, ran, met) = absurd ran
  all_ended (w ∷ ws) (v ∷ vs) (seat, (first, rest), met) = (
    record {
      seat = seat;
      ran = has_served w v seat first;
      mine = ap (λ s. s.mine) met.seat;
      keeps = keeps_on (seat_of w) seat (seat_of v) (keeps look (state w) (record (state v) { seat = seat }) first) (keeps_met seat (seat_of v) _ met);
    },
    ran_ended ws vs rest,
  )

  -- as many as there were
  pub served_many : (before after : List W) → HaveServed look (map state before) (map state after) → length after ≡ length before
  served_many before after served = as_many (HasServedPort look tell coming) hired_of left_by seat_of next_of end_of before after (all_ended before after served)

  -- all seats are still out
  pub served_out : (lock : TableId) (opening : CacheState) (before after : List W) → HaveServed look (map state before) (map state after)
      → AreFresh lock opening 1 (map (λ w. post (seat_of w) (next_of w) (end_of w)) before) → AreOut lock 1 (map seat_of after)
  served_out lock opening before after served fresh =
      all_out (HasServedPort look tell coming) hired_of left_by seat_of next_of end_of lock opening 1 before after (all_ended before after served) fresh

  -- all of it, when the lock is closed
  pub served_team : (lock : TableId) (opening : CacheState) (before after : List W) (closing : CacheState) (members : List (Member P)) → HaveServed look (map state before) (map state after)
      → AreFresh lock opening 1 (map (λ w. post (seat_of w) (next_of w) (end_of w)) before) → Closes opening (map seat_of after) closing
      → map left_of members ≡ map left_by after → TeamHasWorked (HasServedPort look tell coming) opening (map hired_of before) closing members
  served_team lock opening before after closing members served fresh closes same =
      team_has_worked (HasServedPort look tell coming) hired_of left_by seat_of next_of end_of lock opening before after closing members (all_ended before after served) fresh closes same
