-- Event workers have run.
use Rattle.std.proofs.Common.{◌≡◌, ℕ, List, [], ◌∷◌, length, map, Option, refl, sym, ap, subst, arith}
use Rattle.arc_core.specs.CacheState.{CacheState}
use Rattle.arc_core.specs.History.{Entry}
use Rattle.arc_core.specs.Outside.{Linked}
use Rattle.event_port.specs.Moves.{event_state, HasRunEvents}
use Rattle.event_port.specs.Pollers.{PollerState}
use Rattle.event_port.specs.Teams.{MemberState, member_state, limit_of, HasRunAlone, AllRanEvents, HaveServedEvents}
use Rattle.event_team.specs.Served.{HasServedPoller}
use Rattle.atomic_table.specs.Seated.{TableId}
use Rattle.turn_lock.specs.Seats.{SeatView}
use Rattle.worker_server.specs.declared.worker.WorkerEnd.{WorkerEnd}
use Rattle.worker_server.specs.Sessions.{HasCalled}
use Rattle.worker_team.specs.declared.team.Member.{Member}
use Rattle.worker_team.specs.Team.{Hired, hired, Left, left, TeamHasWorked}
use Rattle.worker_team.specs.Disbanding.{post, AreOut, AreFresh, Closes}
use Rattle.worker_team.proofs.Running.{KeepsSeat, keeps_on, keeps_met, left_of, AllEnded, as_many, all_out, team_has_worked}

keeps : (before : SeatView) (calls : List Entry) (after : SeatView) → HasCalled before calls after → KeepsSeat before after
keeps before calls after called = record {
  same_lock = ap (λ s. s.lock) called.grown;
  same_number = ap (λ s. s.number) called.grown;
  same_ended = ap (λ s. s.ended) called.grown;
  same_register = ap (λ s. s.register) called.grown;
}

-- What follows reads a worker by what it consists of.
module _ {L Q C W : Type 0} (look : L → Linked) (tell : Q → PollerState L) (coming : C → Option (List ℕ))
    (port_of : W → Q) (clock_of : W → C) (seat_of : W → SeatView) (sessions_of : W → ℕ) (served_of : W → ℕ) (end_of : W → WorkerEnd) where
  abbrev pub state : W → MemberState L
  state w = member_state (event_state (tell (port_of w)) (coming (clock_of w)) (seat_of w)) (sessions_of w) (served_of w) (end_of w)

  abbrev pub hired_of : W → Hired Q C
  hired_of w = hired (port_of w) (clock_of w) (limit_of (sessions_of w))

  abbrev pub left_by : W → Left Q
  left_by w = left (port_of w) (served_of w) (end_of w)

  abbrev pub HaveEnded : List W → List W → Type 0
  HaveEnded before after = AllEnded (HasServedPoller look tell coming) hired_of left_by seat_of served_of end_of before after

  has_served : (w v : W) (seat : SeatView) → HasRunAlone look (state w) (record (state v) { works = record (state v).works { seat = seat } }) → (member : Member Q) → left_of member ≡ left_by v
      → HasServedPoller look tell coming (hired_of w) (seat_of w) member seat
  has_served w v seat alone member same = record {
    later = coming (clock_of v);
    ran = subst (λ l. HasRunEvents look (limit_of (sessions_of w)) (event_state (tell (port_of w)) (coming (clock_of w)) (seat_of w))
        (event_state (tell l.port) (coming (clock_of v)) seat) l.ended l.served) (sym same) alone.ran;
  }

  ran_ended : (before after : List W) → AllRanEvents look (map state before) (map state after) → HaveEnded before after
  ran_ended [] [] ran = tt
  ran_ended (w ∷ ws) (v ∷ vs) (first, rest) = (
    record { seat = seat_of v; ran = has_served w v (seat_of v) first; mine = refl; keeps = keeps (seat_of w) first.ran.calls (seat_of v) first.ran.called },
    ran_ended ws vs rest,
  )
  ran_ended [] (v ∷ vs) ran = absurd ran
  ran_ended (w ∷ ws) [] ran = absurd ran

  all_ended : (before after : List W) → HaveServedEvents look (map state before) (map state after) → HaveEnded before after
  all_ended [] [] served = tt
  all_ended (w ∷ ws) [] served = absurd (omega (arith, ap length served))
  all_ended [] (v ∷ vs) (seat, ran, met) = absurd ran
  all_ended (w ∷ ws) (v ∷ vs) (seat, (first, rest), met) = (
    record {
      seat = seat;
      ran = has_served w v seat first;
      mine = ap (λ s. s.mine) met.seat;
      keeps = keeps_on (seat_of w) seat (seat_of v) (keeps (seat_of w) first.ran.calls seat first.ran.called) (keeps_met seat (seat_of v) _ met);
    },
    ran_ended ws vs rest,
  )

  -- as many as there were
  pub served_many : (before after : List W) → HaveServedEvents look (map state before) (map state after) → length after ≡ length before
  served_many before after served = as_many (HasServedPoller look tell coming) hired_of left_by seat_of served_of end_of before after (all_ended before after served)

  -- all seats are still out
  pub served_out : (lock : TableId) (opening : CacheState) (before after : List W) → HaveServedEvents look (map state before) (map state after)
      → AreFresh lock opening 1 (map (λ w. post (seat_of w) (served_of w) (end_of w)) before) → AreOut lock 1 (map seat_of after)
  served_out lock opening before after served fresh =
      all_out (HasServedPoller look tell coming) hired_of left_by seat_of served_of end_of lock opening 1 before after (all_ended before after served) fresh

  -- all of it, when the lock is closed
  pub served_team : (lock : TableId) (opening : CacheState) (before after : List W) (closing : CacheState) (members : List (Member Q)) → HaveServedEvents look (map state before) (map state after)
      → AreFresh lock opening 1 (map (λ w. post (seat_of w) (served_of w) (end_of w)) before) → Closes opening (map seat_of after) closing
      → map left_of members ≡ map left_by after → TeamHasWorked (HasServedPoller look tell coming) opening (map hired_of before) closing members
  served_team lock opening before after closing members served fresh closes same =
      team_has_worked (HasServedPoller look tell coming) hired_of left_by seat_of served_of end_of lock opening before after closing members (all_ended before after served) fresh closes same
