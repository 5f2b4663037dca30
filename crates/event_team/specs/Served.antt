-- What a member of a team of event workers has done.
use Rattle.std.specs.Prelude.{ℕ, List, Option}
use Rattle.arc_core.specs.Outside.{Linked}
use Rattle.event_port.specs.Moves.{event_state, HasRunEvents}
use Rattle.event_port.specs.Pollers.{PollerState}
use Rattle.turn_lock.specs.Seats.{SeatView}
use Rattle.worker_team.specs.declared.team.Member.{Member}
use Rattle.worker_team.specs.Team.{Hired}

-- A worker that serves many links of its poller at once has run. It is read by what its links, its poller and its clock tell.
pub record HasServedPoller {L Q C : Type 0} (look : L → Linked) (tell : Q → PollerState L) (coming : C → Option (List ℕ))
    (worker : Hired Q C) (before : SeatView) (member : Member Q) (after : SeatView) : Type 0 where
  -- the seconds of its clock that were still to come when it had ended
  pub later : Option (List ℕ)
  pub ran : HasRunEvents look worker.sessions (event_state (tell worker.port) (coming worker.clock) before)
      (event_state (tell member.port) later after) member.end member.served
