use Rattle.event_port.specs.Moves.{event_state}
use Rattle.event_port.proofs.floor.visit.Goals as goal

pub returns-in-Ok-clause-runs : goal.returns-in-Ok-clause-runs
returns-in-Ok-clause-runs g c before runs =
    c.in-Ok.ensures.runs before (event_state before.poller (g.C.Clock.coming c.turn_at.new.clock) c.turn_at.new.seat) (c.turn_at.ensures.runs before runs)

pub returns-in-Err-clause-runs : goal.returns-in-Err-clause-runs
returns-in-Err-clause-runs g c before runs =
    c.in-Err.ensures.runs before (event_state before.poller (g.C.Clock.coming c.turn_at.new.clock) c.turn_at.new.seat) (c.turn_at.ensures.runs before runs)
