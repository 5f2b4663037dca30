use Rattle.std.proofs.Common.{◌≡◌}
use Rattle.arc_core.specs.Outside.{Linked, linked}
use Rattle.worker_server.specs.Ports.{port_state}
use Rattle.event_port.specs.Pollers.{poller_state}
use Rattle.event_port.specs.Moves.{EventState, event_state}
use Rattle.event_port.specs.Running.{Runs, OnlyReturns, SameNumbers}
use Rattle.event_port.proofs.events.serve_the_rest.Given as goal

-- what was done so far
abbrev pub invariant-loop : goal.invariant-loop
invariant-loop g l =
    let link = g.Q.Link.Link in
    let look : g.row.Q-Link.Denot → Linked = λ x. linked (link.left x) (link.read_faults x) (link.sent x) (link.write_faults x) (link.refusals x) (link.agains x) in
    let q = g.Q.Poller in
    let coming = g.C.Clock.coming in
    let at_fn = poller_state (port_state (q.links l.fn.poller) (q.returned l.fn.poller) (q.faults l.fn.poller) (q.refusals l.fn.poller)) (q.held l.fn.poller) in
    let at_now = poller_state (port_state (q.links l.poller) (q.returned l.poller) (q.faults l.poller) (q.refusals l.poller)) (q.held l.poller) in
    record {
      own : l.seat.lock ≡ l.fn.lock;
      runs : (before : EventState g.row.Q-Link.Denot) → Runs look before (event_state at_fn (coming l.fn.clock) l.fn.seat) l.fn.floor → Runs look before (event_state at_now (coming l.clock) l.seat) l.floor;
      counts : OnlyReturns at_fn at_now;
      same : SameNumbers l.fn.floor l.floor;
    }
