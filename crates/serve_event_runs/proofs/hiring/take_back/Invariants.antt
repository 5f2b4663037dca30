use Rattle.std.proofs.Common.{◌≡◌, ◌≤◌, ◌++◌, length, map}
use Rattle.worker_ports.specs.Hands.{ports_state}
use Rattle.worker_server.specs.Ports.{port_state}
use Rattle.serve_runs.specs.Serving.{TakesThrough}
use Rattle.serve_event_runs.proofs.hiring.take_back.Given as goal

abbrev pub invariant-loop-member : goal.invariant-loop-member
invariant-loop-member g l =
    let port = g.Q.Poller.Poller in
    let all = g.Q.EventPorts in
    let ports = g.Q.Ports in
    (goal.iterator-loop-member g).can_next l.member-iterator × (goal.iterator-loop-member g).is_finite l.member-iterator
    × (length l.member-iterator.rest.items ≤ all.pollers_out l.ports)
    × TakesThrough (λ p. port_state (port.links p) (port.returned p) (port.faults p) (port.refusals p))
    (ports_state (all.pollers_waiting l.initial.ports) (all.pollers_back l.initial.ports) (all.pollers_out l.initial.ports) (ports.faults l.initial.ports) (ports.refusals l.initial.ports))
    (map (λ m. m.port) l.yielded)
    (ports_state (all.pollers_waiting l.ports) (all.pollers_back l.ports) (all.pollers_out l.ports) (ports.faults l.ports) (ports.refusals l.ports))
    × (l.initial.member-iterator.rest.items ≡ l.yielded ++ l.member-iterator.rest.items)
