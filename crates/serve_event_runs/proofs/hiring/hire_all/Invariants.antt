use Rattle.std.proofs.Common.{◌≡◌, ◌==◌, ◌-◌, ◌^◌, if◌then◌else◌, length, map}
use Rattle.std.specs.List.{AllByRecursion}
use Rattle.worker_ports.specs.Hands.{ports_state}
use Rattle.worker_server.specs.Ports.{port_state}
use Rattle.serve_runs.specs.Serving.{HandsThrough, IsHiredFor}
use Rattle.serve_event_runs.proofs.hiring.hire_all.Given as goal

abbrev pub invariant-loop : goal.invariant-loop
invariant-loop g l =
    let port = g.Q.Poller.Poller in
    let all = g.Q.EventPorts in
    let ports = g.Q.Ports in
    (l.team.opening ≡ l.fn.team.opening) × (l.team.room ≡ l.fn.team.room) × (length l.team.workers ≡ l.counter)
    × HandsThrough (λ p. port_state (port.links p) (port.returned p) (port.faults p) (port.refusals p))
    (ports_state (all.pollers_waiting l.fn.ports) (all.pollers_back l.fn.ports) (all.pollers_out l.fn.ports) (ports.faults l.fn.ports) (ports.refusals l.fn.ports))
    (map (λ w. w.port) l.team.workers)
    (ports_state (all.pollers_waiting l.ports) (all.pollers_back l.ports) (all.pollers_out l.ports) (ports.faults l.ports) (ports.refusals l.ports))
    × AllByRecursion (IsHiredFor g.C.Clock.coming (g.C.Clock.coming l.fn.clock) (if l.fn.sessions == 0 then 2 ^ 64 - 1 else l.fn.sessions)) l.team.workers
    × (l.clock ≡ l.fn.clock) × (l.sessions ≡ l.fn.sessions) × (l.workers ≡ l.fn.workers)
