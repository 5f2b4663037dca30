use Rattle.std.proofs.Common.{◌-◌}
use Rattle.arc_core.specs.Outside.{linked}
use Rattle.worker_server.specs.Ports.{port_state}
use Rattle.worker_server.specs.Workers.{worker_state}
use Rattle.worker_server.proofs.Running.{RunsOn}
use Rattle.worker_server.proofs.worker.run_worker.Given as goal

-- what the worker has done so far
abbrev pub invariant-loop-worker : goal.invariant-loop-worker
invariant-loop-worker g l =
    let port = g.P.Port in
    let link = g.P.Link.Link in
    RunsOn (λ x. linked (link.left x) (link.read_faults x) (link.sent x) (link.write_faults x) (link.refusals x) (link.agains x))
    (worker_state (port_state (port.links l.fn.worker.port) (port.returned l.fn.worker.port) (port.faults l.fn.worker.port) (port.refusals l.fn.worker.port))
    (g.C.Clock.coming l.fn.worker.clock) l.fn.worker.seat l.fn.worker.next l.fn.worker.sessions l.fn.worker.end)
    (worker_state (port_state (port.links l.worker.port) (port.returned l.worker.port) (port.faults l.worker.port) (port.refusals l.worker.port))
    (g.C.Clock.coming l.worker.clock) l.worker.seat l.worker.next l.worker.sessions l.worker.end)

-- one session fewer is left
abbrev pub decreases-loop-worker : goal.decreases-loop-worker
decreases-loop-worker g l = l.worker.sessions - l.worker.next
