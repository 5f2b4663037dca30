use Rattle.std.proofs.Common.{◌≡◌, ◌++◌, length, map}
use Rattle.arc_core.specs.contracts.links.SteadyLink.{the_row}
use Rattle.arc_core.specs.contracts.links.SteadyLinkLink.TheImpl as link
use Rattle.worker_server.specs.Ports.{port_state}
use Rattle.worker_server.specs.contracts.memory.SteadyPortPort.TheImpl.{ghosts}
use Rattle.script_runs.specs.Dealing.{AreHired}
use Rattle.script_runs.proofs.dealing.hire_all.Given as goal

-- a worker was hired for each of these hands
abbrev pub invariant-loop-hand : goal.invariant-loop-hand
invariant-loop-hand g l =
    let port = ghosts the_row link.ghosts link.dict in
    (goal.iterator-loop-hand g).can_next l.hand-iterator × (goal.iterator-loop-hand g).is_finite l.hand-iterator
    × (l.team.opening ≡ l.fn.team.opening) × (l.team.room ≡ l.fn.team.room)
    × AreHired (λ p. port_state (port.links p) (port.returned p) (port.faults p) (port.refusals p)) g.C.Clock.coming (g.C.Clock.coming l.fn.clock)
    (map (λ hand. hand.items) l.yielded) l.team.workers
    × (l.initial.hand-iterator.rest.items ≡ l.yielded ++ l.hand-iterator.rest.items)
    × (length l.initial.hand-iterator.rest.items ≡ l.fn.workers) × (l.clock ≡ l.fn.clock)
