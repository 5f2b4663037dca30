use Rattle.std.proofs.Common.{◌∙◌, ◌<◌, length, get_or, arith}
use Rattle.arc_core.specs.Outside.{Linked, linked}
use Rattle.worker_server.specs.declared.worker.Worker.{Worker}
use Rattle.worker_server.specs.Ports.{port_state}
use Rattle.worker_server.specs.Workers.{WorkerState, worker_state}
use Rattle.worker_server.proofs.Running.{ran_by_names, same_lock_behind}
use Rattle.worker_server.proofs.Meeting.{all_ran}
use Rattle.worker_server.proofs.team.run_all.Goals as goal

pub returns-clause-ran : goal.returns-clause-ran
returns-clause-ran g c =
    let link = g.P.Link.Link in
    let port = g.P.Port in
    let look : g.row.P-Link.Denot → Linked = λ x. linked (link.left x) (link.read_faults x) (link.sent x) (link.write_faults x) (link.refusals x) (link.agains x) in
    let state : Worker g.row.E.Denot g.row.P.Denot g.row.C.Denot → WorkerState g.row.P-Link.Denot =
    λ w. worker_state (port_state (port.links w.port) (port.returned w.port) (port.faults w.port) (port.refusals w.port)) (g.C.Clock.coming w.clock) w.seat w.next w.sessions w.end in
    all_ran look state c.args.workers.now c.for_each_mut.new.s c.for_each_mut.auto.s
    (λ i d inside.
    let at = (c.for_each_mut.ensures i d inside).1 in
    ran_by_names look state at.argument.now _ at.after_call.now _ at.argument_is at.left at.call)

pub returns-clause-own : goal.returns-clause-own
returns-clause-own g c k d inside =
    let link = g.P.Link.Link in
    let port = g.P.Port in
    let look : g.row.P-Link.Denot → Linked = λ x. linked (link.left x) (link.read_faults x) (link.sent x) (link.write_faults x) (link.refusals x) (link.agains x) in
    let state : Worker g.row.E.Denot g.row.P.Denot g.row.C.Denot → WorkerState g.row.P-Link.Denot =
    λ w. worker_state (port_state (port.links w.port) (port.returned w.port) (port.faults w.port) (port.refusals w.port)) (g.C.Clock.coming w.clock) w.seat w.next w.sessions w.end in
    let before : k < length c.args.workers.now = omega (arith, c.for_each_mut.auto.s, inside) in
    let at = (c.for_each_mut.ensures k d before).1 in
    same_lock_behind look (state (get_or c.args.workers.now k d)) (state (get_or c.for_each_mut.new.s k d)) (ran_by_names look state at.argument.now _ at.after_call.now _ at.argument_is at.left at.call)
    ∙ c.requires k d before
