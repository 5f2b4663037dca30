use Rattle.std.proofs.Common.{◌∙◌, ◌<◌, length, get_or, arith}
use Rattle.arc_core.specs.Outside.{Linked, linked}
use Rattle.worker_server.specs.Ports.{port_state}
use Rattle.event_port.specs.declared.team.EventWorker.{EventWorker}
use Rattle.event_port.specs.Pollers.{poller_state}
use Rattle.event_port.specs.Moves.{event_state}
use Rattle.event_port.specs.Teams.{MemberState, member_state}
use Rattle.event_port.proofs.Teams.{all_ran, ran_by_names, same_lock_behind}
use Rattle.event_port.proofs.team.run_all.Goals as goal

pub returns-clause-ran : goal.returns-clause-ran
returns-clause-ran g c =
    let link = g.Q.Link.Link in
    let q = g.Q.Poller in
    let look : g.row.Q-Link.Denot → Linked = λ x. linked (link.left x) (link.read_faults x) (link.sent x) (link.write_faults x) (link.refusals x) (link.agains x) in
    let state : EventWorker g.row.E.Denot g.row.Q.Denot g.row.C.Denot → MemberState g.row.Q-Link.Denot =
    λ w. member_state (event_state (poller_state (port_state (q.links w.poller) (q.returned w.poller) (q.faults w.poller) (q.refusals w.poller)) (q.held w.poller)) (g.C.Clock.coming w.clock) w.seat) w.sessions w.served w.end in
    all_ran look state c.args.workers.now c.for_each_mut.new.s c.for_each_mut.auto.s
    (λ i d inside.
    let at = (c.for_each_mut.ensures i d inside).1 in
    ran_by_names look state at.argument.now _ at.after_call.now _ at.argument_is at.left at.call)

pub returns-clause-own : goal.returns-clause-own
returns-clause-own g c k d inside =
    let link = g.Q.Link.Link in
    let q = g.Q.Poller in
    let look : g.row.Q-Link.Denot → Linked = λ x. linked (link.left x) (link.read_faults x) (link.sent x) (link.write_faults x) (link.refusals x) (link.agains x) in
    let state : EventWorker g.row.E.Denot g.row.Q.Denot g.row.C.Denot → MemberState g.row.Q-Link.Denot =
    λ w. member_state (event_state (poller_state (port_state (q.links w.poller) (q.returned w.poller) (q.faults w.poller) (q.refusals w.poller)) (q.held w.poller)) (g.C.Clock.coming w.clock) w.seat) w.sessions w.served w.end in
    let before : k < length c.args.workers.now = omega (arith, c.for_each_mut.auto.s, inside) in
    let at = (c.for_each_mut.ensures k d before).1 in
    same_lock_behind look (state (get_or c.args.workers.now k d)) (state (get_or c.for_each_mut.new.s k d)) (ran_by_names look state at.argument.now _ at.after_call.now _ at.argument_is at.left at.call)
    ∙ c.requires k d before
