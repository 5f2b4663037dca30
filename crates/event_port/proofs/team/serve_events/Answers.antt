use Rattle.std.proofs.Common.{◌≡◌, refl}
use Rattle.arc_core.specs.Outside.{Linked, linked}
use Rattle.worker_server.specs.Ports.{port_state}
use Rattle.worker_server.proofs.Meeting.{of_first, of_others}
use Rattle.event_port.specs.declared.team.EventWorker.{EventWorker}
use Rattle.event_port.specs.Pollers.{poller_state}
use Rattle.event_port.specs.Moves.{event_state}
use Rattle.event_port.specs.Teams.{MemberState, member_state}
use Rattle.event_port.proofs.Teams.{have_served}
use Rattle.event_port.proofs.team.serve_events.Goals as goal

pub meet_all-requires-clause-own : goal.meet_all-requires-clause-own
meet_all-requires-clause-own g c =
    of_first (λ (w : EventWorker g.row.E.Denot g.row.Q.Denot g.row.C.Denot). w.seat.lock ≡ c.args.lock.now) c.run_all.new.workers c.in-Some.first.now c.in-Some.others.now c.in-Some.ensures.cases.0
    c.run_all.ensures.own

pub meet_all-requires-clause-others : goal.meet_all-requires-clause-others
meet_all-requires-clause-others g c =
    of_others (λ (w : EventWorker g.row.E.Denot g.row.Q.Denot g.row.C.Denot). w.seat.lock ≡ c.args.lock.now) c.run_all.new.workers c.in-Some.first.now c.in-Some.others.now c.in-Some.ensures.cases.0
    c.run_all.ensures.own

pub returns-in-Some : goal.returns-in-Some
returns-in-Some g c =
    let link = g.Q.Link.Link in
    let q = g.Q.Poller in
    let look : g.row.Q-Link.Denot → Linked = λ x. linked (link.left x) (link.read_faults x) (link.sent x) (link.write_faults x) (link.refusals x) (link.agains x) in
    let state : EventWorker g.row.E.Denot g.row.Q.Denot g.row.C.Denot → MemberState g.row.Q-Link.Denot =
    λ w. member_state (event_state (poller_state (port_state (q.links w.poller) (q.returned w.poller) (q.faults w.poller) (q.refusals w.poller)) (q.held w.poller)) (g.C.Clock.coming w.clock) w.seat) w.sessions w.served w.end in
    let first : EventWorker g.row.E.Denot g.row.Q.Denot g.row.C.Denot = c.in-Some.first.now in
    have_served look state _ c.run_all.new.workers first (record first { seat = c.meet_all.new.seat }) c.in-Some.others.now c.meet_all.new.others c.in-Some.ensures.cases.0 c.meet_all.ensures.same
    refl c.run_all.ensures.ran c.meet_all.ensures.met
