use Rattle.std.proofs.Common.{◌≡◌, refl}
use Rattle.arc_core.specs.Outside.{Linked, linked}
use Rattle.worker_server.specs.declared.worker.Worker.{Worker}
use Rattle.worker_server.specs.Ports.{port_state}
use Rattle.worker_server.specs.Workers.{WorkerState, worker_state}
use Rattle.worker_server.proofs.Meeting.{have_served, of_first, of_others}
use Rattle.worker_server.proofs.team.serve_all.Goals as goal

pub meet_all-requires-clause-own : goal.meet_all-requires-clause-own
meet_all-requires-clause-own g c =
    of_first (λ (w : Worker g.row.E.Denot g.row.P.Denot g.row.C.Denot). w.seat.lock ≡ c.args.lock.now) c.run_all.new.workers c.in-Some.first.now c.in-Some.others.now c.in-Some.ensures.cases.0
    c.run_all.ensures.own

pub meet_all-requires-clause-others : goal.meet_all-requires-clause-others
meet_all-requires-clause-others g c =
    of_others (λ (w : Worker g.row.E.Denot g.row.P.Denot g.row.C.Denot). w.seat.lock ≡ c.args.lock.now) c.run_all.new.workers c.in-Some.first.now c.in-Some.others.now c.in-Some.ensures.cases.0
    c.run_all.ensures.own

pub returns-in-Some : goal.returns-in-Some
returns-in-Some g c =
    let link = g.P.Link.Link in
    let port = g.P.Port in
    let look : g.row.P-Link.Denot → Linked = λ x. linked (link.left x) (link.read_faults x) (link.sent x) (link.write_faults x) (link.refusals x) (link.agains x) in
    let state : Worker g.row.E.Denot g.row.P.Denot g.row.C.Denot → WorkerState g.row.P-Link.Denot =
    λ w. worker_state (port_state (port.links w.port) (port.returned w.port) (port.faults w.port) (port.refusals w.port)) (g.C.Clock.coming w.clock) w.seat w.next w.sessions w.end in
    let first : Worker g.row.E.Denot g.row.P.Denot g.row.C.Denot = c.in-Some.first.now in
    have_served look state _ c.run_all.new.workers first (record first { seat = c.meet_all.new.seat }) c.in-Some.others.now c.meet_all.new.others c.in-Some.ensures.cases.0 c.meet_all.ensures.same
    refl c.run_all.ensures.ran c.meet_all.ensures.met
