use Rattle.std.proofs.Common.{sym, subst}
use Rattle.arc_core.specs.Outside.{Linked, linked}
use Rattle.event_port.specs.Moves.{event_state}
use Rattle.event_port.specs.Running.{Runs}
use Rattle.event_port.proofs.events.serve_wake.Goals as goal

pub visit-requires-clause-begun : goal.visit-requires-clause-begun
visit-requires-clause-begun g c = let b = c.requires.begun in (b.0, c.welcome.ensures.runs b.0 _ b.1 c.in-Fresh.ensures)

pub visit-requires-in-Ready-clause-begun : goal.visit-requires-in-Ready-clause-begun
visit-requires-in-Ready-clause-begun g c =
    let link = g.Q.Link.Link in
    let look : g.row.Q-Link.Denot → Linked = λ x. linked (link.left x) (link.read_faults x) (link.sent x) (link.write_faults x) (link.refusals x) (link.agains x) in
    let b = c.requires.begun in (b.0, subst (λ p. Runs look b.0 (event_state p (g.C.Clock.coming c.args.clock.now) c.args.seat.now) c.args.floor.now) (sym c.in-Ready.ensures) b.1)

pub returns-in-Some-clause-runs : goal.returns-in-Some-clause-runs
returns-in-Some-clause-runs g c before runs = c.visit.ensures.runs before (c.welcome.ensures.runs before _ runs c.in-Fresh.ensures)

pub returns-in-None-clause-runs : goal.returns-in-None-clause-runs
returns-in-None-clause-runs g c before runs = c.welcome.ensures.runs before _ runs c.in-Fresh.ensures

pub returns-in-Ready-clause-runs : goal.returns-in-Ready-clause-runs
returns-in-Ready-clause-runs g c before runs =
    let link = g.Q.Link.Link in
    let look : g.row.Q-Link.Denot → Linked = λ x. linked (link.left x) (link.read_faults x) (link.sent x) (link.write_faults x) (link.refusals x) (link.agains x) in
    c.visit-in-Ready.ensures.runs before (subst (λ p. Runs look before (event_state p (g.C.Clock.coming c.args.clock.now) c.args.seat.now) c.args.floor.now) (sym c.in-Ready.ensures) runs)
