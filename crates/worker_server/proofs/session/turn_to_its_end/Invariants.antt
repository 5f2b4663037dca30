use Rattle.arc_core.specs.Outside.{incoming, outgoing}
use Rattle.pipe_session.specs.Outside.{moment, outside}
use Rattle.pipe_session.specs.Turns.{Deeds, SoFar}
use Rattle.worker_server.proofs.Serving.{Answers}
use Rattle.worker_server.proofs.session.turn_to_its_end.Given as goal

-- what the session has done so far
abbrev pub invariant-loop : goal.invariant-loop
invariant-loop g l =
    let link = g.L.Link in
    let coming = g.C.Clock.coming in
    (deeds : Deeds)
    × SoFar (Answers (λ desk. desk.seat.now) (λ desk. desk.seat.ghost_name) (λ desk. desk.session))
    (moment l.fn.desk (outside (incoming (link.left l.fn.link) (link.read_faults l.fn.link))
    (outgoing (link.sent l.fn.link) (link.write_faults l.fn.link) (link.refusals l.fn.link)) (coming l.fn.clock)))
    (moment l.desk (outside (incoming (link.left l.link) (link.read_faults l.link))
    (outgoing (link.sent l.link) (link.write_faults l.link) (link.refusals l.link)) (coming l.clock)))
    l.state deeds
