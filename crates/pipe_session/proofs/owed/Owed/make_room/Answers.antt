use Rattle.std.proofs.Common.{◌++◌, subst}
use Rattle.pipe_session.specs.Owing.{Owing, Sends, rest_of}
use Rattle.arc_core.specs.Outside.{outgoing}
use Rattle.pipe_session.proofs.Owing.{sends_both}
use Rattle.pipe_session.proofs.owed.Owed.make_room.Goals as goal

pub returns-clause-sends : goal.returns-clause-sends
returns-clause-sends g c =
    let link = g.L.Link in
    let old = c.args.link.now in
    let new = c.send_long.new.link in
    subst (λ (s : Owing). Sends (outgoing (link.sent old) (link.write_faults old) (link.refusals old)) (outgoing (link.sent new) (link.write_faults new) (link.refusals new)) (link.agains old) (link.agains new) s.text
    (c.waits.new.waiting ++ rest_of c.send_long.new.long c.send_long.new.at) c.send_long.result) c.self.view_is
    (sends_both _ _ _ _ _ _ c.self.inside.waiting c.send_waiting.new.waiting c.waits.new.waiting _ _ c.send_long.result c.in_ok-send_waiting.ensures.sends c.in_ok-send_waiting.ensures.nothing c.if-waits.ensures.put c.send_long.ensures.sends)
