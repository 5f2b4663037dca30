use Rattle.std.proofs.Common.{refl, ap}
use Rattle.pipe_session.proofs.Ending.{sent_seen, unsent_seen, turn_since, turn_by_link, with_gone}
use Rattle.pipe_session.proofs.session.Session.turn.Goals as goal

pub returns-in-Ok : goal.returns-in-Ok
returns-in-Ok g c = λ began deeds so.
    let sends = c.in-Ok.ensures.sends in
    let part = sends.0 in
    let sent = sent_seen _ began _ _ _ _ _ _ _ c.args.self.now _ deeds (g.L.Link.agains c.args.link.now) _ c.self.view_is c.in-Ok.ensures.incoming (record { progress = refl; ahead = refl; taken = refl; phase = refl; run = c.in-Ok.ensures.run }) so part sends.1 in
    turn_since _ began _ _ _ _ c.args.self.now _ _ deeds (with_gone deeds part.front) c.work-in-Ok.result sends.1.same_agains (ap (λ s. s.ahead) c.self.view_is) refl refl (c.work-in-Ok.ensures began (with_gone deeds part.front) sent)

pub returns-in-Err : goal.returns-in-Err
returns-in-Err g c = λ began deeds so.
    turn_by_link _ began _ _ _ c.args.self.now _ deeds c.unsent.result
    (unsent_seen _ began _ _ _ _ _ _ _ c.args.self.now _ deeds _ _ c.self.view_is c.in-Err.ensures.incoming (record { progress = refl; ahead = refl; taken = refl; phase = refl; run = c.in-Err.ensures.run }) so _ c.in-Err.unsent c.unsent.result c.in-Err.ensures.sends
    c.self.invariant.0 c.unsent.ensures.answer c.unsent.ensures.stands)
