use Rattle.std.proofs.Common.{refl}
use Rattle.pipe_session.proofs.Ending.{sent_seen, unsent_seen, link_since, with_gone}
use Rattle.pipe_session.proofs.session.Session.end.Goals as goal

pub returns-in-Ok : goal.returns-in-Ok
returns-in-Ok g c = λ began desk coming deeds so.
    let sends = c.in-Ok.ensures.sends in
    let part = sends.0 in
    let sent = sent_seen _ began desk coming _ _ _ _ _ c.args.self.now _ deeds (g.L.Link.agains c.args.link.now) _ c.self.view_is c.in-Ok.ensures.incoming
    (record { progress = refl; ahead = refl; taken = refl; phase = refl; run = c.in-Ok.ensures.run }) so part sends.1 in
    link_since _ began _ _ _ _ _ deeds (with_gone deeds part.front) c.over_at_end.result sends.1.same_agains refl
    (c.over_at_end.ensures began desk _ _ coming _ _ (with_gone deeds part.front) sent)

pub returns-in-Err : goal.returns-in-Err
returns-in-Err g c = λ began desk coming deeds so.
    unsent_seen _ began desk coming _ _ _ _ _ c.args.self.now _ deeds _ _ c.self.view_is c.in-Err.ensures.incoming
    (record { progress = refl; ahead = refl; taken = refl; phase = refl; run = c.in-Err.ensures.run }) so _ c.in-Err.unsent c.unsent.result c.in-Err.ensures.sends
    c.self.invariant.0 c.unsent.ensures.answer c.unsent.ensures.stands
