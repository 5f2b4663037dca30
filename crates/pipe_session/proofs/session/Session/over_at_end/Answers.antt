use Rattle.std.proofs.Common.{◌∙◌, ap, inr}
use Rattle.pipe_session.specs.Turns.{Standing}
use Rattle.pipe_session.proofs.Ending.{link_over, over_at_end, rest_as, so_as, waits_as}
use Rattle.pipe_session.proofs.session.Session.over_at_end.Goals as goal

pub returns : goal.returns
returns g c = λ began desk into out coming agains agains' deeds so.
    let seen = c.self.view_is in
    let ended = ap (λ (s : Standing). s.phase) seen ∙ c.requires.ended in
    let rest = rest_as c.self.inside.phase c.self.inside.frames (inr ended) c.self.invariant.1 c.reader_stands_for_a_unit.ensures in
    let waits = waits_as c.self.inside.phase c.self.inside.frames (inr ended) c.self.invariant.1 in
    link_over _ began _ agains agains' _ deeds _ c.end_behind-end.result c.over.ensures.answer (ap (λ (s : Standing). s.phase) c.over.ensures.stands)
    (over_at_end _ began desk coming into out _ deeds (so_as _ began _ _ c.args.self.now deeds seen so) (ap (λ (s : Standing). s.owed) seen ∙ c.requires.sent) ended rest
    c.end_behind-end.result (λ tail stands. c.end_behind-end.ensures tail (c.held.ensures.bytes tail waits stands)))
