use Rattle.std.proofs.Common.{◌<◌, ◌^◌, ◌∙◌, ◌+◌, ◌++◌, refl, sym, ap, subst, arith, inl}
use Rattle.arc_core.specs.declared.ends.End.TheVariants as end
use Rattle.arc_core.specs.Outside.{incoming}
use Rattle.pipe_session.specs.declared.phase.Phase.TheVariants as phase
use Rattle.pipe_session.specs.declared.turn.Turn.TheVariants as turn
use Rattle.pipe_session.specs.Outside.{moment, outside}
use Rattle.pipe_session.specs.Turns.{Deeds, SoFar, Standing, IsOver, LinkLeaves}
use Rattle.pipe_session.proofs.Ending.{so_as, rest_as, pulled, link_over, link_since, over_at_limit, over_at_read_fault, came_to_end}
use Rattle.pipe_session.proofs.RunLemmas.{owed_answer}
use Rattle.pipe_session.proofs.session.Session.pull.Goals as goal

pub returns-then-self-eq-MAX_INPUT : goal.returns-then-self-eq-MAX_INPUT
returns-then-self-eq-MAX_INPUT g c = λ began desk coming deeds so.
    let seen = c.self.view_is in
    let going = ap (λ (s : Standing). s.phase) seen ∙ c.requires.going in
    let rest = rest_as c.self.inside.phase c.self.inside.frames (inl going) c.self.invariant.1 c.reader_stands_for_a_unit.ensures in
    link_over _ began _ _ _ _ deeds _ end.LongInput c.over.ensures.answer (ap (λ (s : Standing). s.phase) c.over.ensures.stands)
    (over_at_limit _ began desk coming _ _ _ deeds (so_as _ began _ _ c.args.self.now deeds seen so) (ap (λ (s : Standing). s.owed) seen ∙ c.requires.sent) going (ap (λ (s : Standing). s.ahead) seen ∙ c.requires.read) rest c.if-self-eq-MAX_INPUT.true)

pub returns-in-Got : goal.returns-in-Got
returns-in-Got g c = λ began desk coming deeds so.
    let seen = c.self.view_is in
    let going = ap (λ (s : Standing). s.phase) seen ∙ c.requires.going in
    let fills = c.in-Got.ensures.fills in
    let came = fills.0 in
    let link = g.L.Link in
    let at' : Standing = record {
      progress = c.self.inside.frames;
      ahead = c.fill.new.self;
      owed = c.self.inside.owed.text;
      is_full = c.self.inside.owed.is_full;
      run = c.self.inside.owed.run;
      taken = c.self.inside.taken + c.in-Got.count;
      phase = c.self.inside.phase;
    } in
    subst (λ o. LinkLeaves g.D.Desk.answers began (moment desk (outside (incoming (link.left c.fill.new.link) (link.read_faults c.fill.new.link)) o coming)) (link.agains c.args.link.now) (link.agains c.fill.new.link) at' deeds turn.More)
    (sym c.in-Got.ensures.outgoing)
    (pulled _ began desk coming _ _ _ deeds (so_as _ began _ _ c.args.self.now deeds seen so) (ap (λ (s : Standing). s.owed) seen ∙ c.requires.sent) going (ap (λ (s : Standing). s.ahead) seen ∙ c.requires.read)
    _ at' c.fill.new.self came.bytes came.same_faults came.some refl refl refl refl refl (ap (λ n. c.self.inside.taken + n) fills.1) _ _ fills.2)

pub returns-in-Failed : goal.returns-in-Failed
returns-in-Failed g c = λ began desk coming deeds so.
    let seen = c.self.view_is in
    let going = ap (λ (s : Standing). s.phase) seen ∙ c.requires.going in
    let rest = rest_as c.self.inside.phase c.self.inside.frames (inl going) c.self.invariant.1 c.reader_stands_for_a_unit.ensures in
    let short : c.self.inside.taken < 2 ^ 40 = omega (arith, c.self.invariant.0, c.if-self-eq-MAX_INPUT.false) in
    let link = g.L.Link in
    link_over _ began _ _ _ _ deeds _ end.ReadFault c.over-in-Failed.ensures.answer (ap (λ (s : Standing). s.phase) c.over-in-Failed.ensures.stands)
    (subst (λ o. IsOver g.D.Desk.answers began (moment desk (outside (incoming (link.left c.fill.new.link) (link.read_faults c.fill.new.link)) o coming)) end.ReadFault) (sym c.in-Failed.ensures.outgoing)
    (over_at_read_fault _ began desk coming _ _ _ deeds (so_as _ began _ _ c.args.self.now deeds seen so) (ap (λ (s : Standing). s.owed) seen ∙ c.requires.sent) going (ap (λ (s : Standing). s.ahead) seen ∙ c.requires.read) rest
    _ short c.in-Failed.ensures.fills.0))

pub returns-in-End : goal.returns-in-End
returns-in-End g c = λ began desk coming deeds so.
    let seen = c.self.view_is in
    let going = ap (λ (s : Standing). s.phase) seen ∙ c.requires.going in
    let read = ap (λ (s : Standing). s.ahead) seen ∙ c.requires.read in
    let short : c.self.inside.taken < 2 ^ 40 = omega (arith, c.self.invariant.0, c.if-self-eq-MAX_INPUT.false) in
    let link = g.L.Link in
    let mid = c.fill.new.link in
    let broken = c.break_run.new.self in
    let at : Standing = record {
      progress = c.self.inside.frames;
      ahead = c.self.inside.piece;
      owed = c.self.inside.owed.text;
      is_full = c.self.inside.owed.is_full;
      run = c.self.inside.owed.run;
      taken = c.self.inside.taken;
      phase = c.self.inside.phase;
    } in
    let at' : Standing = record {
      progress = c.self.inside.frames;
      ahead = c.fill.new.self;
      owed = broken.text;
      is_full = broken.is_full;
      run = broken.run;
      taken = c.self.inside.taken;
      phase = phase.Ended;
    } in
    let came = c.in-End.ensures.fills in
    let answered : Deeds = record deeds { text = deeds.text ++ owed_answer at.run } in
    let ended = came_to_end _ began desk coming _ _ at deeds (so_as _ began _ at c.args.self.now deeds seen so) (ap (λ (s : Standing). s.owed) seen ∙ c.requires.sent) going read
    (incoming (link.left mid) (link.read_faults mid)) at' short came.0 (came.1 ∙ sym read) refl refl refl c.break_run.ensures.text in
    let here = subst (λ o. SoFar g.D.Desk.answers began (moment desk (outside (incoming (link.left mid) (link.read_faults mid)) o coming)) at' answered) (sym c.in-End.ensures.outgoing) ended in
    link_since _ began _ _ _ _ _ deeds answered c.end.result came.2 refl (c.end.ensures began desk coming answered here)
