use Rattle.std.proofs.Common.{◌<◌, ◌∙◌, Some, None, length, drop, ap, refl, subst, arith, length-drop}
use Rattle.std.proofs.Math.Seq.{drop-length}
use Rattle.pipe_session.specs.Handling.{stand, TakesNext}
use Rattle.pipe_session.proofs.Going.{handled_seen, fed_seen}
use Rattle.pipe_session.proofs.session.Session.handles_unit.Goals as goal

pub returns-in-Some-clause-leaves : goal.returns-in-Some-clause-leaves
returns-in-Some-clause-leaves g c = λ began into out deeds so.
    let made = c.take_unit-count in
    let count = made.result.0 in
    let left = ap length c.pass.ensures ∙ length-drop count c.self.inside.piece in
    let same = ap length c.ahead-ahead.ensures.ahead in
    let less : length c.pass.new.self < length c.self.inside.piece = omega (arith, left, made.ensures.some, made.ensures.within, same) in
    let short : length c.pass.new.self < 16384 = omega (arith, less, same, c.ahead-ahead.ensures.few) in
    let clock = g.C.Clock in
    let takes = subst (λ r. TakesNext g.D.Desk.answers (stand c.args.desk.now (clock.coming c.args.clock.now) c.self.inside.owed.text c.self.inside.owed.run) (stand made.new.desk (clock.coming made.new.clock) made.new.owed.text made.new.owed.run)
    c.self.inside.frames made.new.frames c.ahead-ahead.result.now count r) c.in-Some.is made.ensures.takes in
    handled_seen _ began _ _ _ _ into out _ c.args.self.now _ deeds c.self.view_is so c.in-Going.is refl count c.pass.ensures less short c.in-Some.phase refl
    (subst (λ p. TakesNext g.D.Desk.answers (stand c.args.desk.now (clock.coming c.args.clock.now) c.self.inside.owed.text c.self.inside.owed.run) (stand made.new.desk (clock.coming made.new.clock) made.new.owed.text made.new.owed.run)
    c.self.inside.frames made.new.frames p count (Some c.in-Some.phase)) c.ahead-ahead.ensures.ahead takes)

pub returns-in-None-clause-leaves : goal.returns-in-None-clause-leaves
returns-in-None-clause-leaves g c = λ began into out deeds so.
    let made = c.take_unit-count in
    let count = made.result.0 in
    let clock = g.C.Clock in
    let takes = subst (λ r. TakesNext g.D.Desk.answers (stand c.args.desk.now (clock.coming c.args.clock.now) c.self.inside.owed.text c.self.inside.owed.run) (stand made.new.desk (clock.coming made.new.clock) made.new.owed.text made.new.owed.run)
    c.self.inside.frames made.new.frames c.ahead-ahead.result.now count r) c.in-None.is made.ensures.takes in
    let fed = subst (λ p. TakesNext g.D.Desk.answers (stand c.args.desk.now (clock.coming c.args.clock.now) c.self.inside.owed.text c.self.inside.owed.run) (stand made.new.desk (clock.coming made.new.clock) made.new.owed.text made.new.owed.run)
    c.self.inside.frames made.new.frames p count None) c.ahead-ahead.ensures.ahead takes in
    fed_seen _ began _ _ _ _ into out _ c.args.self.now _ deeds c.self.view_is so c.in-Going.is refl
    (c.pass.ensures ∙ ap (λ n. drop n c.self.inside.piece) fed.1 ∙ drop-length c.self.inside.piece) c.in-Going.is fed.0
