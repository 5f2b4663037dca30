use Rattle.std.proofs.Common.{subst, arith}
use Rattle.pipe_session.specs.Handling.{stand, TakesNext}
use Rattle.pipe_session.proofs.Texts.{none_of_length}
use Rattle.pipe_session.proofs.Fronts.{front_next}
use Rattle.pipe_session.proofs.units.take_unit.Goals as goal

pub returns-in-Some-clause-takes : goal.returns-in-Some-clause-takes
returns-in-Some-clause-takes g c =
    front_next _ _ _ c.args.frames.now c.args.piece.now c.in-Some.count
    (λ tail stands. none_of_length tail (omega (arith, c.held.ensures.bytes tail c.requires.at_start.waits stands, c.if-held-gt0.false))) c.in-Some.ensures.front

pub returns-in-None-clause-takes : goal.returns-in-None-clause-takes
returns-in-None-clause-takes g c =
    subst (λ s. TakesNext g.D.Desk.answers s (stand c.feed_unit-in-None.new.desk (g.C.Clock.coming c.feed_unit-in-None.new.clock) c.feed_unit-in-None.new.owed.text c.feed_unit-in-None.new.owed.run)
    c.args.frames.now c.feed_unit-in-None.new.frames c.args.piece.now c.feed_unit-in-None.result.0 c.feed_unit-in-None.result.1) c.in-None.ensures.front c.feed_unit-in-None.ensures.takes
