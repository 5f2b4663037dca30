use Rattle.std.proofs.Common.{refl, inr}
use Rattle.pipe_session.proofs.Ending.{turn_by_link}
use Rattle.pipe_session.proofs.session.Session.work.Goals as goal

pub returns-then-handles_unit : goal.returns-then-handles_unit
returns-then-handles_unit g c = λ began deeds so.
    let leaves = c.if-handles_unit.ensures.leaves began _ _ deeds so in (leaves.0, leaves.1, inr leaves.2, refl)

pub returns : goal.returns
returns g c = λ began deeds so.
    turn_by_link _ began _ _ _ c.args.self.now _ deeds c.exchange.result (c.exchange.ensures began _ _ deeds (c.if-handles_unit.ensures.leaves began _ _ deeds so))
