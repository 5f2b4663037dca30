use Rattle.std.proofs.Common.{◌∙◌}
use Rattle.arc_core.specs.PlainRequest.{plain}
use Rattle.turn_lock.proofs.Called.{held_at, called}
use Rattle.turn_lock.proofs.lock.TurnLock.execute.Goals as goal

pub pass-requires-clause-held : goal.pass-requires-clause-held
pass-requires-clause-held g c =
    held_at g.E.Executor.state c.args.session c.args.now (plain c.args.request.now) c.step-reply.result c.take_turn.new.place.me.0 c.step-reply.new.place.me.0 c.step-reply.new.place.me
    c.step-reply.ensures.view c.step-reply.ensures.held

pub returns-clause-called : goal.returns-clause-called
returns-clause-called g c =
    called g.E.Executor.state c.args.session c.args.now (plain c.args.request.now) c.step-reply.result c.args.seat.now c.seat.inside.place.table_id c.pass.new.place.table_id c.seat.inside.place.me.0
    c.take_turn.new.place.me c.step-reply.new.place.me c.pass.new.place.me c.seat.view_is (c.pass.ensures.own ∙ (c.step-reply.ensures.own ∙ c.take_turn.ensures.own)) c.seat.invariant.0
    c.take_turn.ensures.turn c.step-reply.ensures.view c.step-reply.ensures.held c.pass.ensures.passed c.pass.ensures.calls
