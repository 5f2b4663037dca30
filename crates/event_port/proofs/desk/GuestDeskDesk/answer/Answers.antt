use Rattle.std.proofs.Common.{◌++◌}
use Rattle.arc_core.specs.PlainRequest.{plain}
use Rattle.pipe_session.proofs.StepWords.{changes_are_answered_by_words}
use Rattle.worker_server.proofs.Replies.{last_executed}
use Rattle.event_port.proofs.desk.GuestDeskDesk.answer.Goals as goal

pub returns-clause-status : goal.returns-clause-status
returns-clause-status g c = λ may.
    let called = c.execute.ensures.called in
    let last = last_executed (c.args.self.now.seat.now.seen ++ called.between) _ c.args.self.now.seat.now.opening called.legal.0 called.legal.1 in
    changes_are_answered_by_words last.0 last.1 c.args.now (plain c.args.request.now) c.execute.result may last.2
