use Rattle.std.proofs.Common.{refl}
use Rattle.arc_core.specs.PlainRequest.{plain}
use Rattle.pipe_session.proofs.StepWords.{changes_are_answered_by_words}
use Rattle.pipe_session.proofs.desk.DirectDesk.answer.Goals as goal

pub returns-clause-answered : goal.returns-clause-answered
returns-clause-answered g c = (
  record { seat = 0; session = 0; second = c.args.now; request = plain c.args.request.now; reply = c.execute.result },
  refl,
  refl,
  refl,
  record { own = record { seat = refl; session = refl; second = c.ranges.now.fits }; executed = c.execute.ensures.executed },
)

pub returns-clause-status : goal.returns-clause-status
returns-clause-status g c = λ may. changes_are_answered_by_words _ _ c.args.now (plain c.args.request.now) c.execute.result may c.execute.ensures.executed
