use Rattle.std.proofs.Common.{◌++◌, ap}
use Rattle.reply_print.proofs.Reach.{behind, passed_over}
use Rattle.reply_print.proofs.gatherer.Gatherer.put.Goals as goal

pub returns-then-self-len : goal.returns-then-self-len
returns-then-self-len g c = λ start from text rest was.
    behind start _ from _ text c.args.self.now.waiting _ c.args.self.now.waiting _ was (ap (λ r. c.args.self.now.waiting ++ r) (passed_over c.args.piece.now rest c.args.self.now.skip c.if-self-len.true))
