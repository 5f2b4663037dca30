use Rattle.std.proofs.lemmas.Result.{err_from_is_err_and}
use Rattle.std.proofs.Common.{◌++◌, sym, ap}
use Rattle.reply_print.proofs.Reach.{behind}
use Rattle.reply_print.proofs.gatherer.Gatherer.flush.Goals as goal

pub returns-in_err-self-clause-keeps : goal.returns-in_err-self-clause-keeps
returns-in_err-self-clause-keeps g c = λ start from text rest was.
    let p = err_from_is_err_and c.from_residual.result c.from_residual.ensures.1 in
    rw (p.1, p.2) (c.in_err-self.ensures start from text rest (behind start _ from _ text _ rest _ rest was (ap (λ b. b ++ rest) (sym c.bytes.ensures.bytes))))
