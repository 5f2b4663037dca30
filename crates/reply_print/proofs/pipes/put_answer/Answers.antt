use Rattle.std.proofs.Common.{drop}
use Rattle.std.proofs.lemmas.Result.{err_from_is_err_and}
use Rattle.reply_print.proofs.pipes.put_answer.Goals as goal

pub returns-in_err-put_text-clause-puts : goal.returns-in_err-put_text-clause-puts
returns-in_err-put_text-clause-puts g c = λ start from text rest was.
    let p = err_from_is_err_and c.from_residual.result c.from_residual.ensures.1 in
    rw (p.1, p.2) (c.in_err-put_text.ensures start from text rest was)

pub returns-clause-puts : goal.returns-clause-puts
returns-clause-puts g c = λ start from text rest was.
    let was = c.in_ok-put_text.ensures start from text rest was in
    rw c.flush.ensures.skip (c.flush.ensures.keeps start from text (drop c.put_text.new.gatherer.skip rest) was)
