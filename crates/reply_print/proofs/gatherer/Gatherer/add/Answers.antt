use Rattle.std.proofs.lemmas.Result.{err_from_is_err_and}
use Rattle.std.proofs.Common.{◌++◌, ap}
use Rattle.arc_core.specs.Outside.{linked}
use Rattle.reply_print.proofs.Reach.{behind}
use Rattle.reply_print.proofs.gatherer.Gatherer.add.Goals as goal

pub returns-in_err-flush-clause-keeps : goal.returns-in_err-flush-clause-keeps
returns-in_err-flush-clause-keeps g c = λ start from text rest was.
    let p = err_from_is_err_and c.from_residual.result c.from_residual.ensures.1 in
    rw (p.1, p.2) (c.in_err-flush.ensures.keeps start from text (c.args.piece.now ++ rest) was)

pub returns-in_err-self-clause-keeps : goal.returns-in_err-self-clause-keeps
returns-in_err-self-clause-keeps g c = λ start from text rest was.
    let p = err_from_is_err_and c.from_residual-in_err-self.result c.from_residual-in_err-self.ensures.1 in
    let now = linked (g.L.Link.left c.flush.new.link) (g.L.Link.read_faults c.flush.new.link) (g.L.Link.sent c.flush.new.link) (g.L.Link.write_faults c.flush.new.link) (g.L.Link.refusals c.flush.new.link) (g.L.Link.agains c.flush.new.link) in
    let flushed = c.in_ok-flush.ensures.keeps start from text (c.args.piece.now ++ rest) was in
    rw (p.1, p.2) (c.in_err-self.ensures start from text rest (behind start now from c.flush.new.self.at text c.flush.new.self.waiting (c.args.piece.now ++ rest) c.args.piece.now rest flushed (ap (λ w. w ++ (c.args.piece.now ++ rest)) c.in_ok-flush.ensures.empty)))
