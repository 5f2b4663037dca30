use Rattle.std.proofs.Common.{◌++◌, ◌+◌, drop}
use Rattle.std.specs.List.{flat_map}
use Rattle.std.proofs.lemmas.Result.{err_from_is_err_and}
use Rattle.reply_print.specs.PipeText.{status_text}
use Rattle.reply_print.proofs.RunLemmas.{next_status}
use Rattle.reply_print.proofs.Reach.{reached_as}
use Rattle.reply_print.proofs.pipes.put_statuses.Goals as goal

pub returns-in_err-put_status : goal.returns-in_err-put_status
returns-in_err-put_status g c = λ start from text rest was.
    let p = err_from_is_err_and c.from_residual.result c.from_residual.ensures.1 in
    let statuses = c.args.statuses.now in
    let i = c.loop-status.status-index in
    let was = c.loop-status.invariant start from text rest was in
    rw (p.1, p.2) (c.in_err-put_status.ensures start from text (flat_map status_text (drop (i + 1) statuses) ++ rest)
    (reached_as start _ from _ text _ _ _ _ was (next_status statuses i _ rest c.loop-status-test.true)))

pub loop-status-preserved : goal.loop-status-preserved
loop-status-preserved g c = λ start from text rest was.
    let statuses = c.args.statuses.now in
    let i = c.loop-status.status-index in
    let was = c.loop-status.invariant start from text rest was in
    c.in_ok-put_status.ensures start from text (flat_map status_text (drop (i + 1) statuses) ++ rest)
    (reached_as start _ from _ text _ _ _ _ was (next_status statuses i _ rest c.loop-status-test.true))
