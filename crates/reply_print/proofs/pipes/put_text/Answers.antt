use Rattle.std.proofs.Common.{◌++◌, ◌∙◌, refl}
use Rattle.std.specs.List.{flat_map}
use Rattle.std.proofs.lemmas.Result.{err_from_is_err_and}
use Rattle.arc_core.specs.ReplyText.{line_end}
use Rattle.reply_print.specs.PipeText.{status_text, fault_text}
use Rattle.reply_print.proofs.Pieces.{run_parts}
use Rattle.reply_print.proofs.Reach.{reached_as}
use Rattle.reply_print.proofs.pipes.put_text.Goals as goal

pub returns-in_err-put : goal.returns-in_err-put
returns-in_err-put g c = λ start from text rest was.
    let lines = flat_map status_text c.args.statuses.now in
    let end = fault_text c.args.fault ++ line_end in
    let parts = run_parts c.args.statuses.now c.args.fault c.bytes.result.now end rest (c.bytes.ensures.bytes ∙ c.run_line_of.ensures) refl in
    let was = reached_as start _ from _ text _ _ _ _ was parts in
    let p = err_from_is_err_and c.from_residual.result c.from_residual.ensures.1 in
    rw (p.1, p.2) (c.in_err-put.ensures start from text (lines ++ (end ++ rest)) was)

pub returns-in_err-put_statuses : goal.returns-in_err-put_statuses
returns-in_err-put_statuses g c = λ start from text rest was.
    let lines = flat_map status_text c.args.statuses.now in
    let end = fault_text c.args.fault ++ line_end in
    let parts = run_parts c.args.statuses.now c.args.fault c.bytes.result.now end rest (c.bytes.ensures.bytes ∙ c.run_line_of.ensures) refl in
    let was = reached_as start _ from _ text _ _ _ _ was parts in
    let was = c.in_ok-put.ensures start from text (lines ++ (end ++ rest)) was in
    let p = err_from_is_err_and c.from_residual-in_err-put_statuses.result c.from_residual-in_err-put_statuses.ensures.1 in
    rw (p.1, p.2) (c.in_err-put_statuses.ensures start from text (end ++ rest) was)

pub returns : goal.returns
returns g c = λ start from text rest was.
    let lines = flat_map status_text c.args.statuses.now in
    let end = c.fault_line.result.now in
    let parts = run_parts c.args.statuses.now c.args.fault c.bytes.result.now end rest (c.bytes.ensures.bytes ∙ c.run_line_of.ensures) c.fault_line.ensures.line in
    let was = reached_as start _ from _ text _ _ _ _ was parts in
    let was = c.in_ok-put.ensures start from text (lines ++ (end ++ rest)) was in
    let was = c.in_ok-put_statuses.ensures start from text (end ++ rest) was in
    c.put-2.ensures start from text rest was
