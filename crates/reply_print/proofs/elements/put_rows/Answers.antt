use Rattle.std.proofs.Common.{◌++◌, ◌+◌, drop}
use Rattle.std.specs.List.{flat_map}
use Rattle.std.proofs.lemmas.Result.{err_from_is_err_and}
use Rattle.arc_core.specs.ReplyText.{element_text}
use Rattle.reply_print.proofs.Pieces.{next_text}
use Rattle.reply_print.proofs.Reach.{reached_as}
use Rattle.reply_print.proofs.elements.put_rows.Goals as goal

pub returns-in_err-put_row : goal.returns-in_err-put_row
returns-in_err-put_row g c = λ start from text rest was.
    let p = err_from_is_err_and c.from_residual.result c.from_residual.ensures.1 in
    let rows = c.args.rows.now in
    let i = c.loop-row.row-index in
    let next = next_text element_text rows i c.row-item.result rest c.loop-row-test.true c.row-item.is in
    rw (p.1, p.2) (c.in_err-put_row.ensures start from text (flat_map element_text (drop (i + 1) rows) ++ rest) (reached_as start _ from _ text _ _ _ _ (c.loop-row.invariant start from text rest was) next))

pub loop-row-preserved : goal.loop-row-preserved
loop-row-preserved g c = λ start from text rest was.
    let rows = c.args.rows.now in
    let i = c.loop-row.row-index in
    let next = next_text element_text rows i c.row-item.result rest c.loop-row-test.true c.row-item.is in
    c.in_ok-put_row.ensures start from text (flat_map element_text (drop (i + 1) rows) ++ rest) (reached_as start _ from _ text _ _ _ _ (c.loop-row.invariant start from text rest was) next)
