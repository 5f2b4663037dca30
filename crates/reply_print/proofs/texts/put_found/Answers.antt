use Rattle.std.proofs.Common.{◌++◌}
use Rattle.std.specs.Prelude.{codes}
use Rattle.std.specs.List.{flat_map}
use Rattle.std.proofs.lemmas.Result.{err_from_is_err_and}
use Rattle.arc_core.specs.ReplyText.{row_text, line_end}
use Rattle.reply_print.proofs.Pieces.{answer_pieces}
use Rattle.reply_print.proofs.Reach.{reached_as}
use Rattle.reply_print.proofs.texts.put_found.Goals as goal

pub returns-in_err-put_rows : goal.returns-in_err-put_rows
returns-in_err-put_rows g c = λ start from text rest was.
    let p = err_from_is_err_and c.from_residual.result c.from_residual.ensures.1 in
    let rows = flat_map row_text c.args.rows.now in
    let was = reached_as start _ from _ text _ _ _ _ was (answer_pieces rows rest) in
    rw (p.1, p.2) (c.in_err-put_rows.ensures start from text ((codes "END" ++ line_end) ++ rest) was)

pub returns : goal.returns
returns g c = λ start from text rest was.
    let rows = flat_map row_text c.args.rows.now in
    let was = reached_as start _ from _ text _ _ _ _ was (answer_pieces rows rest) in
    let was = c.in_ok-put_rows.ensures start from text ((codes "END" ++ line_end) ++ rest) was in
    c.put.ensures start from text rest was
