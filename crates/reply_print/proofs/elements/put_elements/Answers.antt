use Rattle.std.proofs.Common.{◌++◌, ◌∙◌, refl}
use Rattle.std.specs.List.{flat_map}
use Rattle.std.proofs.lemmas.Result.{err_from_is_err_and}
use Rattle.arc_core.specs.ReplyText.{element_text, tail_text, line_end}
use Rattle.reply_print.proofs.Pieces.{elements_parts}
use Rattle.reply_print.proofs.Reach.{reached_as}
use Rattle.reply_print.proofs.elements.put_elements.Goals as goal

pub returns-in_err-put : goal.returns-in_err-put
returns-in_err-put g c = λ start from text rest was.
    let rows = flat_map element_text c.args.rows.now in
    let end = tail_text c.args.tail ++ line_end in
    let parts = elements_parts c.args.flags c.args.rows.now c.args.tail c.bytes.result.now end rest (c.bytes.ensures.bytes ∙ c.elements_line_of.ensures) refl in
    let was = reached_as start _ from _ text _ _ _ _ was parts in
    let p = err_from_is_err_and c.from_residual.result c.from_residual.ensures.1 in
    rw (p.1, p.2) (c.in_err-put.ensures start from text (rows ++ (end ++ rest)) was)

pub returns-in_err-put_rows : goal.returns-in_err-put_rows
returns-in_err-put_rows g c = λ start from text rest was.
    let rows = flat_map element_text c.args.rows.now in
    let end = tail_text c.args.tail ++ line_end in
    let parts = elements_parts c.args.flags c.args.rows.now c.args.tail c.bytes.result.now end rest (c.bytes.ensures.bytes ∙ c.elements_line_of.ensures) refl in
    let was = reached_as start _ from _ text _ _ _ _ was parts in
    let was = c.in_ok-put.ensures start from text (rows ++ (end ++ rest)) was in
    let p = err_from_is_err_and c.from_residual-in_err-put_rows.result c.from_residual-in_err-put_rows.ensures.1 in
    rw (p.1, p.2) (c.in_err-put_rows.ensures start from text (end ++ rest) was)

pub returns : goal.returns
returns g c = λ start from text rest was.
    let rows = flat_map element_text c.args.rows.now in
    let end = c.tail_line.result.now in
    let parts = elements_parts c.args.flags c.args.rows.now c.args.tail c.bytes.result.now end rest (c.bytes.ensures.bytes ∙ c.elements_line_of.ensures) c.tail_line.ensures.line in
    let was = reached_as start _ from _ text _ _ _ _ was parts in
    let was = c.in_ok-put.ensures start from text (rows ++ (end ++ rest)) was in
    let was = c.in_ok-put_rows.ensures start from text (end ++ rest) was in
    c.put-2.ensures start from text rest was
