use Rattle.std.proofs.Common.{◌++◌, ◌∙◌, refl}
use Rattle.std.proofs.lemmas.Result.{err_from_is_err_and}
use Rattle.arc_core.specs.ReplyText.{line_end}
use Rattle.reply_print.specs.Parts.{row_tail}
use Rattle.reply_print.proofs.Pieces.{row_pieces}
use Rattle.reply_print.proofs.Reach.{reached_as}
use Rattle.reply_print.proofs.texts.put_row.Goals as goal

pub returns-in_err-put : goal.returns-in_err-put
returns-in_err-put g c = λ start from text rest was.
    let row = c.args.row.now in
    let pieces = row_pieces row row.key (row_tail row) row.value rest refl refl refl in
    let was = reached_as start _ from _ text _ _ _ _ was pieces in
    let p = err_from_is_err_and c.from_residual.result c.from_residual.ensures.1 in
    rw (p.1, p.2) (c.in_err-put.ensures start from text (row.key ++ ((row_tail row) ++ (row.value ++ (line_end ++ rest)))) was)

pub returns-in_err-put-2 : goal.returns-in_err-put-2
returns-in_err-put-2 g c = λ start from text rest was.
    let row = c.args.row.now in
    let pieces = row_pieces row c.bytes.result.now (row_tail row) row.value rest c.bytes.ensures.bytes refl refl in
    let was = reached_as start _ from _ text _ _ _ _ was pieces in
    let was = c.in_ok-put.ensures start from text (c.bytes.result.now ++ ((row_tail row) ++ (row.value ++ (line_end ++ rest)))) was in
    let p = err_from_is_err_and c.from_residual-in_err-put-2.result c.from_residual-in_err-put-2.ensures.1 in
    rw (p.1, p.2) (c.in_err-put-2.ensures start from text ((row_tail row) ++ (row.value ++ (line_end ++ rest))) was)

pub returns-in_err-put-3 : goal.returns-in_err-put-3
returns-in_err-put-3 g c = λ start from text rest was.
    let row = c.args.row.now in
    let pieces = row_pieces row c.bytes.result.now c.bytes-2.result.now row.value rest c.bytes.ensures.bytes (c.bytes-2.ensures.bytes ∙ c.tail_of.ensures) refl in
    let was = reached_as start _ from _ text _ _ _ _ was pieces in
    let was = c.in_ok-put.ensures start from text (c.bytes.result.now ++ (c.bytes-2.result.now ++ (row.value ++ (line_end ++ rest)))) was in
    let was = c.in_ok-put-2.ensures start from text (c.bytes-2.result.now ++ (row.value ++ (line_end ++ rest))) was in
    let p = err_from_is_err_and c.from_residual-in_err-put-3.result c.from_residual-in_err-put-3.ensures.1 in
    rw (p.1, p.2) (c.in_err-put-3.ensures start from text (row.value ++ (line_end ++ rest)) was)

pub returns-in_err-put-4 : goal.returns-in_err-put-4
returns-in_err-put-4 g c = λ start from text rest was.
    let row = c.args.row.now in
    let pieces = row_pieces row c.bytes.result.now c.bytes-2.result.now c.bytes-3.result.now rest c.bytes.ensures.bytes (c.bytes-2.ensures.bytes ∙ c.tail_of.ensures) c.bytes-3.ensures in
    let was = reached_as start _ from _ text _ _ _ _ was pieces in
    let was = c.in_ok-put.ensures start from text (c.bytes.result.now ++ (c.bytes-2.result.now ++ (c.bytes-3.result.now ++ (line_end ++ rest)))) was in
    let was = c.in_ok-put-2.ensures start from text (c.bytes-2.result.now ++ (c.bytes-3.result.now ++ (line_end ++ rest))) was in
    let was = c.in_ok-put-3.ensures start from text (c.bytes-3.result.now ++ (line_end ++ rest)) was in
    let p = err_from_is_err_and c.from_residual-in_err-put-4.result c.from_residual-in_err-put-4.ensures.1 in
    rw (p.1, p.2) (c.in_err-put-4.ensures start from text (line_end ++ rest) was)

pub returns : goal.returns
returns g c = λ start from text rest was.
    let row = c.args.row.now in
    let pieces = row_pieces row c.bytes.result.now c.bytes-2.result.now c.bytes-3.result.now rest c.bytes.ensures.bytes (c.bytes-2.ensures.bytes ∙ c.tail_of.ensures) c.bytes-3.ensures in
    let was = reached_as start _ from _ text _ _ _ _ was pieces in
    let was = c.in_ok-put.ensures start from text (c.bytes.result.now ++ (c.bytes-2.result.now ++ (c.bytes-3.result.now ++ (line_end ++ rest)))) was in
    let was = c.in_ok-put-2.ensures start from text (c.bytes-2.result.now ++ (c.bytes-3.result.now ++ (line_end ++ rest))) was in
    let was = c.in_ok-put-3.ensures start from text (c.bytes-3.result.now ++ (line_end ++ rest)) was in
    let was = c.in_ok-put-4.ensures start from text (line_end ++ rest) was in
    c.put-5.ensures start from text rest was
