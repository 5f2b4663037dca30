use Rattle.std.proofs.Common.{◌++◌}
use Rattle.std.proofs.lemmas.Result.{err_from_is_err_and}
use Rattle.arc_core.specs.ReplyText.{line_end}
use Rattle.reply_print.proofs.Pieces.{line_pieces}
use Rattle.reply_print.proofs.Reach.{reached_as}
use Rattle.reply_print.proofs.elements.put_pieces.Goals as goal

pub returns-in_err-put : goal.returns-in_err-put
returns-in_err-put g c = λ start from text rest was.
    let was = reached_as start _ from _ text _ _ _ _ was (line_pieces c.args.field.now c.args.front.now c.args.value.now line_end rest) in
    let p = err_from_is_err_and c.from_residual.result c.from_residual.ensures.1 in
    rw (p.1, p.2) (c.in_err-put.ensures start from text (c.args.front.now ++ (c.args.value.now ++ (line_end ++ rest))) was)

pub returns-in_err-put-2 : goal.returns-in_err-put-2
returns-in_err-put-2 g c = λ start from text rest was.
    let was = reached_as start _ from _ text _ _ _ _ was (line_pieces c.args.field.now c.args.front.now c.args.value.now line_end rest) in
    let was = c.in_ok-put.ensures start from text (c.args.front.now ++ (c.args.value.now ++ (line_end ++ rest))) was in
    let p = err_from_is_err_and c.from_residual-in_err-put-2.result c.from_residual-in_err-put-2.ensures.1 in
    rw (p.1, p.2) (c.in_err-put-2.ensures start from text (c.args.value.now ++ (line_end ++ rest)) was)

pub returns-in_err-put-3 : goal.returns-in_err-put-3
returns-in_err-put-3 g c = λ start from text rest was.
    let was = reached_as start _ from _ text _ _ _ _ was (line_pieces c.args.field.now c.args.front.now c.args.value.now line_end rest) in
    let was = c.in_ok-put.ensures start from text (c.args.front.now ++ (c.args.value.now ++ (line_end ++ rest))) was in
    let was = c.in_ok-put-2.ensures start from text (c.args.value.now ++ (line_end ++ rest)) was in
    let p = err_from_is_err_and c.from_residual-in_err-put-3.result c.from_residual-in_err-put-3.ensures.1 in
    rw (p.1, p.2) (c.in_err-put-3.ensures start from text (line_end ++ rest) was)

pub returns : goal.returns
returns g c = λ start from text rest was.
    let was = reached_as start _ from _ text _ _ _ _ was (line_pieces c.args.field.now c.args.front.now c.args.value.now line_end rest) in
    let was = c.in_ok-put.ensures start from text (c.args.front.now ++ (c.args.value.now ++ (line_end ++ rest))) was in
    let was = c.in_ok-put-2.ensures start from text (c.args.value.now ++ (line_end ++ rest)) was in
    let was = c.in_ok-put-3.ensures start from text (line_end ++ rest) was in
    c.put-4.ensures start from text rest was
