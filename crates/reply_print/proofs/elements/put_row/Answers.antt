use Rattle.std.proofs.Common.{◌∙◌}
use Rattle.reply_print.proofs.Pieces.{element_before}
use Rattle.reply_print.proofs.Reach.{reached_as}
use Rattle.reply_print.proofs.elements.put_row.Goals as goal

pub returns : goal.returns
returns g c = λ start from text rest was.
    let pieces = element_before c.args.row.now c.field_of.result.now c.bytes.result.now c.bytes-2.result.now rest c.field_of.ensures.bytes (c.bytes.ensures.bytes ∙ c.write_front.ensures) c.bytes-2.ensures in
    c.put_pieces.ensures start from text rest (reached_as start _ from _ text _ _ _ _ was pieces)
