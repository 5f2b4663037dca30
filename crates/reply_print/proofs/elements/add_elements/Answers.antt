use Rattle.std.proofs.Common.{◌∙◌, take}
use Rattle.std.specs.List.{flat_map}
use Rattle.arc_core.specs.ReplyText.{element_text}
use Rattle.reply_print.proofs.Pieces.{no_room_for_all}
use Rattle.reply_print.proofs.elements.add_elements.Goals as goal

pub returns-then-not-add_row : goal.returns-then-not-add_row
returns-then-not-add_row c =
    let refused = c.if-not-add_row.ensures in (
      flat_map element_text (take c.loop-row.row-index c.args.rows.now),
      refused.0 ∙ c.loop-row.invariant,
      no_room_for_all element_text c.args.rows.now c.loop-row.row-index c.row-item.result c.args.outbox.now c.loop-row.outbox c.loop-row-test.true c.row-item.is c.loop-row.invariant refused.1,
    )
