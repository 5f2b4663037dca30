use Rattle.std.proofs.Common.{◌∙◌, take}
use Rattle.std.specs.List.{flat_map}
use Rattle.arc_core.specs.ReplyText.{row_text}
use Rattle.reply_print.proofs.Pieces.{no_room_for_all}
use Rattle.reply_print.proofs.outbox.Outbox.put_each.Goals as goal

pub returns-then-not-put_row : goal.returns-then-not-put_row
returns-then-not-put_row c =
    let refused = c.if-not-put_row.ensures in (
      flat_map row_text (take c.loop-row.row-index c.args.rows.now),
      refused.0 ∙ c.loop-row.invariant,
      no_room_for_all row_text c.args.rows.now c.loop-row.row-index c.row-item.result c.args.self.now c.loop-row.self c.loop-row-test.true c.row-item.is c.loop-row.invariant refused.1,
    )
