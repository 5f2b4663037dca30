use Rattle.std.proofs.Common.{◌≡◌, ◌++◌, take}
use Rattle.std.specs.List.{flat_map}
use Rattle.arc_core.specs.ReplyText.{row_text}
use Rattle.reply_print.proofs.outbox.Outbox.put_each.Given as goal

-- the rows before this one wait
abbrev pub invariant-loop-row : goal.invariant-loop-row
invariant-loop-row l = l.self ≡ l.fn.self ++ flat_map row_text (take l.row-index l.rows)
