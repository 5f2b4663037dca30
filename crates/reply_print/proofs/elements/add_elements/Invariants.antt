use Rattle.std.proofs.Common.{◌≡◌, ◌++◌, take}
use Rattle.std.specs.List.{flat_map}
use Rattle.arc_core.specs.ReplyText.{element_text}
use Rattle.reply_print.proofs.elements.add_elements.Given as goal

-- the elements before this one wait
abbrev pub invariant-loop-row : goal.invariant-loop-row
invariant-loop-row l = l.outbox ≡ l.fn.outbox ++ flat_map element_text (take l.row-index l.rows)
