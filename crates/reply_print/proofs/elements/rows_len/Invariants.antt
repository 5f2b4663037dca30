use Rattle.std.proofs.Common.{◌≡◌, ◌-◌, ◌^◌, min, length, take}
use Rattle.std.specs.List.{flat_map}
use Rattle.arc_core.specs.ReplyText.{element_text}
use Rattle.reply_print.proofs.elements.rows_len.Given as goal

-- the texts of the elements so far have so many bytes
abbrev pub invariant-loop-row : goal.invariant-loop-row
invariant-loop-row l = l.len ≡ min (length (flat_map element_text (take l.row-index l.rows))) (2 ^ 64 - 1)
