use Rattle.std.proofs.Common.{◌≡◌, ◌≤◌, ◌++◌, take}
use Rattle.std.specs.Prelude.{vec_capacity}
use Rattle.std.specs.List.{flat_map}
use Rattle.reply_print.specs.PipeText.{status_text}
use Rattle.reply_print.proofs.outbox.append_statuses.Given as goal

-- the lines of the statuses before this one stand last
abbrev pub invariant-loop-status : goal.invariant-loop-status
invariant-loop-status l = (l.kept.items ≡ l.fn.kept.items ++ flat_map status_text (take l.status-index l.statuses)) × (vec_capacity l.fn.kept ≤ vec_capacity l.kept)
