use Rattle.std.proofs.Common.{length, take, ap, ◌∙◌, length-append, arith}
use Rattle.std.specs.List.{flat_map}
use Rattle.arc_core.specs.declared.pipes.PipeStatus.TheVariants as status
use Rattle.arc_core.specs.declared.replies.Word.TheVariants as word
use Rattle.reply_print.specs.PipeText.{status_text}
use Rattle.reply_print.proofs.RunLemmas.{room_for_status}
use Rattle.reply_print.proofs.outbox.append_statuses.Goals as goal

pub append_status-requires : goal.append_status-requires
append_status-requires c =
    let before = c.loop-status.invariant in
    let held = ap length before.0 ∙ length-append c.args.kept.now.items (flat_map status_text (take c.loop-status.status-index c.args.statuses.now)) in
    let room = room_for_status c.args.statuses.now c.loop-status.status-index (status.Word word.Stored) c.loop-status-test.true in
    omega (arith, held, room, before.1, c.requires)
