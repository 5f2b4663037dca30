use Rattle.std.proofs.Common.{◌≡◌, ◌+◌, ◌≤◌, ℕ, List, ◌++◌, length, ap, ◌∙◌, length-append, arith}
use Rattle.std.specs.List.{flat_map}
use Rattle.arc_core.specs.ReplyText.{line_end}
use Rattle.reply_print.specs.Parts.{run_line}
use Rattle.reply_print.specs.PipeText.{status_text, fault_text, pipe_text}
use Rattle.reply_print.proofs.RunLemmas.{answer_fits, three_parts}
use Rattle.reply_print.proofs.outbox.Outbox.put_pipe.Goals as goal

pub append_statuses-requires : goal.append_statuses-requires
append_statuses-requires c =
    let statuses = c.args.statuses.now in
    let fits = answer_fits statuses c.args.fault c.requires.few in
    let parts = three_parts statuses c.args.fault in
    let line = ap length c.bytes.ensures.bytes ∙ ap length c.run_line_of.ensures in
    let held = ap length c.append.ensures.items ∙ length-append c.self.inside.bytes.items c.bytes.result.now in
    omega (arith, fits, parts, line, held, c.append.ensures.capacity, c.self.invariant.1, c.requires.room, ap length c.self.view_is)

pub append-requires-2 : goal.append-requires-2
append-requires-2 c =
    let statuses = c.args.statuses.now in
    let fits = answer_fits statuses c.args.fault c.requires.few in
    let parts = three_parts statuses c.args.fault in
    let line = ap length c.bytes.ensures.bytes ∙ ap length c.run_line_of.ensures in
    let end = ap length c.fault_line.ensures.line in
    let held = ap length c.append.ensures.items ∙ length-append c.self.inside.bytes.items c.bytes.result.now in
    let more = ap length c.append_statuses.ensures.items ∙ length-append c.append.new.kept.items (flat_map status_text statuses) in
    omega (arith, fits, parts, line, end, held, more, c.append.ensures.capacity, c.append_statuses.ensures.capacity, c.self.invariant.1, c.requires.room, ap length c.self.view_is)

pub invariant_of-self : goal.invariant_of-self
invariant_of-self c =
    let statuses = c.args.statuses.now in
    let fits = answer_fits statuses c.args.fault c.requires.few in
    let parts = three_parts statuses c.args.fault in
    let line = ap length c.bytes.ensures.bytes ∙ ap length c.run_line_of.ensures in
    let end = ap length c.fault_line.ensures.line in
    let held = ap length c.append.ensures.items ∙ length-append c.self.inside.bytes.items c.bytes.result.now in
    let more = ap length c.append_statuses.ensures.items ∙ length-append c.append.new.kept.items (flat_map status_text statuses) in
    let last = ap length c.append-2.ensures.items ∙ length-append c.append_statuses.new.kept.items c.fault_line.result.now in (
      omega (arith, fits, parts, line, end, held, more, last, c.requires.room, ap length c.self.view_is),
      omega (arith, c.append.ensures.capacity, c.append_statuses.ensures.capacity, c.append-2.ensures.capacity, c.self.invariant.1),
    )
