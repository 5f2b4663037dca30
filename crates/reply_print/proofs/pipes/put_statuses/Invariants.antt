use Rattle.std.proofs.Common.{◌++◌, ℕ, List, drop}
use Rattle.std.specs.List.{flat_map}
use Rattle.reply_print.specs.PipeText.{status_text}
use Rattle.arc_core.specs.Outside.{Linked, linked}
use Rattle.reply_print.specs.Reaching.{Holds}
use Rattle.reply_print.proofs.pipes.put_statuses.Given as goal

-- the lines of the statuses from this one on are still to be put out
abbrev pub invariant-loop-status : goal.invariant-loop-status
invariant-loop-status g l =
    let link = g.L.Link in
    (start : Linked) (from : ℕ) (text rest : List ℕ)
    → Holds start (linked (link.left l.fn.link) (link.read_faults l.fn.link) (link.sent l.fn.link) (link.write_faults l.fn.link) (link.refusals l.fn.link) (link.agains l.fn.link)) from text (drop l.fn.gatherer.skip (flat_map status_text l.statuses ++ rest)) l.fn.gatherer
    → Holds start (linked (link.left l.link) (link.read_faults l.link) (link.sent l.link) (link.write_faults l.link) (link.refusals l.link) (link.agains l.link)) from text (drop l.gatherer.skip (flat_map status_text (drop l.status-index l.statuses) ++ rest)) l.gatherer
