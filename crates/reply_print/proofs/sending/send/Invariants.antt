use Rattle.std.proofs.Common.{◌++◌, ℕ, List, length}
use Rattle.arc_core.specs.Outside.{Linked, linked}
use Rattle.reply_print.specs.Reaching.{Reached}
use Rattle.reply_print.proofs.sending.send.Given as goal

-- the text has reached the link up to what is unsent
abbrev pub invariant-loop-unsent : goal.invariant-loop-unsent
invariant-loop-unsent g l =
    let link = g.L.Link in
    (start : Linked) (from : ℕ) (text rest : List ℕ)
    → Reached start (linked (link.left l.fn.link) (link.read_faults l.fn.link) (link.sent l.fn.link) (link.write_faults l.fn.link) (link.refusals l.fn.link) (link.agains l.fn.link)) from l.fn.at text (l.piece ++ rest)
    → Reached start (linked (link.left l.link) (link.read_faults l.link) (link.sent l.link) (link.write_faults l.link) (link.refusals l.link) (link.agains l.link)) from l.at text (l.unsent ++ rest)

abbrev pub decreases-loop-unsent : goal.decreases-loop-unsent
decreases-loop-unsent g l = length l.unsent
