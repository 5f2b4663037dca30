use Rattle.std.proofs.Common.{◌++◌, ℕ, List, drop}
use Rattle.std.specs.List.{flat_map}
use Rattle.arc_core.specs.ReplyText.{element_text}
use Rattle.arc_core.specs.Outside.{Linked, linked}
use Rattle.reply_print.specs.Reaching.{Holds}
use Rattle.reply_print.proofs.elements.put_rows.Given as goal

-- the elements from this one on are still to be put out
abbrev pub invariant-loop-row : goal.invariant-loop-row
invariant-loop-row g l =
    let link = g.L.Link in
    (start : Linked) (from : ℕ) (text rest : List ℕ)
    → Holds start (linked (link.left l.fn.link) (link.read_faults l.fn.link) (link.sent l.fn.link) (link.write_faults l.fn.link) (link.refusals l.fn.link) (link.agains l.fn.link)) from text (drop l.fn.gatherer.skip (flat_map element_text l.rows ++ rest)) l.fn.gatherer
    → Holds start (linked (link.left l.link) (link.read_faults l.link) (link.sent l.link) (link.write_faults l.link) (link.refusals l.link) (link.agains l.link)) from text (drop l.gatherer.skip (flat_map element_text (drop l.row-index l.rows) ++ rest)) l.gatherer
