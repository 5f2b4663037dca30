use Rattle.std.proofs.Common.{ap, ◌∙◌, length}
use Rattle.tree_coll.proofs.ReadLemmas.{some_answered, tail_is}
use Rattle.tree_coll.proofs.reads.answer_read.Goals as goal

pub returns : goal.returns
returns g c =
    some_answered c.args.read.now c.args.attrs.now c.args.held.now.contents _ c.args.walked.rows c.zone_tail.result c.requires.rows
    (λ none. c.if-as_slice-eq0.false (ap length c.as_slice.ensures ∙ none))
    (tail_is c.args.read.now c.args.held.now.contents _ _ c.args.walked.covered c.meets_zone-met-2.result c.zone_tail.result
    c.edges-2.ensures c.tree-2.ensures c.requires.covered c.meets_zone-met-2.ensures c.zone_tail.ensures)
