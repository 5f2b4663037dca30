use Rattle.std.proofs.Common.{ap, ◌∙◌, length, subst}
use Rattle.tree_coll.specs.TreePlanning.{AreChosen}
use Rattle.tree_coll.proofs.TakeLemmas.{taken}
use Rattle.tree_coll.proofs.takes.plan_taken.Goals as goal

pub returns-clause-plans : goal.returns-clause-plans
returns-clause-plans g c =
    let low = c.chosen_places-low.result.0 in
    let high = c.chosen_places-low.result.1 in
    taken c.args.drop_empty c.args.read.now c.args.attrs.now c.args.held.now.contents low high c.args.walked.rows c.requires.rows
    (λ none. c.if-as_slice-eq0.false (ap length c.as_slice.ensures ∙ none))
    (subst (λ xs. AreChosen c.args.read.now xs low high) c.tree.ensures c.chosen_places-low.ensures)
