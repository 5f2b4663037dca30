use Rattle.std.proofs.Common.{subst}
use Rattle.tree_coll.specs.TreePlanning.{AreChosen}
use Rattle.tree_coll.proofs.TakeLemmas.{deleted, kind_seen}
use Rattle.tree_coll.proofs.takes.delete_from_tree.Goals as goal

pub returns-clause-plans : goal.returns-clause-plans
returns-clause-plans g c =
    let low = c.chosen_places-low.result.0 in
    let high = c.chosen_places-low.result.1 in
    deleted c.args.read.now c.args.drop_empty c.args.attrs.now c.args.held.now.contents low high
    (kind_seen c.args.read.now.range.first c.args.held.now.contents _ _ c.is_of_kind.result c.tree.ensures c.edges.ensures c.is_of_kind.ensures c.if-not-is_of_kind.false)
    (subst (λ xs. AreChosen c.args.read.now xs low high) c.tree-2.ensures c.chosen_places-low.ensures) c.if-low-high.false
