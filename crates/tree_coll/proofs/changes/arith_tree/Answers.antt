use Rattle.std.proofs.Common.{sym, ◌∙◌}
use Rattle.tree_coll.proofs.CountLemmas.{planned_at, planned_first}
use Rattle.tree_coll.proofs.StoreLemmas.{seen_absent}
use Rattle.tree_coll.proofs.changes.arith_tree.Goals as goal

pub returns-in-At-clause-plans : goal.returns-in-At-clause-plans
returns-in-At-clause-plans g c =
    planned_at c.count_at.result c.args.up c.args.bkey.now c.args.delta c.args.initial c.args.eflag c.args.attrs.now c.args.held.now.contents
    (sym c.may_count.ensures ∙ c.if-not-may_count.false) c.count_at.ensures.plans

pub returns-clause-plans : goal.returns-clause-plans
returns-clause-plans g c =
    planned_first c.plan_first.result c.args.up c.args.bkey.now c.args.delta c.in-Some.number c.args.initial c.args.eflag c.args.attrs.now c.args.held.now.contents
    (sym c.may_count.ensures ∙ c.if-not-may_count.false)
    (seen_absent c.args.bkey.now c.args.held.now.contents c.tree.result.now.elements c.in_default.field-0 c.tree.ensures c.in_default.ensures.position) c.in-Some.is c.plan_first.ensures.plans
