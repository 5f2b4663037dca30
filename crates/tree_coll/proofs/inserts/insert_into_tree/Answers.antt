use Rattle.std.proofs.Common.{sym, ◌∙◌, subst}
use Rattle.arc_core.specs.declared.trees.Elem.{Elem}
use Rattle.tree_coll.specs.TreePlanning.{Plans}
use Rattle.tree_coll.specs.TreeRows.{new_inserted, tree_insert, trim_reply}
use Rattle.tree_coll.proofs.StoreLemmas.{insert_exists, insert_new_is, planned_for, seen_absent, seen_there}
use Rattle.tree_coll.proofs.inserts.insert_into_tree.Goals as goal

pub returns-in_default-clause-plans : goal.returns-in_default-clause-plans
returns-in_default-clause-plans g c =
    let tree = c.args.held.now.contents in
    let attrs = c.args.attrs.now in
    let e : Elem = record { bkey = c.args.bkey.now; eflag = c.args.eflag; value = c.args.value.now } in
    subst (Plans (tree_insert e c.args.getrim attrs tree) tree) (sym c.answered-in_default.ensures)
    (insert_exists e c.args.getrim attrs tree (sym c.may_get.ensures ∙ c.if-not-may_get.false)
    (seen_there c.args.bkey.now tree c.tree.result.now.elements c.in_default.field-0 c.tree.ensures c.in_default.ensures.position))

pub returns-clause-plans : goal.returns-clause-plans
returns-clause-plans g c =
    let tree = c.args.held.now.contents in
    let attrs = c.args.attrs.now in
    let e : Elem = record { bkey = c.args.bkey.now; eflag = c.args.eflag; value = c.args.value.now } in
    planned_for (λ elem. new_inserted (trim_reply c.args.getrim attrs) elem attrs tree) tree (tree_insert e c.args.getrim attrs tree) c.args.bkey.now c.args.eflag c.in_ok-value.value c.args.value.now c.plan_stored.result
    c.in_ok-value.ensures
    (insert_new_is e c.args.getrim attrs tree (sym c.may_get.ensures ∙ c.if-not-may_get.false)
    (seen_absent c.args.bkey.now tree c.tree.result.now.elements c.in-Before.field-0 c.tree.ensures c.in-Before.ensures.position))
    c.plan_stored.ensures.plans
