use Rattle.std.proofs.Common.{◌≡◌, ap, sym, ◌∙◌, subst}
use Rattle.arc_core.specs.declared.trees.Elem.{Elem}
use Rattle.arc_core.specs.TreeContents.{IsRising, with_element}
use Rattle.btree_scan.specs.Positions.{position_in}
use Rattle.btree_scan.specs.declared.positions.Position.TheVariants.{At}
use Rattle.tree_coll.specs.declared.replies.TreeReply.TheVariants as reply
use Rattle.tree_coll.specs.declared.replies.TreeWord.TheVariants as word
use Rattle.tree_coll.specs.TreeOutcomes.{becomes, holding}
use Rattle.tree_coll.specs.TreeRows.{new_inserted, tree_upsert, trim_reply}
use Rattle.tree_coll.proofs.StoreLemmas.{planned_for, same_count, seen_absent, seen_there, upsert_exists, upsert_new_is}
use Rattle.tree_coll.proofs.inserts.upsert_tree.Goals as goal

pub returns-in_default-clause-plans : goal.returns-in_default-clause-plans
returns-in_default-clause-plans g c =
    let tree = c.args.held.now.contents in
    let attrs = c.args.attrs.now in
    let e : Elem = record { bkey = c.args.bkey.now; eflag = c.args.eflag; value = c.args.value.now } in
    planned_for (λ elem. new_inserted (trim_reply c.args.getrim attrs) elem attrs tree) tree (tree_upsert e c.args.getrim attrs tree) c.args.bkey.now c.args.eflag c.in_ok-value.value c.args.value.now c.plan_stored.result
    c.in_ok-value.ensures
    (upsert_new_is e c.args.getrim attrs tree (sym c.may_get.ensures ∙ c.if-not-may_get.false)
    (seen_absent c.args.bkey.now tree c.tree.result.now.elements c.in_default.field-0 c.tree.ensures c.in_default.ensures.position))
    c.plan_stored.ensures.plans

pub returns-clause-plans : goal.returns-clause-plans
returns-clause-plans g c =
    let tree = c.args.held.now.contents in
    let attrs = c.args.attrs.now in
    let e : Elem = record { bkey = c.args.bkey.now; eflag = c.args.eflag; value = c.args.value.now } in
    upsert_exists e c.args.getrim attrs tree (sym c.may_get.ensures ∙ c.if-not-may_get.false)
    (seen_there c.args.bkey.now tree c.tree.result.now.elements c.in-At.place c.tree.ensures c.in-At.ensures.position)
    ∙ ap (λ v. becomes (holding (with_element (record { bkey = c.args.bkey.now; eflag = c.args.eflag; value = v }) tree.elements) tree) (reply.Word word.Replaced)) (sym c.in_ok-value.ensures)

pub returns-clause-count : goal.returns-clause-count
returns-clause-count g c =
    same_count (record { bkey = c.args.bkey.now; eflag = c.args.eflag; value = c.in_ok-value.value }) c.args.held.now.contents.elements c.in-At.place c.args.attrs.now.maxcount
    (subst IsRising c.tree.ensures c.position_of.ensures.rising) (subst (λ xs. At c.in-At.place ≡ position_in c.args.bkey.now xs) c.tree.ensures c.in-At.ensures.position)
