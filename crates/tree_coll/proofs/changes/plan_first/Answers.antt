use Rattle.std.proofs.Common.{ℕ, List, ap, decimal, sym, ◌∙◌, subst}
use Rattle.arc_core.specs.declared.trees.Elem.{Elem}
use Rattle.tree_coll.specs.declared.replies.TreeReply.TheVariants as reply
use Rattle.tree_coll.specs.declared.replies.TreeReply.{TreeReply}
use Rattle.tree_coll.specs.TreePlanning.{Plans}
use Rattle.tree_coll.specs.TreeRows.{new_inserted}
use Rattle.tree_coll.proofs.StoreLemmas.{stored_count}
use Rattle.tree_coll.proofs.changes.plan_first.Goals as goal

pub returns-in-Refused-clause-plans : goal.returns-in-Refused-clause-plans
returns-in-Refused-clause-plans g c =
    let tree = c.args.held.now.contents in
    let answer : List Elem → TreeReply = λ trimmed. reply.Number c.args.number in
    let row = λ (v : List ℕ). new_inserted answer (record { bkey = c.args.bkey.now; eflag = c.args.eflag; value = v }) c.args.attrs.now tree in
    subst (Plans (row (decimal c.args.number)) tree) (sym c.beyond.ensures) (sym (ap row c.in_ok-value.ensures) ∙ c.in-Refused.ensures.settled answer)

pub returns-clause-plans : goal.returns-clause-plans
returns-clause-plans g c =
    let tree = c.args.held.now.contents in
    let answer : List Elem → TreeReply = λ trimmed. reply.Number c.args.number in
    let row = λ (v : List ℕ). new_inserted answer (record { bkey = c.args.bkey.now; eflag = c.args.eflag; value = v }) c.args.attrs.now tree in
    subst (Plans (row (decimal c.args.number)) tree) (sym c.answered.ensures) (sym (ap row c.in_ok-value.ensures) ∙ c.in-Full.ensures.settled answer)

pub returns-in-Stored-clause-count : goal.returns-in-Stored-clause-count
returns-in-Stored-clause-count g c =
    stored_count (record { bkey = c.args.bkey.now; eflag = c.args.eflag; value = c.in_ok-value.value }) c.args.held.now.contents.elements c.in-Stored.low c.in-Stored.high c.args.attrs.now.maxcount c.requires c.in-Stored.ensures.fits
