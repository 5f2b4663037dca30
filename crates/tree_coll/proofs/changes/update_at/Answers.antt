use Rattle.std.proofs.Common.{ap, sym, ◌∙◌, length, slice_get, arith, subst}
use Rattle.std.specs.Result.{result_ok}
use Rattle.tree_coll.specs.TreePlanning.{Plans}
use Rattle.tree_coll.specs.TreeOutcomes.{found}
use Rattle.tree_coll.specs.TreeRows.{found_updated}
use Rattle.tree_coll.proofs.StoreLemmas.{same_count}
use Rattle.tree_coll.proofs.ChangeLemmas.{nothing_is, update_is}
use Rattle.tree_coll.proofs.FoundLemmas.{found_at, has_at, place_in}
use Rattle.tree_coll.proofs.changes.update_at.Goals as goal

pub at_position-element-requires : goal.at_position-element-requires
at_position-element-requires g c = omega (arith, place_in c.args.bkey.now c.args.held.now.contents.elements c.args.place c.requires.rising c.requires.place, ap length c.tree.ensures)

pub returns-then-is_nothing-clause-plans : goal.returns-then-is_nothing-clause-plans
returns-then-is_nothing-clause-plans g c =
    let tree = c.args.held.now.contents in
    subst (Plans (found_updated c.args.change.now c.args.value tree (found c.args.bkey.now tree.elements)) tree) (sym c.answered.ensures)
    (nothing_is c.args.change.now c.args.value tree _ c.at_position-element.result.now
    (found_at c.args.bkey.now tree.elements c.args.place c.at_position-element.result.now c.requires.place
    (ap (λ xs. slice_get xs c.args.place) (sym c.tree.ensures) ∙ c.at_position-element.ensures.element))
    (sym c.is_nothing.ensures ∙ c.if-is_nothing.true))

pub returns-clause-plans : goal.returns-clause-plans
returns-clause-plans g c =
    let tree = c.args.held.now.contents in
    let x = c.at_position-element.result.now in
    let at = ap (λ xs. slice_get xs c.args.place) (sym c.tree.ensures) ∙ c.at_position-element.ensures.element in
    update_is c.args.change.now c.args.value tree _ x (record { bkey = c.args.bkey.now; eflag = c.in-Ok.eflag; value = c.in_ok-value.value })
    (found_at c.args.bkey.now tree.elements c.args.place x c.requires.place at)
    (sym c.is_nothing.ensures ∙ c.if-is_nothing.false) (sym c.changed.ensures ∙ ap result_ok c.in-Ok.is)
    (has_at c.args.bkey.now tree.elements c.args.place x c.requires.rising c.requires.place at) c.in_ok-value.ensures

pub returns-clause-count : goal.returns-clause-count
returns-clause-count g c =
    same_count (record { bkey = c.args.bkey.now; eflag = c.in-Ok.eflag; value = c.in_ok-value.value }) c.args.held.now.contents.elements c.args.place c.args.attrs.now.maxcount c.requires.rising c.requires.place
