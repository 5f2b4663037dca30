use Rattle.std.proofs.Common.{ap, sym, ◌∙◌, slice_get, Some}
use Rattle.arc_core.specs.TreeReading.{is_selected}
use Rattle.tree_coll.specs.TreeOutcomes.{holding}
use Rattle.tree_coll.proofs.WithoutLemmas.{one_removed, one_stays}
use Rattle.tree_coll.proofs.tree.TreeColl.remove_passing_at.Goals as goal

pub returns-then-passes-clause-contents : goal.returns-then-passes-clause-contents
returns-then-passes-clause-contents g c =
    let xs = c.args.self.now.contents.elements in
    c.remove_places.ensures.contents
    ∙ ap (λ ys. holding ys c.args.self.now.contents)
    (one_removed (is_selected (Some c.args.filter.now)) c.args.place c.args.next xs c.at_position.result.now c.requires.next
    (ap (λ ys. slice_get ys c.args.place) (sym c.tree.ensures) ∙ c.at_position.ensures.element) (sym c.passes.ensures ∙ c.if-passes.true))

pub returns-else-passes-clause-contents : goal.returns-else-passes-clause-contents
returns-else-passes-clause-contents g c =
    let xs = c.args.self.now.contents.elements in
    ap (λ ys. holding ys c.args.self.now.contents)
    (one_stays (is_selected (Some c.args.filter.now)) c.args.place c.args.next xs c.at_position.result.now c.requires.next
    (ap (λ ys. slice_get ys c.args.place) (sym c.tree.ensures) ∙ c.at_position.ensures.element) (sym c.passes.ensures ∙ c.if-passes.false))
