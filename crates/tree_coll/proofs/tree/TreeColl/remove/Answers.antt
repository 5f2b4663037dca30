use Rattle.std.proofs.Common.{ap, sym, ◌∙◌}
use Rattle.arc_core.specs.TreeReading.{is_selected}
use Rattle.tree_coll.specs.TreeOutcomes.{holding}
use Rattle.tree_coll.specs.TreePlanning.{without_between}
use Rattle.tree_coll.proofs.WithoutLemmas.{all_removed}
use Rattle.tree_coll.proofs.tree.TreeColl.remove.Goals as goal

pub returns-in-None-clause-contents : goal.returns-in-None-clause-contents
returns-in-None-clause-contents g c =
    let old = c.args.self.now.contents in
    let removal = c.args.removal.now in
    c.remove_places.ensures.contents
    ∙ ap (λ ys. holding ys old) (all_removed removal.low removal.high old.elements ∙ ap (λ asked. without_between (is_selected asked) removal.low removal.high old.elements) (sym c.in-None.is))
