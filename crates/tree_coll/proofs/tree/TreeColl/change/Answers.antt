use Rattle.std.proofs.Common.{ap, subst}
use Rattle.tree_coll.specs.TreeOutcomes.{TreeContents}
use Rattle.tree_coll.specs.TreePlanning.{SuitsChange}
use Rattle.tree_coll.proofs.StoreLemmas.{new_left}
use Rattle.tree_coll.proofs.tree.TreeColl.change.Goals as goal

pub insert_new-requires-clause-new : goal.insert_new-requires-clause-new
insert_new-requires-clause-new c =
    let xs = c.args.self.now.contents.elements in
    let suits = subst (λ change. SuitsChange change xs) c.in-Store.is c.requires.suits in
    new_left c.in-Store.elem.bkey xs c.remove_places.new.self.contents.elements c.in-Store.low c.in-Store.high suits.0 suits.1 suits.2
    (ap (λ (t : TreeContents). t.elements) c.remove_places.ensures.contents)
