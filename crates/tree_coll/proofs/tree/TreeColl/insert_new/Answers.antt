use Rattle.std.proofs.Common.{ap}
use Rattle.tree_coll.specs.TreeHolding.{TreeHeld}
use Rattle.tree_coll.proofs.StoreLemmas.{new_kept}
use Rattle.tree_coll.proofs.tree.TreeColl.insert_new.Goals as goal

pub returns : goal.returns
returns c = record {
  contents = new_kept c.args.elem c.self.inside.tree.elements c.insert_spare.new.self.elements c.self.inside.edges c.args.self.now.contents
      (ap (λ (held : TreeHeld). held.contents) c.self.view_is) c.requires.new c.insert_spare.ensures.elements;
}
