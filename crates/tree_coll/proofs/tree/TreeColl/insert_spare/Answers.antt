use Rattle.std.proofs.Common.{ap}
use Rattle.tree_coll.specs.TreeHolding.{TreeHeld}
use Rattle.tree_coll.proofs.SizeLemmas.{insert_left}
use Rattle.tree_coll.proofs.tree.TreeColl.insert_spare.Goals as goal

pub returns : goal.returns
returns c = record {
  contents = insert_left c.args.elem c.self.inside.tree.elements c.insert_spare_at.new.self.elements c.self.inside.edges c.args.place c.args.self.now.contents
      (ap (λ (held : TreeHeld). held.contents) c.self.view_is) c.requires.rising c.requires.place c.insert_spare_at.ensures.elements;
}
