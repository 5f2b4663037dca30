use Rattle.tree_coll.proofs.ReadLemmas.{place_within}
use Rattle.tree_coll.proofs.reads.position_in_tree.Goals as goal

pub number_before-requires : goal.number_before-requires
number_before-requires g c = place_within c.args.bkey.now c.args.held.now.contents.elements _ c.in-At.place c.tree-2.ensures c.position_of.ensures.rising c.in-At.ensures.position
