use Rattle.tree_coll.proofs.PlaceLemmas.{before_within}
use Rattle.tree_coll.proofs.ReadLemmas.{place_within}
use Rattle.tree_coll.proofs.places.around.Goals as goal

pub number_before-position-requires : goal.number_before-position-requires
number_before-position-requires g c = place_within c.args.bkey.now c.args.held.now.contents.elements _ c.in-At.place c.tree-2.ensures c.position_of.ensures.rising c.in-At.ensures.position

pub rows_around-requires : goal.rows_around-requires
rows_around-requires g c =
    before_within c.args.desc c.args.held.now.contents.elements c.in-At.place c.number_before-position.result
    (place_within c.args.bkey.now c.args.held.now.contents.elements _ c.in-At.place c.tree-2.ensures c.position_of.ensures.rising c.in-At.ensures.position)
    c.number_before-position.ensures
