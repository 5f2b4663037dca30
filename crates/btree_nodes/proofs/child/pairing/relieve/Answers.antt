use Rattle.std.proofs.Common.{arith, vec_capacity}
use Rattle.btree_nodes.proofs.ReliefLemmas.{loose_of}
use Rattle.btree_nodes.proofs.child.pairing.relieve.Goals as goal

pub join_or_level-requires-clause-loose : goal.join_or_level-requires-clause-loose
join_or_level-requires-clause-loose c =
    loose_of c.args.children.now.items (vec_capacity c.args.children.now) c.args.index c.requires.branch (omega arith) c.requires.within
