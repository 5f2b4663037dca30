use Rattle.std.proofs.Common.{arith}
use Rattle.btree_nodes.proofs.ChildrenLemmas.{one_le}
use Rattle.btree_nodes.proofs.child.insertion.hand_on.Goals as goal

pub overflow_add-offset : goal.overflow_add-offset
overflow_add-offset c =
    let d = c.index.result.now in
    omega (arith, c.requires.fits, c.requires.offset d, one_le c.args.children.now.items c.args.index d c.requires.index)
