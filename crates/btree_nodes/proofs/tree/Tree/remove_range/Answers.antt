use Rattle.std.proofs.Common.{arith}
use Rattle.btree_nodes.proofs.TrimLemmas.{gone_more}
use Rattle.btree_nodes.proofs.tree.Tree.remove_range.Goals as goal

pub loop-left-preserved : goal.loop-left-preserved
loop-left-preserved c =
    let i = c.loop-left.invariant in
    let gone = gone_more c.args.self.now.elements c.loop-left.self.elements c.trim.new.self.elements c.args.low c.args.high c.loop-left.left c.loop-left.size c.trim.new.run
    (record { order = c.requires.order; within = c.requires.within; left_is = i.left; elements = i.elements; size_is = i.size }) c.trim.ensures.run in
    record { left = gone.left_is; elements = gone.elements; size = gone.size_is; spare = omega (arith, i.spare, c.trim.ensures.spare) }
