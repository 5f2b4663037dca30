use Rattle.sink_writes.proofs.Sending.{sends_next}
use Rattle.sink_writes.proofs.write.write_all.Goals as goal

pub loop-left-preserved : goal.loop-left-preserved
loop-left-preserved g c =
    let so_far = c.loop-left.invariant in
    sends_next _ _ _ c.args.text.now so_far.0 c.loop-left.left.now c.behind-left.result.now c.in-Took.count so_far.1 so_far.2 c.in-Took.ensures c.behind-left.ensures
