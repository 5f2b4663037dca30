use Rattle.std.proofs.Common.{◌≡◌, ◌++◌, ℕ, List, length}
use Rattle.arc_core.specs.Outside.{outgoing, sent_more}
use Rattle.sink_writes.proofs.write.write_all.Given as goal

-- this front was sent
abbrev pub invariant-loop-left : goal.invariant-loop-left
invariant-loop-left g l =
    let sink = g.K.Sink in
    (done : List ℕ) × (l.fn.text ≡ done ++ l.left)
    × (outgoing (sink.sent l.sink) (sink.write_faults l.sink) (sink.refusals l.sink) ≡ sent_more (outgoing (sink.sent l.fn.sink) (sink.write_faults l.fn.sink) (sink.refusals l.fn.sink)) done)

abbrev pub decreases-loop-left : goal.decreases-loop-left
decreases-loop-left g l = length l.left
