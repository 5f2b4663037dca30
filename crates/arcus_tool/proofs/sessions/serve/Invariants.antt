use Rattle.std.proofs.Common.{◌+◌, ◌*◌, ◌-◌, ◌^◌, length}
use Rattle.arc_core.specs.Outside.{incoming, outgoing}
use Rattle.pipe_session.specs.Desks.{ExecutesAlone}
use Rattle.pipe_session.specs.Outside.{moment, outside}
use Rattle.pipe_session.specs.Turns.{Deeds, SoFar}
use Rattle.arcus_tool.proofs.sessions.serve.Given as goal

-- what the session has done so far
abbrev pub invariant-loop-session : goal.invariant-loop-session
invariant-loop-session g l =
    let state = g.E.Executor.state in
    let coming = g.C.Clock.coming in
    let source = g.S.Source in
    let sink = g.K.Sink in
    (deeds : Deeds)
    × SoFar (λ from entry to. ExecutesAlone (state from.executor) entry (state to.executor))
    (moment l.fn.desk (outside (incoming (source.left l.fn.link.source.now) (source.read_faults l.fn.link.source.now))
    (outgoing (sink.sent l.fn.link.sink.now) (sink.write_faults l.fn.link.sink.now) (sink.refusals l.fn.link.sink.now)) (coming l.fn.clock)))
    (moment l.desk (outside (incoming (source.left l.link.source.now) (source.read_faults l.link.source.now))
    (outgoing (sink.sent l.link.sink.now) (sink.write_faults l.link.sink.now) (sink.refusals l.link.sink.now)) (coming l.clock)))
    l.session deeds

-- each turn takes bytes, or handles what was pulled
abbrev pub decreases-loop-session : goal.decreases-loop-session
decreases-loop-session g l = (2 ^ 40 - l.session.taken) * 32768 + length l.session.ahead
