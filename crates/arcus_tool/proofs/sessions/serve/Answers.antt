use Rattle.std.proofs.Common.{arith}
use Rattle.pipe_session.specs.Turns.{no_deeds}
use Rattle.arcus_tool.proofs.Ending.{session_of, not_crowded, gets_less}
use Rattle.arcus_tool.proofs.sessions.serve.Goals as goal

pub loop-session-init : goal.loop-session-init
loop-session-init g c = (no_deeds, c.fresh_sessions_have_done_nothing.ensures _ c.args.session.now c.requires)

pub loop-session-preserved : goal.loop-session-preserved
loop-session-preserved g c =
    let so_far = c.loop-session.invariant in
    let leaves = c.in-More.ensures _ so_far.0 so_far.1 in (leaves.0, leaves.1)

pub loop-session-smaller : goal.loop-session-smaller
loop-session-smaller g c =
    let so_far = c.loop-session.invariant in
    let leaves = c.in-More.ensures _ so_far.0 so_far.1 in
    gets_less c.loop-session.session c.turn.new.self so_far.0 leaves.0 so_far.1.number leaves.1.number c.keeps_its_limits.ensures.taken c.keeps_its_limits.ensures.ahead leaves.2

pub status_of-requires : goal.status_of-requires
status_of-requires g c =
    let so_far = c.loop-session.invariant in
    not_crowded _ _ _ c.in-Over.ended (c.in-Over.ensures _ so_far.0 so_far.1).0

pub returns-in-Over : goal.returns-in-Over
returns-in-Over g c =
    let so_far = c.loop-session.invariant in
    session_of (λ desk. g.E.Executor.state desk.executor) _ _ c.keeps_the_rules.ensures c.in-Over.ended c.status_of.result c.status_of.ensures (c.in-Over.ensures _ so_far.0 so_far.1).0

pub unreachable-requires : goal.unreachable-requires
unreachable-requires g c =
    let so_far = c.loop-session.invariant in
    let leaves = c.in-Again.ensures _ so_far.0 so_far.1 in
    omega (arith, leaves.2.1)
