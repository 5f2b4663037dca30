use Rattle.std.proofs.Common.{refl}
use Rattle.pipe_session.specs.Turns.{no_deeds}
use Rattle.worker_server.proofs.Serving.{is_served, same_name}
use Rattle.worker_server.proofs.session.turn_to_its_end.Goals as goal

pub loop-init : goal.loop-init
loop-init g c = (no_deeds, c.fresh_sessions_have_done_nothing.ensures _ c.args.state.now c.requires)

pub loop-preserved-in-More : goal.loop-preserved-in-More
loop-preserved-in-More g c =
    let so_far = c.loop.invariant in
    let leaves = c.in-More.ensures _ so_far.0 so_far.1 in (leaves.0, leaves.1)

pub loop-preserved : goal.loop-preserved
loop-preserved g c =
    let so_far = c.loop.invariant in
    let leaves = c.in-Again.ensures _ so_far.0 so_far.1 in (leaves.0, leaves.1)

pub returns-in-Over-clause-served : goal.returns-in-Over-clause-served
returns-in-Over-clause-served g c =
    let so_far = c.loop.invariant in
    is_served (λ desk. desk.seat.now) (λ desk. desk.seat.ghost_name) (λ desk. desk.session) _ _ _ c.in-Over.end refl (c.in-Over.ensures _ so_far.0 so_far.1).0

pub returns-in-Over-clause-same_seat : goal.returns-in-Over-clause-same_seat
returns-in-Over-clause-same_seat g c =
    let so_far = c.loop.invariant in
    let over = (c.in-Over.ensures _ so_far.0 so_far.1).0 in
    same_name (λ desk. desk.seat.now) (λ desk. desk.seat.ghost_name) (λ desk. desk.session) _ over.entries _ over.served
