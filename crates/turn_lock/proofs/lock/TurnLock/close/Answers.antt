use Rattle.std.proofs.Common.{sym, subst}
use Rattle.turn_lock.specs.Seats.{SeatView, HasAll, IsWhole}
use Rattle.turn_lock.proofs.Closing.{closes}
use Rattle.turn_lock.proofs.lock.TurnLock.close.Goals as goal

pub returns : goal.returns
returns g c =
    subst (λ (s : SeatView). IsWhole s (g.E.Executor.state c.take-executor.result)) c.seat.view_is
    (closes g.E.Executor.state c.seat.inside.place.id c.seat.inside.place.me.0 c.seat.inside.place.table_id _ _ c.take-executor.result c.seat.invariant.0 c.seat.invariant.1
    (subst HasAll (sym c.seat.view_is) c.requires.all) c.close_with-closed.ensures.values.2 c.take-executor.ensures.value)
