use Rattle.std.proofs.Common.{ap, sym, subst, ◌∙◌, arith}
use Rattle.turn_lock.specs.Seats.{SeatView, CanSplit}
use Rattle.turn_lock.proofs.Sharing.{splits_register}
use Rattle.turn_lock.proofs.lock.TurnLock.split.Goals as goal

pub split_seat-requires : goal.split_seat-requires
split_seat-requires g c =
    let words = c.self.invariant.0 in (
      ap (λ (s : SeatView). s.lock) c.seat.view_is ∙ (c.requires.own ∙ sym c.self.view_is),
      omega arith,
      splits_register g.E.Executor.state _ _ c.seat.invariant.0 (subst CanSplit (sym c.seat.view_is) c.requires.number),
    )
