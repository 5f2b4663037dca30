use Rattle.std.proofs.Common.{ap, sym, subst, ◌∙◌, arith}
use Rattle.turn_lock.specs.Calls.{IsLegal}
use Rattle.atomic_table.specs.Table.{Me}
use Rattle.turn_lock.specs.Seats.{SeatView}
use Rattle.turn_lock.specs.View.{View}
use Rattle.turn_lock.proofs.Sharing.{joins, recalls}
use Rattle.turn_lock.proofs.lock.TurnLock.join.Goals as goal

pub join_seat-requires : goal.join_seat-requires
join_seat-requires g c =
    let words = c.self.invariant.0 in (
      ap (λ (s : SeatView). s.lock) c.seat.view_is ∙ (c.requires.own ∙ sym c.self.view_is),
      ap (λ (s : SeatView). s.lock) c.other.view_is ∙ (c.requires.other ∙ sym c.self.view_is),
      c.other.invariant.2,
      omega arith,
      joins g.E.Executor.state _ _ _ _ c.seat.invariant.0 c.seat.invariant.1 c.other.invariant.1,
    )

pub load-requires : goal.load-requires
load-requires g c =
    let words = c.self.invariant.0 in (
      c.join_seat.ensures.0 ∙ (ap (λ (s : SeatView). s.lock) c.seat.view_is ∙ (c.requires.own ∙ sym c.self.view_is)),
      omega arith,
      recalls g.E.Executor.state _ _ c.join_seat.new.seat.me (ap (λ (m : Me g.row.E.Denot View). m.0.kind) c.join_seat.ensures.2 ∙ c.seat.invariant.0),
    )

pub returns-clause-legal : goal.returns-clause-legal
returns-clause-legal g c = subst (λ (m : Me g.row.E.Denot View). IsLegal m.0.opening m.0.seen) (sym c.load.ensures.2.0) c.load.ensures.2.2
