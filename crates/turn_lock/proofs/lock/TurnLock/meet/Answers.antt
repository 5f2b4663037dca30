use Rattle.std.proofs.Common.{ap, sym, ◌∙◌, arith}
use Rattle.atomic_table.specs.Table.{Me}
use Rattle.turn_lock.specs.Seats.{SeatView}
use Rattle.turn_lock.specs.View.{View}
use Rattle.turn_lock.proofs.Sharing.{copies, joins}
use Rattle.turn_lock.proofs.Calling.{looks}
use Rattle.turn_lock.proofs.Meeting.{met}
use Rattle.turn_lock.proofs.lock.TurnLock.meet.Goals as goal

pub split_seat-copy-requires : goal.split_seat-copy-requires
split_seat-copy-requires g c =
    let words = c.self.invariant.0 in (
      ap (λ (s : SeatView). s.lock) c.other.view_is ∙ (c.requires.other ∙ sym c.self.view_is),
      omega arith,
      copies g.E.Executor.state _ _ c.other.invariant.0,
    )

pub join_seat-requires : goal.join_seat-requires
join_seat-requires g c =
    let words = c.self.invariant.0 in
    let copy = c.split_seat-copy.ensures.4 in (
      ap (λ (s : SeatView). s.lock) c.seat.view_is ∙ (c.requires.own ∙ sym c.self.view_is),
      c.split_seat-copy.ensures.3 ∙ (ap (λ (s : SeatView). s.lock) c.other.view_is ∙ (c.requires.other ∙ sym c.self.view_is)),
      ap (λ (m : Me g.row.E.Denot View). m.1) copy,
      omega arith,
      joins g.E.Executor.state _ _ _ _ c.seat.invariant.0 c.seat.invariant.1 (ap (λ (m : Me g.row.E.Denot View). m.0.turn) copy),
    )

pub load-requires : goal.load-requires
load-requires g c =
    let words = c.self.invariant.0 in
    let joined = c.join_seat.ensures.2 in (
      c.join_seat.ensures.0 ∙ (ap (λ (s : SeatView). s.lock) c.seat.view_is ∙ (c.requires.own ∙ sym c.self.view_is)),
      omega arith,
      looks g.E.Executor.state _ _ c.join_seat.new.seat.me (ap (λ (m : Me g.row.E.Denot View). m.0.kind) joined ∙ c.seat.invariant.0) (ap (λ (m : Me g.row.E.Denot View). m.1) joined ∙ c.seat.invariant.2),
    )

pub returns-clause-met : goal.returns-clause-met
returns-clause-met g c =
    met g.E.Executor.state c.args.seat.now c.args.other.now c.seat.inside.place.table_id c.other.inside.place.table_id c.load.new.seat.table_id c.seat.inside.place.me.0 c.other.inside.place.me.0
    c.split_seat-copy.result.me c.join_seat.new.seat.me c.load.new.seat.me c.seat.inside.place.me.1 c.load.result c.seat.view_is c.other.view_is (c.load.ensures.0 ∙ c.join_seat.ensures.0)
    c.seat.invariant.0 c.seat.invariant.1 c.split_seat-copy.ensures.4 c.join_seat.ensures.2 c.load.ensures.2
