use Rattle.std.proofs.Common.{refl, sym, subst, length, arith}
use Rattle.worker_team.specs.Disbanding.{Closes}
use Rattle.worker_team.proofs.Disbanding.{Disbands, goes_on_from, rest_goes_on, none_left, all_done, has_all, closes}
use Rattle.worker_team.proofs.closing.close_joined.Goals as goal

pub loop-other-preserved : goal.loop-other-preserved
loop-other-preserved g c =
    let inv = c.loop-other.invariant in
    let next = c.in-Some.ensures.steps.0 in (
      tt,
      tt,
      goes_on_from c.args.lock c.args.seat.opening (length c.args.seats.items) c.loop-other.yielded c.loop-other.other-iterator.rest.items c.next.new.self.rest.items
          c.loop-other.seat c.in-Some.other c.join.new.seat inv.2 next c.join.ensures.joined,
      refl,
      rest_goes_on c.args.seats.items c.loop-other.yielded c.loop-other.other-iterator.rest.items c.next.new.self.rest.items c.in-Some.other inv.4 next,
    )

pub close-requires-clause-all : goal.close-requires-clause-all
close-requires-clause-all g c =
    let inv = c.loop-other.invariant in
    let none = none_left c.loop-other.other-iterator.rest.items (omega (arith, c.in-None.ensures.steps.0, c.loop-other.other-iterator.rest.ok)) in
    has_all c.args.lock c.args.seat.opening (length c.args.seats.items) c.loop-other.yielded c.loop-other.seat
    (subst (λ rest. Disbands c.args.lock c.args.seat.opening (length c.args.seats.items) c.loop-other.yielded rest c.loop-other.seat) none inv.2)

pub returns : goal.returns
returns g c =
    let inv = c.loop-other.invariant in
    let none = none_left c.loop-other.other-iterator.rest.items (omega (arith, c.in-None.ensures.steps.0, c.loop-other.other-iterator.rest.ok)) in
    let done = all_done c.args.seats.items c.loop-other.yielded c.loop-other.other-iterator.rest.items inv.4 none in
    subst (λ seats. Closes c.args.seat.opening seats (g.E.Executor.state c.close.result)) (sym done)
    (closes c.args.lock c.args.seat.opening (length c.args.seats.items) c.loop-other.yielded c.loop-other.seat (g.E.Executor.state c.close.result)
    (subst (λ rest. Disbands c.args.lock c.args.seat.opening (length c.args.seats.items) c.loop-other.yielded rest c.loop-other.seat) none inv.2)
    c.close.ensures)
