use Rattle.std.proofs.Common.{◌∙◌, refl, sym, ap, map, arith}
use Rattle.worker_team.specs.Team.{left}
use Rattle.worker_team.proofs.Disbanding.{rest_goes_on, has_room, seat_has_room, member_goes_on, seat_goes_on, none_left, all_done}
use Rattle.event_team.proofs.team.part.Goals as goal

pub push_reserved-requires : goal.push_reserved-requires
push_reserved-requires g c =
    let inv = c.loop-worker.invariant in
    let room = seat_has_room (λ w. w.seat) c.loop-worker.seats.items c.args.workers.items c.loop-worker.yielded c.loop-worker.worker-iterator.rest.items
    c.next.new.self.rest.items c.in-Some.worker _ inv.3 inv.2 c.in-Some.ensures.steps.0 inv.4 in
    omega (arith, room, c.loop-worker.seats.ok)

pub loop-worker-preserved : goal.loop-worker-preserved
loop-worker-preserved g c =
    let inv = c.loop-worker.invariant in
    let next = c.in-Some.ensures.steps.0 in (
      tt,
      tt,
      rest_goes_on c.args.workers.items c.loop-worker.yielded c.loop-worker.worker-iterator.rest.items c.next.new.self.rest.items c.in-Some.worker inv.2 next,
      seat_goes_on (λ w. w.seat) c.loop-worker.seats.items c.push_reserved.new.self.items _ c.loop-worker.yielded c.in-Some.worker inv.3 c.push_reserved.ensures.items refl,
      omega (arith, c.push_reserved.ensures.capacity, inv.4),
      member_goes_on (λ m. left m.port m.served m.end) (λ w. left w.poller w.served w.end) c.loop-worker.members.items c.push_reserved-in-loop-worker.new.self.items _ c.loop-worker.yielded c.in-Some.worker inv.5
          c.push_reserved-in-loop-worker.ensures.items refl,
      omega (arith, c.push_reserved-in-loop-worker.ensures.capacity, inv.6),
    )

pub push_reserved-requires-in-loop-worker : goal.push_reserved-requires-in-loop-worker
push_reserved-requires-in-loop-worker g c =
    let inv = c.loop-worker.invariant in
    let room = has_room (λ m. left m.port m.served m.end) (λ w. left w.poller w.served w.end) c.loop-worker.members.items c.args.workers.items c.loop-worker.yielded c.loop-worker.worker-iterator.rest.items
    c.next.new.self.rest.items c.in-Some.worker _ inv.5 inv.2 c.in-Some.ensures.steps.0 inv.6 in
    omega (arith, room, c.loop-worker.members.ok)

pub returns-clause-seats : goal.returns-clause-seats
returns-clause-seats g c =
    let inv = c.loop-worker.invariant in
    let none = none_left c.loop-worker.worker-iterator.rest.items (omega (arith, c.in-None.ensures.steps.0, c.loop-worker.worker-iterator.rest.ok)) in
    inv.3 ∙ ap (map (λ w. w.seat)) (sym (all_done c.args.workers.items c.loop-worker.yielded c.loop-worker.worker-iterator.rest.items inv.2 none))

pub returns-clause-members : goal.returns-clause-members
returns-clause-members g c =
    let inv = c.loop-worker.invariant in
    let none = none_left c.loop-worker.worker-iterator.rest.items (omega (arith, c.in-None.ensures.steps.0, c.loop-worker.worker-iterator.rest.ok)) in
    inv.5 ∙ ap (map (λ w. left w.poller w.served w.end)) (sym (all_done c.args.workers.items c.loop-worker.yielded c.loop-worker.worker-iterator.rest.items inv.2 none))
