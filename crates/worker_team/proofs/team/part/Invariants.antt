use Rattle.std.proofs.Common.{◌≡◌, ◌≤◌, ◌++◌, length, map, vec_capacity}
use Rattle.worker_team.specs.Team.{left}
use Rattle.worker_team.proofs.team.part.Given as goal

abbrev pub invariant-loop-worker : goal.invariant-loop-worker
invariant-loop-worker g l =
    (goal.iterator-loop-worker g).can_next l.worker-iterator × (goal.iterator-loop-worker g).is_finite l.worker-iterator
    × (l.fn.workers.items ≡ l.yielded ++ l.worker-iterator.rest.items)
    × (l.seats.items ≡ map (λ w. w.seat) l.yielded) × (length l.fn.workers.items ≤ vec_capacity l.seats)
    × (map (λ m. left m.port m.served m.end) l.members.items ≡ map (λ w. left w.port w.next w.end) l.yielded)
    × (length l.fn.workers.items ≤ vec_capacity l.members)
