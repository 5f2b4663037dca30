use Rattle.std.proofs.Common.{◌≡◌, ◌++◌, length}
use Rattle.worker_team.proofs.Disbanding.{Disbands}
use Rattle.worker_team.proofs.closing.close_joined.Given as goal

abbrev pub invariant-loop-other : goal.invariant-loop-other
invariant-loop-other g l =
    (goal.iterator-loop-other g).can_next l.other-iterator × (goal.iterator-loop-other g).is_finite l.other-iterator
    × Disbands l.fn.lock l.fn.seat.opening (length l.fn.seats.items) l.yielded l.other-iterator.rest.items l.seat
    × (l.lock ≡ l.fn.lock) × (l.fn.seats.items ≡ l.yielded ++ l.other-iterator.rest.items)
