use Rattle.std.proofs.Common.{◌≡◌, ◌++◌, length, map}
use Rattle.script_runs.specs.Dealing.{AreDealt}
use Rattle.script_runs.proofs.dealing.deal.Given as goal

-- these were dealt so far
abbrev pub invariant-loop-one : goal.invariant-loop-one
invariant-loop-one g l =
    (goal.iterator-loop-one g).can_next l.one-iterator × (goal.iterator-loop-one g).is_finite l.one-iterator
    × (l.number ≡ length l.yielded) × AreDealt l.workers l.yielded (map (λ hand. hand.items) l.hands.items)
    × (l.initial.one-iterator.rest.items ≡ l.yielded ++ l.one-iterator.rest.items) × (l.workers ≡ l.fn.workers)
