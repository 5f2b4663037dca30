use Rattle.std.proofs.Common.{◌≡◌, ℕ, [], length}
use Rattle.script_runs.specs.Dealing.{At}
use Rattle.script_runs.proofs.dealing.empty_hands.Given as goal

-- so many hands so far, none of which holds any
abbrev pub invariant-loop : goal.invariant-loop
invariant-loop g l = (length l.hands.items ≡ l.counter) × ((k : ℕ) (hand : _) → At l.hands.items k hand → hand.items ≡ [])
