use Rattle.std.proofs.Common.{◌≡◌}
use Rattle.turn_lock.proofs.Waiting.{StillWaits}
use Rattle.turn_lock.proofs.steps.take_turn.Given as goal

abbrev pub invariant-loop : goal.invariant-loop
invariant-loop g l = StillWaits l.fn.place.me.0 l.ticket l.place.me × (l.place.table_id ≡ l.fn.place.table_id)
