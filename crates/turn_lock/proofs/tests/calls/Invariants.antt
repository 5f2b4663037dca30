use Rattle.turn_lock.specs.Trials.{Stays}
use Rattle.turn_lock.proofs.tests.calls.Given as goal

abbrev pub invariant-loop : goal.invariant-loop
invariant-loop g l = Stays l.initial.seat l.seat
