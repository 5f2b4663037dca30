use Rattle.std.proofs.Common.{◌+◌, ◌*◌}
use Rattle.turn_lock.proofs.tests.+fn-team-join+arg2+team.Given as goal

abbrev pub decreases-join+arg2 : goal.decreases-join+arg2
decreases-join+arg2 g l = 2 * l.more

abbrev pub decreases-team : goal.decreases-team
decreases-team g l = 2 * l.more + 1
