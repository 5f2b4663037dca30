use Rattle.std.proofs.Common.{◌+◌, ◌*◌, ◌≤◌}
use Rattle.smget_merge.proofs.tests.first_thousand_in_537.Given as goal

abbrev pub invariant-loop-bkey : goal.invariant-loop-bkey
invariant-loop-bkey g l = 8 * l.steps + l.merge.credit ≤ 8 * l.fn.steps + 3300 + l.bkey
