use Rattle.std.proofs.Common.{◌≡◌, ◌+◌, ◌*◌, ◌≤◌}
use Rattle.smget_merge.proofs.tests.add_all.Given as goal

abbrev pub invariant-loop-i : goal.invariant-loop-i
invariant-loop-i g l = record {
  room : l.merge.room + l.i ≡ 100;
  steps : 8 * l.steps + l.merge.credit ≤ 8 * l.fn.steps + l.fn.merge.credit + 33 * l.i;
}
