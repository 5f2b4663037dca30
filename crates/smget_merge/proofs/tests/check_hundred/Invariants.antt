use Rattle.std.proofs.Common.{◌≡◌, length}
use Rattle.std.specs.List.{All}
use Rattle.smget_merge.specs.Hundreds.{IsTreeOfHundred}
use Rattle.smget_merge.proofs.tests.check_hundred.Given as goal

abbrev pub invariant-loop-j : goal.invariant-loop-j
invariant-loop-j g l = record {
  each : All IsTreeOfHundred l.trees.items;
  count : length l.trees.items ≡ l.j;
}
