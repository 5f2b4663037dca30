use Rattle.std.proofs.Common.{◌≡◌, ◌+◌, ◌*◌, ◌≤◌, length}
use Rattle.smget_merge.proofs.WantedLemmas.{HasPassed}
use Rattle.smget_merge.proofs.merge.Merge.next.Given as goal

abbrev pub invariant-loop-number : goal.invariant-loop-number
invariant-loop-number g l = record {
  passed : HasPassed l.filter l.unique l.fn.self l.self;
  range : l.self.range ≡ l.fn.self.range;
  room : l.self.room ≡ l.fn.self.room;
  steps : 8 * l.steps + l.self.credit + length l.self.left ≤ 8 * l.fn.steps + l.fn.self.credit + length l.fn.self.left;
}

abbrev pub decreases-loop-number : goal.decreases-loop-number
decreases-loop-number g l = length l.self.left
