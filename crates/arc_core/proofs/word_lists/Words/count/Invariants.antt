use Rattle.std.proofs.Common.{◌≡◌, ◌+◌, ◌≤◌, length}
use Rattle.arc_core.specs.Words.{words}
use Rattle.arc_core.proofs.word_lists.Words.count.Given as goal

abbrev pub invariant-loop-behind : goal.invariant-loop-behind
invariant-loop-behind l =
    record {
      counted : l.count + length (words l.left) ≡ length (words l.initial.left);
      few : l.count + length l.left ≤ 65536;
    }

abbrev pub decreases-loop-behind : goal.decreases-loop-behind
decreases-loop-behind l = length l.left
