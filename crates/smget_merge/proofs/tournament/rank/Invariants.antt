use Rattle.std.proofs.Common.{◌≡◌, ℕ, ◌<◌, ◌≤◌, length}
use Rattle.smget_merge.specs.Tournaments.{IsPlayed}
use Rattle.smget_merge.specs.Walks.{heads_of}
use Rattle.smget_merge.proofs.tournament.rank.Given as goal

abbrev pub invariant-loop-node : goal.invariant-loop-node
invariant-loop-node l = record {
  most : l.node ≤ length l.walks;
  room : length l.winners ≡ length l.fn.winners;
  played : (node : ℕ) → l.node ≤ node → 1 ≤ node → node < length l.walks → IsPlayed l.down (heads_of l.walks) (length l.walks) l.winners node;
}

abbrev pub decreases-loop-node : goal.decreases-loop-node
decreases-loop-node l = l.node
