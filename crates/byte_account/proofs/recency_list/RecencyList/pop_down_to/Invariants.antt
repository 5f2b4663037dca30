use Rattle.byte_account.specs.Weight.{place_weight}
use Rattle.byte_account.proofs.EvictionLemmas.{IsPopping}
use Rattle.byte_account.proofs.recency_list.RecencyList.pop_down_to.Given as goal

abbrev pub invariant-loop-left : goal.invariant-loop-left
invariant-loop-left g l = IsPopping (place_weight g.T.Weighs.weigh) l.key l.n l.initial.self l.self l.freed l.left

abbrev pub decreases-loop-left : goal.decreases-loop-left
decreases-loop-left g l = l.left
