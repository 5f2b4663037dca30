use Rattle.std.proofs.Common.{refl}
use Rattle.byte_account.proofs.NumberLemmas.{numbered-nil}
use Rattle.byte_account.proofs.recency_list.RecencyList.new.Goals as goal

pub invariant_of-result : goal.invariant_of-result
invariant_of-result g c = rw c.in_ok-cache.ensures (refl, numbered-nil (λ named. named.name.items) (λ named. named.place) 0)
