use Rattle.byte_account.proofs.NumberLemmas.{numbered-nil}
use Rattle.byte_account.proofs.recency_list.RecencyList.clear.Goals as goal

pub invariant_of-self : goal.invariant_of-self
invariant_of-self g c = rw c.clear.ensures (c.self.invariant.0, numbered-nil (λ named. named.name.items) (λ named. named.place) 0)
