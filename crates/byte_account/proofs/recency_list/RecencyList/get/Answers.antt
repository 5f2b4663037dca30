-- What is under the key's number is under the key.
use Rattle.std.proofs.Common.{sym}
use Rattle.byte_account.proofs.NumberLemmas.{lookup-under}
use Rattle.byte_account.proofs.recency_list.RecencyList.get.Goals as goal

pub returns : goal.returns
returns g c = rw (← c.self.view_is) (sym (lookup-under (λ named. named.name.items) (λ named. named.place) _ c.args.key.now _ c.self.inside.cache.entries c.in_ok-named.ensures.found))
