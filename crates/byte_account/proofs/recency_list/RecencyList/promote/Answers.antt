-- The cache puts the entry first that the list has under the key.
use Rattle.byte_account.proofs.NumberLemmas.{promoted-under, numbered-promoted}
use Rattle.byte_account.proofs.recency_list.RecencyList.promote.Goals as goal

pub invariant_of-self : goal.invariant_of-self
invariant_of-self g c =
    rw c.promote.ensures.entries (
      c.self.invariant.0,
      numbered-promoted (λ named. named.name.items) (λ named. named.place) c.self.inside.tries c.self.inside.cache.entries c.self.invariant.1 _ c.args.key.now _ c.in-Some.ensures.found,
    )

pub returns-in-Some : goal.returns-in-Some
returns-in-Some g c =
    rw (← c.self.view_is, c.promote.ensures.entries)
    (promoted-under (λ named. named.name.items) (λ named. named.place) _ c.args.key.now _ c.self.inside.cache.entries c.in-Some.ensures.found c.self.invariant.1.apart)
