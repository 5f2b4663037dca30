-- The cache puts the entry last that the list has under the key.
use Rattle.byte_account.proofs.NumberLemmas.{demoted-under, numbered-demoted}
use Rattle.byte_account.proofs.recency_list.RecencyList.demote.Goals as goal

pub invariant_of-self : goal.invariant_of-self
invariant_of-self g c =
    rw c.demote.ensures.entries (
      c.self.invariant.0,
      numbered-demoted (λ named. named.name.items) (λ named. named.place) c.self.inside.tries c.self.inside.cache.entries c.self.invariant.1 _ c.args.key.now _ c.in-Some.ensures.found,
    )

pub returns-in-Some : goal.returns-in-Some
returns-in-Some g c =
    rw (← c.self.view_is, c.demote.ensures.entries)
    (demoted-under (λ named. named.name.items) (λ named. named.place) _ c.args.key.now _ c.self.inside.cache.entries c.in-Some.ensures.found c.self.invariant.1.apart)
