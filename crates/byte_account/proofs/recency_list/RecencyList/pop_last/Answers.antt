-- The cache's least recently used entry is the list's last place.
use Rattle.std.proofs.Common.{sym}
use Rattle.byte_account.specs.Weight.{place_weight}
use Rattle.byte_account.proofs.NumberLemmas.{by_names-take_front, weight-pop, numbered-take}
use Rattle.byte_account.proofs.recency_list.RecencyList.pop_last.Goals as goal

pub invariant_of-self-2 : goal.invariant_of-self-2
invariant_of-self-2 g c =
    rw c.pop_lru.ensures.entries (c.self.invariant.0, numbered-take (λ named. named.name.items) (λ named. named.place) c.self.inside.tries c.self.inside.cache.entries c.self.invariant.1 _)

pub returns-clause-places : goal.returns-clause-places
returns-clause-places g c = rw (← c.self.view_is, c.pop_lru.ensures.entries) (by_names-take_front (λ named. named.name.items) (λ named. named.place) c.self.inside.cache.entries)

pub returns-clause-freed : goal.returns-clause-freed
returns-clause-freed g c =
    rw (← c.self.view_is, c.pop_lru.ensures.entries, c.weigh_place.ensures, c.as_slice.ensures)
    (weight-pop (λ named. named.name.items) (λ named. named.place) (place_weight g.T.Weighs.weigh) c.self.inside.cache.entries (_, c.in-Some.named) (sym c.in-Some.ensures.value))
