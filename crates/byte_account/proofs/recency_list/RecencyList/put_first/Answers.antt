-- The key is new to the cache, which is never full, so that the entry goes in front and nothing falls out.
use Rattle.std.proofs.Common.{◌≤◌, ◌-◌, length, arith}
use Rattle.byte_account.proofs.NumberLemmas.{by_names-put, numbered-put}
use Rattle.byte_account.proofs.recency_list.RecencyList.put_first.Goals as goal

pub invariant_of-self : goal.invariant_of-self
invariant_of-self g c =
    let cache = c.self.inside.cache in
    let room : length cache.entries ≤ cache.cap - 1 = omega arith in (
      rw c.in-Ok-put.ensures.entries c.self.invariant.0,
      numbered-put (λ named. named.name.items) (λ named. named.place) c.self.inside.tries cache c.put.new.self c.hash_of-hash.result c.in-Some.k c.args.key.now _ c.hash_of-hash.ensures c.in-Some.ensures.free room c.in-Ok-put.ensures.entries
          c.self.invariant.1 _ c.in-Ok.ensures.ok (rw (← c.self.view_is) at c.requires) (omega arith) (omega arith),
    )

pub returns-in-Ok-put-clause-ok : goal.returns-in-Ok-put-clause-ok
returns-in-Ok-put-clause-ok g c =
    let cache = c.self.inside.cache in
    let room : length cache.entries ≤ cache.cap - 1 = omega arith in
    rw (← c.self.view_is)
    (by_names-put (λ named. named.name.items) (λ named. named.place) c.self.inside.tries cache c.put.new.self c.hash_of-hash.result c.in-Some.k c.args.key.now _ c.hash_of-hash.ensures c.in-Some.ensures.free room c.in-Ok-put.ensures.entries c.in-Ok.ensures.ok)
