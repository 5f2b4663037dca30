use Rattle.std.specs.Iterator.Adapters.{rev_source}
use Rattle.byte_account.specs.Numbers.{by_names}
use Rattle.byte_account.specs.Weight.{place_weight}
use Rattle.byte_account.proofs.RoomLemmas.{IsWalked}
use Rattle.byte_account.proofs.recency_list.RecencyList.fewest_to_free.Given as goal

abbrev pub invariant-loop-named : goal.invariant-loop-named
invariant-loop-named g l =
    (goal.iterator-loop-named g).can_next l.named-iterator × (goal.iterator-loop-named g).is_finite l.named-iterator
    × IsWalked (place_weight g.T.Weighs.weigh) l.need l.key l.self (by_names (λ named. named.name.items) (λ named. named.place) (rev_source l.named-iterator)) l.freed l.count
