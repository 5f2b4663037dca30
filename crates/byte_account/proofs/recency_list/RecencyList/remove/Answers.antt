-- The cache takes the entry out that the list has under the key.
use Rattle.std.proofs.Common.{◌∙◌, ap, sym, option_map}
use Rattle.byte_account.proofs.NumberLemmas.{lookup-under, remove_entry-under, numbered-remove}
use Rattle.byte_account.proofs.ShelfLists.{others-absent}
use Rattle.byte_account.proofs.recency_list.RecencyList.remove.Goals as goal

pub returns-in_err-number-clause-rest : goal.returns-in_err-number-clause-rest
returns-in_err-number-clause-rest g c = rw (← c.self.view_is) (sym (others-absent c.args.key.now _ c.in_err-number.ensures.absent))

pub invariant_of-self-2 : goal.invariant_of-self-2
invariant_of-self-2 g c =
    rw c.pop.ensures.entries (
      c.self.invariant.0,
      numbered-remove (λ named. named.name.items) (λ named. named.place) c.self.inside.tries c.self.inside.cache.entries c.self.invariant.1 _ c.args.key.now _ c.in_ok-number.ensures.found,
    )

pub returns-clause-place : goal.returns-clause-place
returns-clause-place g c =
    rw (← c.self.view_is)
    (ap (option_map (λ named. named.place)) (c.in_ok-pop.ensures.value ∙ c.in_ok-number.ensures.found.here)
    ∙ sym (lookup-under (λ named. named.name.items) (λ named. named.place) _ c.args.key.now _ c.self.inside.cache.entries c.in_ok-number.ensures.found))

pub returns-clause-rest : goal.returns-clause-rest
returns-clause-rest g c =
    rw (← c.self.view_is, c.pop.ensures.entries)
    (remove_entry-under (λ named. named.name.items) (λ named. named.place) _ c.args.key.now _ c.self.inside.cache.entries c.in_ok-number.ensures.found c.self.invariant.1.apart)
