-- The entry under the key's number is the list's place.
use Rattle.std.proofs.Common.{Some, ap, sym, ◌∙◌, subst}
use Rattle.byte_account.specs.Numbers.{by_names, IsNumbered}
use Rattle.byte_account.proofs.NumberLemmas.{of_found, lookup-under, set_value-under, numbered-set_value}
use Rattle.byte_account.proofs.ShelfLists.{set_value-absent}
use Rattle.byte_account.proofs.recency_list.RecencyList.replace.Goals as goal

pub invariant_of-self : goal.invariant_of-self
invariant_of-self g c =
    let under = c.in-Some.ensures.found in
    let new = of_found _ _ _ under.here c.replace_at.ensures.new in (
      c.replace_at.ensures.cap ∙ c.self.invariant.0,
      subst (IsNumbered (λ named. named.name.items) (λ named. named.place) c.self.inside.tries) (sym new)
          (numbered-set_value (λ named. named.name.items) (λ named. named.place) c.self.inside.tries c.self.inside.cache.entries c.self.invariant.1 _ c.args.key.now _ under _ under.named),
    )

pub returns-in-Some-clause-old : goal.returns-in-Some-clause-old
returns-in-Some-clause-old g c =
    let under = c.in-Some.ensures.found in
    rw (← c.self.view_is) (lookup-under (λ named. named.name.items) (λ named. named.place) _ c.args.key.now _ c.self.inside.cache.entries under ∙ ap Some (sym (of_found _ _ _ under.here c.replace_at.ensures.old)))

pub returns-in-Some-clause-new : goal.returns-in-Some-clause-new
returns-in-Some-clause-new g c =
    let under = c.in-Some.ensures.found in
    rw (← c.self.view_is)
    (ap (by_names (λ named. named.name.items) (λ named. named.place)) (of_found _ _ _ under.here c.replace_at.ensures.new)
    ∙ set_value-under (λ named. named.name.items) (λ named. named.place) _ c.args.key.now _ c.self.inside.cache.entries under _ under.named)

pub returns-in-None-clause-new : goal.returns-in-None-clause-new
returns-in-None-clause-new g c = rw (← c.self.view_is) (sym (set_value-absent _ _ c.args.place c.in-None.ensures.absent))
