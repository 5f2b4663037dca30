use Rattle.std.proofs.Common.{max, inl, sym, ap, ◌∙◌, subst}
use Rattle.cache_engine.specs.Changes.{FitsUnder}
use Rattle.cache_engine.specs.Starting.{RemovesInStep}
use Rattle.cache_engine.proofs.CarriedOut.{fits_under, removal_carried}
use Rattle.cache_engine.proofs.cache.Cache.change.Goals as goal

pub remove_and_use-dropped-requires-clause-fits : goal.remove_and_use-dropped-requires-clause-fits
remove_and_use-dropped-requires-clause-fits c =
    subst (FitsUnder c.args.key.now c.in-Removes.removal) (sym (ap (λ s. s.places) c.self.view_is))
    (fits_under c.args.key.now c.args.planned c.args.self.now.places c.in-Removes.removal c.in-Removes.drop_empty c.in-Removes.removed c.requires.suits c.in-Removes.is)

pub returns-in-Removes-clause-carries_out : goal.returns-in-Removes-clause-carries_out
returns-in-Removes-clause-carries_out c held plan there is_plan =
    let second = c.max-latest.ensures ∙ ap (λ s. max s.latest c.args.now) c.self.view_is in
    let places = c.remove_and_use-dropped.new.items in
    let dropped = c.remove_and_use-dropped.result in
    let removes = subst (λ l. RemovesInStep l c.args.key.now c.in-Removes.removal c.in-Removes.drop_empty c.args.self.now.places places dropped) second
    (subst (λ p. RemovesInStep c.max-latest.result c.args.key.now c.in-Removes.removal c.in-Removes.drop_empty p places dropped) (ap (λ s. s.places) c.self.view_is)
    c.remove_and_use-dropped.ensures) in
    inl (removal_carried c.args.self.now c.args.now c.args.key.now c.requires.live held plan c.args.planned c.in-Removes.removal c.in-Removes.drop_empty c.in-Removes.removed
    dropped places _ c.reply-in-Removes.result there is_plan c.in-Removes.is removes
    (λ i. record { latest = second i; counter = ap (λ s. s.counter) c.self.view_is i; places = places })
    c.reply-in-Removes.ensures)
