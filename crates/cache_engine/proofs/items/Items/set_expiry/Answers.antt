use Rattle.std.proofs.Common.{ap, ◌∙◌, subst}
use Rattle.arc_core.specs.Places.{found}
use Rattle.cache_engine.specs.Stored.{items_in}
use Rattle.cache_engine.specs.Changes.{SetsExpiry}
use Rattle.cache_engine.proofs.ItemPlaces.{stored_under, set_expiry_leaves}
use Rattle.cache_engine.proofs.items.Items.set_expiry.Goals as goal

pub set_expiry-requires-clause-held : goal.set_expiry-requires-clause-held
set_expiry-requires-clause-held c =
    let s = stored_under c.bytes.result.now c.self.inside.shelf c.requires.0 c.self.invariant (ap (found c.bytes.result.now) c.self.view_is ∙ ap (λ k. found k c.args.self.now) c.bytes.ensures.bytes ∙ c.requires.1) in (s.0, s.1)

pub invariant_of-self : goal.invariant_of-self
invariant_of-self c = (set_expiry_leaves c.bytes.result.now c.args.expiry c.self.inside.shelf c.set_expiry.new.shelf c.set_expiry.result c.self.invariant c.set_expiry.ensures).holds

pub returns : goal.returns
returns c =
    subst (λ k. SetsExpiry k c.args.expiry c.args.self.now (items_in c.set_expiry.new.shelf) c.set_expiry.result) c.bytes.ensures.bytes
    (subst (λ p. SetsExpiry c.bytes.result.now c.args.expiry p (items_in c.set_expiry.new.shelf) c.set_expiry.result) c.self.view_is
    (set_expiry_leaves c.bytes.result.now c.args.expiry c.self.inside.shelf c.set_expiry.new.shelf c.set_expiry.result c.self.invariant c.set_expiry.ensures).what)
