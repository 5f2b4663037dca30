use Rattle.std.proofs.Common.{sym, subst}
use Rattle.cache_engine.specs.Stored.{items_in}
use Rattle.cache_engine.specs.Changes.{FitsUnder, Removes}
use Rattle.cache_engine.proofs.CollectionItems.{fits_on_shelf, removal_leaves}
use Rattle.cache_engine.proofs.items.Items.remove_from.Goals as goal

pub remove_under-requires-clause-fits : goal.remove_under-requires-clause-fits
remove_under-requires-clause-fits c =
    fits_on_shelf c.bytes.result.now c.args.removal.now c.self.inside.shelf c.self.invariant
    (subst (λ k. FitsUnder k c.args.removal.now (items_in c.self.inside.shelf)) (sym c.bytes.ensures.bytes) (subst (FitsUnder c.args.key.now c.args.removal.now) (sym c.self.view_is) c.requires))

pub invariant_of-self : goal.invariant_of-self
invariant_of-self c = (removal_leaves c.bytes.result.now c.args.removal.now c.args.drop_empty c.self.inside.shelf c.remove_under.new.shelf c.remove_under.result c.self.invariant c.remove_under.ensures).holds

pub returns : goal.returns
returns c =
    subst (λ k. Removes k c.args.removal.now c.args.drop_empty c.args.self.now (items_in c.remove_under.new.shelf) c.remove_under.result) c.bytes.ensures.bytes
    (subst (λ p. Removes c.bytes.result.now c.args.removal.now c.args.drop_empty p (items_in c.remove_under.new.shelf) c.remove_under.result) c.self.view_is
    (removal_leaves c.bytes.result.now c.args.removal.now c.args.drop_empty c.self.inside.shelf c.remove_under.new.shelf c.remove_under.result c.self.invariant c.remove_under.ensures).what)
