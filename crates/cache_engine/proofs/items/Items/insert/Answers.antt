use Rattle.std.proofs.Common.{sym, subst}
use Rattle.cache_engine.specs.Stored.{items_in}
use Rattle.cache_engine.specs.Changes.{SuitsUnder, Inserts}
use Rattle.cache_engine.proofs.CollectionItems.{suits_on_shelf, insert_leaves}
use Rattle.cache_engine.proofs.items.Items.insert.Goals as goal

pub insert_under-requires-clause-suits : goal.insert_under-requires-clause-suits
insert_under-requires-clause-suits c =
    suits_on_shelf c.bytes.result.now c.args.insertion c.self.inside.shelf c.self.invariant
    (subst (λ k. SuitsUnder k c.args.insertion (items_in c.self.inside.shelf)) (sym c.bytes.ensures.bytes) (subst (SuitsUnder c.args.key.now c.args.insertion) (sym c.self.view_is) c.requires))

pub invariant_of-self : goal.invariant_of-self
invariant_of-self c = (insert_leaves c.bytes.result.now c.args.insertion c.self.inside.shelf c.insert_under.new.shelf c.insert_under.result c.self.invariant c.insert_under.ensures).holds

pub returns : goal.returns
returns c =
    subst (λ k. Inserts k c.args.insertion c.args.self.now (items_in c.insert_under.new.shelf) c.insert_under.result) c.bytes.ensures.bytes
    (subst (λ p. Inserts c.bytes.result.now c.args.insertion p (items_in c.insert_under.new.shelf) c.insert_under.result) c.self.view_is
    (insert_leaves c.bytes.result.now c.args.insertion c.self.inside.shelf c.insert_under.new.shelf c.insert_under.result c.self.invariant c.insert_under.ensures).what)
