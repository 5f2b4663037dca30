use Rattle.std.proofs.Common.{◌∙◌, ap, is_some, subst, sym}
use Rattle.arc_core.specs.Places.{found}
use Rattle.byte_account.specs.ShelfWords.{item_at}
use Rattle.cache_engine.specs.Stored.{item_of, items_in}
use Rattle.cache_engine.specs.Changes.{Puts}
use Rattle.cache_engine.proofs.Holding.{found-items, is_some_map}
use Rattle.cache_engine.proofs.ItemPlaces.{put_leaves}
use Rattle.cache_engine.proofs.items.Items.put.Goals as goal

pub put_item-requires-clause-held : goal.put_item-requires-clause-held
put_item-requires-clause-held c =
    let key = c.args.key.now in
    let shelf = c.self.inside.shelf in
    c.requires ∙ ap (λ p. is_some (found key p)) (sym c.self.view_is) ∙ ap is_some (found-items key shelf c.self.invariant.filled) ∙ is_some_map item_of (item_at key shelf)

pub invariant_of-self : goal.invariant_of-self
invariant_of-self c = (put_leaves c.args.key.now c.args.item c.self.inside.shelf c.put_item.new.shelf c.put_item.result c.keep_the_rules.ensures c.self.invariant c.put_item.ensures).holds

pub returns : goal.returns
returns c =
    subst (λ p. Puts c.args.key.now (item_of c.args.item) p (items_in c.put_item.new.shelf) c.put_item.result) c.self.view_is
    (put_leaves c.args.key.now c.args.item c.self.inside.shelf c.put_item.new.shelf c.put_item.result c.keep_the_rules.ensures c.self.invariant c.put_item.ensures).what
