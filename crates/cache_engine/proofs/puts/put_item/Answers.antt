use Rattle.std.proofs.Common.{◌≡◌, true, Some, is_some, subst, sym, ap, ◌∙◌}
use Rattle.arc_core.specs.Places.{found}
use Rattle.byte_account.specs.Putting as shelf
use Rattle.byte_account.specs.ShelfWords.{item_at}
use Rattle.byte_account.specs.Weight.{place_weight}
use Rattle.cache_engine.specs.Putting.{weigh}
use Rattle.cache_engine.proofs.Holding.{absent, none_held, some_held}
use Rattle.cache_engine.proofs.puts.put_item.Goals as goal

pub put_new-requires : goal.put_new-requires
put_new-requires c = absent c.args.key.now c.args.shelf.now c.requires.holds.filled (none_held (item_at c.args.key.now c.args.shelf.now) (sym c.requires.held ∙ c.if-not-held.true))

pub replace-requires : goal.replace-requires
replace-requires c =
    subst (λ k. is_some (found k c.args.shelf.now) ≡ true) (sym c.bytes.ensures.bytes) (some_held (found c.args.key.now c.args.shelf.now) (sym c.requires.held ∙ c.if-not-held.false))

pub returns : goal.returns
returns c =
    subst (λ b. shelf.Puts (place_weight weigh) b c.args.key.now (Some c.args.item) c.args.shelf.now c.replace.new.self c.replace.result) c.is_sticky-sticky.ensures
    (subst (λ k. shelf.Puts (place_weight weigh) c.is_sticky-sticky.result k (Some c.args.item) c.args.shelf.now c.replace.new.self c.replace.result) c.bytes.ensures.bytes c.replace.ensures)
