use Rattle.cache_engine.proofs.ItemPlaces.{HoldsItems-empty}
use Rattle.cache_engine.proofs.items.Items.new.Goals as goal

pub invariant_of-result : goal.invariant_of-result
invariant_of-result c = (HoldsItems-empty c.args.limit c.args.share c.in_ok-shelf.shelf c.in_ok-shelf.ensures).holds

pub returns : goal.returns
returns c = (HoldsItems-empty c.args.limit c.args.share c.in_ok-shelf.shelf c.in_ok-shelf.ensures).are
