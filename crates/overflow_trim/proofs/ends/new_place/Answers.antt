use Rattle.overflow_trim.proofs.AroundLemmas.{new_at}
use Rattle.overflow_trim.proofs.ends.new_place.Goals as goal

pub returns : goal.returns
returns g c = new_at c.args.bkey.now c.args.tree.now.elements c.number_below.result c.number_below.ensures c.requires
