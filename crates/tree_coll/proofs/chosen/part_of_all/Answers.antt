use Rattle.tree_coll.proofs.PartLemmas.{part_all}
use Rattle.tree_coll.proofs.chosen.part_of_all.Goals as goal

pub returns : goal.returns
returns c = λ inside is. part_all c.args.offset c.args.limit c.args.number c.min-before.result c.min.result inside is c.min-before.ensures c.min.ensures
