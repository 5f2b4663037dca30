use Rattle.btree_scan.proofs.SeenLemmas.{low_tree}
use Rattle.std.proofs.Common.{arith}
use Rattle.btree_scan.proofs.tests.position_in_four.Goals as goal

pub returns : goal.returns
returns g c = omega (arith, c.position_of.ensures.steps, low_tree c.args.tree.now.height (rw c.requires at c.position_of.ensures.high))
