use Rattle.btree_scan.proofs.SeenLemmas.{absent_before}
use Rattle.smget_merge.proofs.tests.check_absent.Goals as goal

pub returns : goal.returns
returns g c = absent_before c.args.bkey.now c.args.tree.now.elements c.in-Before.field-0 c.in-Before.ensures.position
