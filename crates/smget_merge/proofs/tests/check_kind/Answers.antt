use Rattle.btree_scan.proofs.SeenLemmas.{number_fits}
use Rattle.smget_merge.proofs.tests.check_kind.Goals as goal

pub returns : goal.returns
returns g c = number_fits c.args.bkey.now c.args.tree.now.elements c.at_position.result.now c.in-Number.field-0 c.in-Number-bkey.field-0 c.at_position.ensures.element c.in-Number.is c.in-Number-bkey.is
