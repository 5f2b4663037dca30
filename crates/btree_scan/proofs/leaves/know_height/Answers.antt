use Rattle.std.proofs.Common.{length}
use Rattle.btree_scan.proofs.SeenLemmas.{tree_low}
use Rattle.btree_scan.proofs.leaves.know_height.Goals as goal

pub returns : goal.returns
returns c = tree_low (length c.args.tree.now.elements) c.args.tree.now.height c.know_count.ensures c.requires
