use Rattle.std.proofs.Common.{◌+◌, ◌*◌}
use Rattle.btree_nodes.specs.Subtree.{height_over}
use Rattle.btree_nodes.specs.NodeRules.{subtree_of}
use Rattle.btree_nodes.proofs.child.+insert.Given as goal

abbrev pub decreases-insertion::insert_below : goal.decreases-insertion::insert_below
decreases-insertion::insert_below l = 3 * height_over l.children.now.items

abbrev pub decreases-insertion::insert_into : goal.decreases-insertion::insert_into
decreases-insertion::insert_into l = 3 * (subtree_of l.node.now).height + 1

abbrev pub decreases-Child::insert : goal.decreases-Child::insert
decreases-Child::insert l = 3 * l.self.now.height + 2
