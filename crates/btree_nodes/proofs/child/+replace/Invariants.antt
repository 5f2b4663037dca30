use Rattle.std.proofs.Common.{◌+◌, ◌*◌}
use Rattle.btree_nodes.specs.Subtree.{height_over}
use Rattle.btree_nodes.specs.NodeRules.{subtree_of}
use Rattle.btree_nodes.proofs.child.+replace.Given as goal

abbrev pub decreases-replacing::replace_below : goal.decreases-replacing::replace_below
decreases-replacing::replace_below l = 3 * height_over l.children.now.items

abbrev pub decreases-replacing::replace_in : goal.decreases-replacing::replace_in
decreases-replacing::replace_in l = 3 * (subtree_of l.node.now).height + 1

abbrev pub decreases-Child::replace : goal.decreases-Child::replace
decreases-Child::replace l = 3 * l.self.now.height + 2
