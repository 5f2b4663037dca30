use Rattle.std.proofs.Common.{◌+◌, ◌*◌}
use Rattle.btree_nodes.specs.Subtree.{height_over}
use Rattle.btree_nodes.specs.NodeRules.{subtree_of}
use Rattle.btree_nodes.proofs.child.+trim.Given as goal

abbrev pub decreases-removal::trim_below : goal.decreases-removal::trim_below
decreases-removal::trim_below l = 3 * height_over l.children.now.items

abbrev pub decreases-removal::trim_node : goal.decreases-removal::trim_node
decreases-removal::trim_node l = 3 * (subtree_of l.node.now).height + 1

abbrev pub decreases-Child::trim : goal.decreases-Child::trim
decreases-Child::trim l = 3 * l.self.now.height + 2
