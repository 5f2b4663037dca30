-- Each child of a branch is less high than the branch.
use Rattle.std.specs.Prelude.{ℕ, ◌+◌, ◌≤◌, max, List, [], ◌∷◌}
use Rattle.std.specs.List.{All}
use Rattle.std.proofs.Common.{arith}
use Rattle.std.proofs.lemmas.List.Elements.{All-head, All-tail}
use denote.Param.Weighed.{most}
use Rattle.btree_nodes.specs.declared.child.Node.{Node}
use Rattle.btree_nodes.specs.declared.child.Node.TheVariants.{Leaf, Branch}
use Rattle.btree_nodes.specs.declared.child.Child.TheDeep.{deep-Node}
use Rattle.btree_nodes.specs.Subtree.{Subtree, height_over, IsChildAt}
use Rattle.btree_nodes.specs.NodeRules.{subtree_of, IsNode}

-- no child is as high as the branch over it
most_children : (children : List Subtree) (height : ℕ) → All (IsChildAt height) children → most (λ child. child.height + 1) children ≤ height
most_children [] height all = omega arith
most_children (child ∷ others) height all =
    omega (arith, most_children others height (All-tail (IsChildAt height) child others all), (All-head (IsChildAt height) child others all).level)

pub depth_falls : (node : Node) → IsNode node → max (deep-Node node) 0 ≤ (subtree_of node).height
depth_falls (Leaf elements) h = omega arith
depth_falls (Branch children) h = omega (arith, most_children children.items (height_over children.items) h.balanced)
