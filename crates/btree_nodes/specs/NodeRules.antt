-- How a node is seen, and what holds of it.
use Rattle.std.specs.Prelude.{◌≡◌, ◌≤◌, ◌<◌, List, length, slice_index_or, vec_capacity}
use Rattle.arc_core.specs.declared.bkeys.Bkey.{Bkey}
use Rattle.arc_core.specs.declared.trees.Elem.{Elem}
use Rattle.btree_nodes.specs.declared.child.Node.{Node}
use Rattle.btree_nodes.specs.declared.child.Node.TheVariants.{Leaf, Branch}
use Rattle.btree_nodes.specs.declared.child.Child.TheInside.{Inside}
use Rattle.btree_nodes.specs.Subtree.{Subtree, branch_of, IsBranch}

-- a leaf has its elements itself
abbrev pub subtree_of : Node → Subtree
subtree_of (Leaf elements) = record { elements = elements.items; height = 1; width = length elements.items; room = vec_capacity elements }
subtree_of (Branch children) = branch_of children.items (vec_capacity children)

-- What holds of a node: a leaf has at most 32 elements.
abbrev pub IsNode : Node → Type 0
IsNode (Leaf elements) = length elements.items ≤ 32
IsNode (Branch children) = IsBranch children.items (vec_capacity children)

-- This is the bkey of the first of the elements, where there is one.
abbrev pub IsLeast : Bkey → List Elem → Type 0
IsLeast bkey elements = (d : Elem) → 0 < length elements → bkey ≡ (slice_index_or elements 0 d).bkey

-- What is kept beside a node: the number of elements below it, and the least bkey.
pub record IsCounted (child : Inside) : Type 0 where
  pub count : child.count ≡ length (subtree_of child.node).elements
  pub least : IsLeast child.least (subtree_of child.node).elements
  pub node : IsNode child.node
