-- What entering a node shows.
use Rattle.std.specs.Prelude.{ℕ, ◌≤◌, List, length, Option, Some, None}
use Rattle.std.specs.List.{All}
use Rattle.std.specs.Borrow.{Bor}
use Rattle.arc_core.specs.declared.trees.Elem.{Elem}
use Rattle.btree_nodes.specs.declared.child.Part.{Part}
use Rattle.btree_nodes.specs.declared.child.Part.TheVariants.{Leaf, Branch}
use Rattle.btree_nodes.specs.Subtree.{Subtree, all_elements, height_over, IsChildAt}
use Rattle.btree_nodes.specs.Contents.{Contents}

-- the elements below the entered node, in order
abbrev pub elements_of : Part → List Elem
elements_of (Leaf elements) = elements.now
elements_of (Branch children) = all_elements children.now

-- the entered node's height
abbrev pub height_of : Part → ℕ
height_of (Leaf elements) = 1
height_of (Branch children) = height_over children.now

-- A branch has 1 to 32 children. They are of one height, and below each are as many elements as 16 to it at least.
pub record AreChildren (children : List Subtree) : Type 0 where
  pub some : 1 ≤ length children
  pub most : length children ≤ 32
  pub balanced : All (IsChildAt (height_over children)) children

-- What holds of an entered node: a leaf has at most 32 elements.
abbrev pub IsPart : Part → Type 0
IsPart (Leaf elements) = length elements.now ≤ 32
IsPart (Branch children) = AreChildren children.now

-- the elements below what is entered: the root, where no child is named
abbrev pub entered_elements : Contents → Option (Bor Subtree) → List Elem
entered_elements tree None = tree.elements
entered_elements tree (Some child) = child.now.elements

-- the height of what is entered
abbrev pub entered_height : Contents → Option (Bor Subtree) → ℕ
entered_height tree None = tree.height
entered_height tree (Some child) = child.now.height
