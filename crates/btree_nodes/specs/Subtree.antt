-- What contracts see of a node with all that is below it, and the rules of balance.
use Rattle.std.specs.Prelude.{◌≡◌, ℕ, ◌+◌, ◌*◌, ◌^◌, ◌≤◌, List, [], ◌∷◌, length}
use Rattle.std.specs.List.{All, flat_map}
use Rattle.arc_core.specs.declared.trees.Elem.{Elem}

-- The elements of all leaves below the node, in order; how many nodes stand on a way from it down to a leaf, itself and the
-- leaf too; how many elements (of a leaf) or children (of a branch) it has itself; and for how many it has room.
pub record Subtree : Type 0 where
  pub elements : List Elem
  pub height : ℕ
  pub width : ℕ
  pub room : ℕ

-- the elements below these nodes, one after another
abbrev pub all_elements : List Subtree → List Elem
all_elements children = flat_map (λ child. child.elements) children

-- the height of a branch over these children, which all have one height
abbrev pub height_over : List Subtree → ℕ
height_over [] = 2
height_over (child ∷ others) = child.height + 1

-- a branch over these children, with this room
abbrev pub branch_of : List Subtree → ℕ → Subtree
branch_of children room = record {
  elements = all_elements children;
  height = height_over children;
  width = length children;
  room = room;
}

-- The elements below a node of this width and height are as many as nodes of 16 below it hold.
abbrev pub IsDense : Subtree → Type 0
IsDense node = node.width * 16 ^ node.height ≤ 16 * length node.elements

-- What a branch of this height asks of a child: all leaves are at one depth, and the child has at least 16 elements or
-- children, and room for 32.
pub record IsChildAt (height : ℕ) (child : Subtree) : Type 0 where
  pub level : child.height + 1 ≡ height
  pub high : 1 ≤ child.height
  pub wide : 16 ≤ child.width
  pub roomy : 32 ≤ child.room
  pub dense : IsDense child

-- What holds of a branch: it has a child, and at most 32, for which it has room.
pub record IsBranch (children : List Subtree) (room : ℕ) : Type 0 where
  pub some : 1 ≤ length children
  pub most : length children ≤ 32
  pub roomy : 32 ≤ room
  pub balanced : All (IsChildAt (height_over children)) children
