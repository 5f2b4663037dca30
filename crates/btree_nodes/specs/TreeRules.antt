-- What holds of a tree, and when it has room for one more element.
use Rattle.std.specs.Prelude.{◌≡◌, ℕ, ◌+◌, ◌≤◌, nat_lt, nat_le, Bool, ◌==◌, ◌&&◌, ◌||◌, if◌then◌else◌, length}
use Rattle.arc_core.specs.TreeContents.{IsRising}
use Rattle.btree_nodes.specs.declared.spare.Spare.{Spare}
use Rattle.btree_nodes.specs.Subtree.{Subtree, IsDense}
use Rattle.btree_nodes.specs.Contents.{Contents}

-- What holds of a root: a branch at the root has two children at least.
pub record IsRoot (root : Subtree) : Type 0 where
  pub high : 1 ≤ root.height
  pub two : 2 ≤ root.height → 2 ≤ root.width
  pub roomy : 2 ≤ root.height → 32 ≤ root.room
  pub dense : IsDense root

-- whether a leaf at the root has a free place
abbrev pub has_place : Subtree → Bool
has_place root = (root.height == 1) && nat_lt root.width 32 && nat_lt root.width root.room

-- how many spare branches an insert may use: one for each branch below the root, and two more where the root is full
abbrev pub branches_needed : Subtree → ℕ
branches_needed root = if nat_lt root.width 32 then root.height else root.height + 2

-- whether there are spare nodes for an insert, however many nodes it splits
abbrev pub has_nodes : Subtree → Spare → Bool
has_nodes root spare = nat_le 32 root.room && nat_le 1 spare.leaves && nat_le (branches_needed root) (spare.branches + 2)

-- whether an insert can go without memory; a tree has at most 2^32 - 1 elements
abbrev pub is_ready : Subtree → Spare → Bool
is_ready root spare = nat_lt (length root.elements) 4294967295 && (has_place root || has_nodes root spare)

-- what contracts see of a tree with this root and these spare nodes
abbrev pub contents_of : Subtree → Spare → Contents
contents_of root spare = record {
  elements = root.elements;
  spare = if is_ready root spare then 1 else 0;
  height = root.height;
}

-- What holds of a tree: the elements rise, and the height that is kept is the root's.
pub record IsTree (top : Subtree) (level : ℕ) : Type 0 where
  pub rising : IsRising top.elements
  pub root : IsRoot top
  pub height_is : level ≡ top.height
