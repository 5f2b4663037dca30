-- The way to a bkey.
use Rattle.std.specs.Prelude.{◌≡◌, ℕ, ◌+◌, ◌<◌, Bool, true, List, length, take, slice_index_or}
use Rattle.std.specs.List.{All, list_any}
use Rattle.std.specs.Ordering.{is_eq}
use Rattle.arc_core.specs.declared.bkeys.Bkey.{Bkey}
use Rattle.arc_core.specs.declared.trees.Elem.{Elem}
use Rattle.arc_core.specs.BkeyOrder.{bkey_cmp, are_of_one_kind}
use Rattle.arc_core.specs.TreeContents.{place_of}
use Rattle.btree_nodes.specs.Subtree.{Subtree, all_elements}

-- whether one of the elements has the bkey
abbrev pub has_bkey : Bkey → List Elem → Bool
has_bkey bkey elements = list_any (λ element. is_eq (bkey_cmp bkey element.bkey)) elements

-- There is an element below each child.
abbrev pub HasEach : List Subtree → Type 0
HasEach children = All (λ child. 0 < length child.elements) children

-- The bkey's place is its place below the child at this index, and if it is there at all it is there.
pub record IsWayTo (bkey : Bkey) (children : List Subtree) (index : ℕ) : Type 0 where
  pub within : index < length children
  pub place : (d : Subtree) → place_of bkey (all_elements children) ≡ length (all_elements (take index children)) + place_of bkey (slice_index_or children index d).elements
  pub found : (d : Subtree) → has_bkey bkey (all_elements children) ≡ has_bkey bkey (slice_index_or children index d).elements

-- A bkey is of the kind of the first element, where there is one.
abbrev pub FitsKind : Bkey → List Elem → Type 0
FitsKind bkey elements = (d : Elem) → 0 < length elements → are_of_one_kind (slice_index_or elements 0 d).bkey bkey ≡ true
