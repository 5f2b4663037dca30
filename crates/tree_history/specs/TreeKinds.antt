-- The elements of a tree rise, and with its edges they are of one kind.
use Rattle.std.specs.Prelude.{Bool, ◌≡◌, Option, Some, None}
use Rattle.std.specs.List.{All}
use Rattle.arc_core.specs.declared.bkeys.Bkey.{Bkey}
use Rattle.arc_core.specs.TreeContents.{IsRising}
use Rattle.tree_coll.specs.TreeOutcomes.{TreeContents, is_bytes}

-- An edge is of this kind, where there is one.
abbrev pub IsEdgeOf : (bytes : Bool) → Option Bkey → Type 0
IsEdgeOf bytes None = Unit {0}
IsEdgeOf bytes (Some bkey) = is_bytes bkey ≡ bytes

-- Elements and edges are byte strings, or they are numbers.
pub record IsOfOneKind (bytes : Bool) (tree : TreeContents) : Type 0 where
  pub elements : All (λ element. is_bytes element.bkey ≡ bytes) tree.elements
  pub low : IsEdgeOf bytes tree.edges.low
  pub high : IsEdgeOf bytes tree.edges.high

-- What rows keep of a tree.
pub record IsInOrder (tree : TreeContents) : Type 0 where
  pub rising : IsRising tree.elements
  pub kind : (bytes : Bool) × IsOfOneKind bytes tree
