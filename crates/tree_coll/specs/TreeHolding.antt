-- What contracts see of a tree as an item.
use Rattle.std.specs.Prelude.{ℕ, zero, suc, Bool, if◌then◌else◌, List, Option, None}
use Rattle.arc_core.specs.declared.rows.Tail.{Tail}
use Rattle.arc_core.specs.declared.rows.Tail.TheVariants as tail
use Rattle.tree_coll.specs.declared.replies.TreeWord.{TreeWord}
use Rattle.tree_coll.specs.declared.replies.TreeWord.TheVariants as word
use Rattle.std.specs.Option.{option_map_or}
use Rattle.arc_core.specs.declared.bkeys.Bkey.{Bkey}
use Rattle.arc_core.specs.declared.bkeys.BkeyRange.{BkeyRange}
use Rattle.arc_core.specs.declared.trees.Edges.{Edges}
use Rattle.arc_core.specs.declared.trees.Elem.{Elem}
use Rattle.tree_coll.specs.TreeOutcomes.{TreeContents}

-- The elements with the edges, and for how many further elements there is room.
pub record TreeHeld : Type 0 where
  pub contents : TreeContents
  pub spare : ℕ

-- elements and edges together
abbrev pub contents_of : List Elem → Edges → TreeContents
contents_of elements edges = record { elements = elements; edges = edges }

-- a range up to a bkey, where there is one
abbrev pub covered_to : BkeyRange → Option Bkey → BkeyRange
covered_to range last = option_map_or (λ bkey. record { first = range.first; last = bkey }) last range

-- the most elements that a read of a tree of so many answers: count 0 asks for all
abbrev pub limit_of : (count all : ℕ) → ℕ
limit_of zero all = all
limit_of (suc n) all = suc n

-- the bkey with which a read has its count: with count 0 there is none
abbrev pub completed : (count : ℕ) → Option Bkey → Option Bkey
completed zero last = None
completed (suc n) last = last

-- how a read ends that answers elements, and what one is answered that finds none, by whether it meets the zone
abbrev pub zone_tail : Bool → Tail
zone_tail met = if met then tail.Trimmed else tail.End

abbrev pub zone_word : Bool → TreeWord
zone_word met = if met then word.OutOfRange else word.NotFoundElement
