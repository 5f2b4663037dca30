-- What a tree is for the requests on it, and what a request comes to.
use Rattle.std.specs.Prelude.{nat_lt, Bool, true, false, not, ◌&&◌, if◌then◌else◌, List, [], filter, slice_get, Option, None}
use Rattle.std.specs.List.{list_any}
use Rattle.std.specs.Option.{option_map, option_map_or, option_or}
use Rattle.arc_core.specs.declared.attributes.Attrs.{Attrs}
use Rattle.arc_core.specs.declared.bkeys.Bkey.{Bkey}
use Rattle.arc_core.specs.declared.bkeys.Bkey.TheVariants.{Number, Bytes}
use Rattle.arc_core.specs.declared.rows.Row.{Row}
use Rattle.arc_core.specs.declared.rows.RowName.TheVariants as row_name
use Rattle.arc_core.specs.declared.trees.Edges.{Edges}
use Rattle.arc_core.specs.declared.trees.Elem.{Elem}
use Rattle.arc_core.specs.BkeyOrder.{are_of_one_kind}
use Rattle.arc_core.specs.Settling.{is_same}
use Rattle.arc_core.specs.TreeContents.{place_of}
use Rattle.tree_coll.specs.declared.replies.TreeReply.{TreeReply}
use Rattle.tree_coll.specs.declared.replies.TreeReply.TheVariants as reply
use Rattle.tree_coll.specs.declared.replies.TreeWord.{TreeWord}
use Rattle.tree_coll.specs.declared.replies.TreeWord.TheVariants as word

-- The elements by rising bkeys, and up to where the tree was trimmed on each side, where a trim was told.
pub record TreeContents : Type 0 where
  pub elements : List Elem
  pub edges : Edges

-- what a tree holds that is made
abbrev pub empty_tree : TreeContents
empty_tree = record { elements = []; edges = record { low = None; high = None } }

-- What a request comes to with the tree that it finds.
pub data Outcome : Type 0 where
  -- the tree stays as it is, and this is answered
  stays : TreeReply → Outcome
  -- it holds this then
  becomes : TreeContents → TreeReply → Outcome
  -- it goes
  goes : TreeReply → Outcome

-- a word is answered, and nothing changes
abbrev pub refused : TreeWord → Outcome
refused answer = stays (reply.Word answer)

-- a tree with other elements
abbrev pub holding : List Elem → TreeContents → TreeContents
holding elements tree = record tree { elements = elements }

-- an element as it is answered
abbrev pub tree_row : Elem → Row
tree_row element = record { name = row_name.At element.bkey; eflag = element.eflag; value = element.value }

-- ELEMENTS BY THEIR BKEYS

-- whether one of the elements has this bkey
abbrev pub is_there : Bkey → List Elem → Bool
is_there bkey elements = list_any (λ element. is_same bkey element.bkey) elements

-- the element with this bkey, which stands behind all those with smaller ones
abbrev pub found : Bkey → List Elem → Option Elem
found bkey elements = if is_there bkey elements then slice_get elements (place_of bkey elements) else None

-- the elements without those that have the bkey of one of these
abbrev pub without : (gone : List Elem) → List Elem → List Elem
without gone elements = filter (λ element. not (is_there element.bkey gone)) elements

-- KINDS OF BKEYS

-- the bkey that tells a tree's kind: its first one, or else an edge's; a tree without any is undecided
abbrev pub kind_bkey : TreeContents → Option Bkey
kind_bkey tree = option_or (option_map (λ element. element.bkey) (slice_get tree.elements 0)) (option_or tree.edges.low tree.edges.high)

-- whether a bkey is of the tree's kind; an undecided tree has any
abbrev pub is_of_kind : Bkey → TreeContents → Bool
is_of_kind bkey tree = option_map_or (λ other. are_of_one_kind other bkey) (kind_bkey tree) true

-- whether a bkey is a byte string
abbrev pub is_bytes : Bkey → Bool
is_bytes (Number n) = false
is_bytes (Bytes bytes) = true

-- whether a tree may get this bkey: it is of the tree's kind, and a number where maxbkeyrange is a bound
abbrev pub may_get : Bkey → Attrs → TreeContents → Bool
may_get bkey attrs tree = is_of_kind bkey tree && not (is_bytes bkey && nat_lt 0 attrs.maxbkeyrange)

-- a row behind its check on kinds
abbrev pub checked : Bool → Outcome → Outcome
checked fits row = if fits then row else refused word.BkeyMismatch
