-- What the requests on a tree do. (`bop` of the ARCUS protocol; edges, the zone of what was trimmed, and which reads are told
-- of it are this server's own.)
use Rattle.std.specs.Prelude.{ℕ, ◌+◌, ◌-◌, ◌^◌, ◌==◌, min, nat_lt, Bool, true, false, ◌&&◌, if◌then◌else◌, List, [], ◌∷◌, length, map, take, drop, reverse, decimal, Option, Some, None}
use Rattle.std.specs.Option.{option_map_or}
use Rattle.arc_core.specs.declared.attributes.Attrs.{Attrs}
use Rattle.arc_core.specs.declared.bkeys.Bkey.{Bkey}
use Rattle.arc_core.specs.declared.bkeys.BkeyRange.{BkeyRange}
use Rattle.arc_core.specs.declared.collections.Take.{Take}
use Rattle.arc_core.specs.declared.collections.Take.TheVariants as taking
use Rattle.arc_core.specs.declared.filters.EflagChange.{EflagChange}
use Rattle.arc_core.specs.declared.filters.EflagChange.TheVariants as change
use Rattle.arc_core.specs.declared.filters.Filter.{Filter}
use Rattle.arc_core.specs.declared.rows.Tail.{Tail}
use Rattle.arc_core.specs.declared.rows.Tail.TheVariants as tail
use Rattle.arc_core.specs.declared.trees.Elem.{Elem}
use Rattle.arc_core.specs.declared.trees.TreeRead.{TreeRead}
use Rattle.arc_core.specs.Filter.{flag_after}
use Rattle.arc_core.specs.Settling.{Settled, stored, out_of_range, overflowed, settled, settled_edges}
use Rattle.arc_core.specs.Step.{counted}
use Rattle.arc_core.specs.TreeContents.{place_of, with_element}
use Rattle.arc_core.specs.TreeReading.{chosen, covered_range, meets_zone, selected}
use Rattle.arc_core.specs.Words.{number_below}
use Rattle.tree_coll.specs.declared.replies.TreeReply.{TreeReply}
use Rattle.tree_coll.specs.declared.replies.TreeReply.TheVariants as reply
use Rattle.tree_coll.specs.declared.replies.TreeWord.TheVariants as word
use Rattle.tree_coll.specs.TreeOutcomes.{Outcome, TreeContents, stays, becomes, goes, refused, holding, tree_row, is_there, found, without, is_of_kind, may_get, checked}

-- READING AND REMOVING

-- elements with the tree's client flags
abbrev pub rows : Attrs → List Elem → Tail → TreeReply
rows attrs elements end = reply.Rows attrs.flags (map tree_row elements) end

-- how a read ends that answers elements: TRIMMED where the range that it covers meets the zone
abbrev pub read_end : TreeRead → TreeContents → Tail
read_end read tree = if meets_zone tree.edges tree.elements (covered_range read tree.elements) then tail.Trimmed else tail.End

-- what a read comes to that answers no element: OUT_OF_RANGE where the whole range meets the zone
abbrev pub none_read : TreeRead → TreeContents → Outcome
none_read read tree = refused (if meets_zone tree.edges tree.elements read.range then word.OutOfRange else word.NotFoundElement)

-- what it comes to that the tree is left with these elements: where that is none and `drop_empty` says so it goes
abbrev pub left_with : (drop_empty : Bool) → TreeContents → List Elem → (kept dropped : TreeReply) → Outcome
left_with drop_empty tree left kept dropped =
    if drop_empty && (length left == 0) then goes dropped else becomes (holding left tree) kept

-- what a read comes to that answers these elements, one at least
abbrev pub read_and_taken : Take → TreeRead → Attrs → TreeContents → List Elem → Outcome
read_and_taken taking.Keep read attrs tree answered = stays (rows attrs answered (read_end read tree))
read_and_taken taking.Delete read attrs tree answered =
    left_with false tree (without answered tree.elements) (rows attrs answered tail.Deleted) (rows attrs answered tail.DeletedDropped)
read_and_taken taking.Drop read attrs tree answered =
    left_with true tree (without answered tree.elements) (rows attrs answered tail.Deleted) (rows attrs answered tail.DeletedDropped)

-- `bop get`, by the elements that it chooses
abbrev pub chosen_read : Take → TreeRead → Attrs → TreeContents → List Elem → Outcome
chosen_read take read attrs tree [] = none_read read tree
chosen_read take read attrs tree (first ∷ others) = read_and_taken take read attrs tree (first ∷ others)

abbrev pub tree_get : TreeRead → Take → Attrs → TreeContents → Outcome
tree_get read take attrs tree = checked (is_of_kind read.range.first tree) (chosen_read take read attrs tree (chosen read tree.elements))

-- `bop delete`, by the elements that it chooses
abbrev pub chosen_deleted : Bool → TreeContents → List Elem → Outcome
chosen_deleted drop_empty tree [] = refused word.NotFoundElement
chosen_deleted drop_empty tree (first ∷ others) =
    left_with drop_empty tree (without (first ∷ others) tree.elements) (reply.Word word.Deleted) (reply.Word word.DeletedDropped)

abbrev pub tree_delete : TreeRead → (drop_empty : Bool) → Attrs → TreeContents → Outcome
tree_delete read drop_empty attrs tree = checked (is_of_kind read.range.first tree) (chosen_deleted drop_empty tree (chosen read tree.elements))

-- `bop count`
abbrev pub tree_count : BkeyRange → Option Filter → Attrs → TreeContents → Outcome
tree_count range filter attrs tree = checked (is_of_kind range.first tree) (stays (reply.Count (length (selected range filter tree.elements))))

-- PUTTING

-- what an insert comes to that was settled so; where it stored the element, it is answered by what was trimmed
abbrev pub inserted : (answer : List Elem → TreeReply) → Bkey → Attrs → TreeContents → Settled → Outcome
inserted answer bkey attrs tree (stored kept trimmed) =
    becomes (record { elements = kept; edges = settled_edges attrs.action bkey (stored kept trimmed) tree.edges }) (answer trimmed)
inserted answer bkey attrs tree (out_of_range side) =
    becomes (record tree { edges = settled_edges attrs.action bkey (out_of_range side) tree.edges }) (reply.Word word.OutOfRange)
inserted answer bkey attrs tree overflowed = refused word.Overflowed

-- an insert of an element whose bkey is not there
abbrev pub new_inserted : (answer : List Elem → TreeReply) → Elem → Attrs → TreeContents → Outcome
new_inserted answer element attrs tree =
    inserted answer element.bkey attrs tree (settled attrs.maxcount attrs.maxbkeyrange attrs.action element tree.elements)

-- what is answered to an insert that trimmed these: with `getrim` they are, where there are any
abbrev pub trim_reply : (getrim : Bool) → Attrs → List Elem → TreeReply
trim_reply getrim attrs [] = reply.Word word.Stored
trim_reply false attrs (first ∷ others) = reply.Word word.Stored
trim_reply true attrs (first ∷ others) = rows attrs (first ∷ others) tail.Trimmed

-- `bop insert`
abbrev pub tree_insert : Elem → (getrim : Bool) → Attrs → TreeContents → Outcome
tree_insert element getrim attrs tree = checked (may_get element.bkey attrs tree)
    (if is_there element.bkey tree.elements then refused word.ElementExists
    else new_inserted (trim_reply getrim attrs) element attrs tree)

-- `bop upsert`
abbrev pub tree_upsert : Elem → (getrim : Bool) → Attrs → TreeContents → Outcome
tree_upsert element getrim attrs tree = checked (may_get element.bkey attrs tree)
    (if is_there element.bkey tree.elements then becomes (holding (with_element element tree.elements) tree) (reply.Word word.Replaced)
    else new_inserted (trim_reply getrim attrs) element attrs tree)

-- CHANGING

-- whether an update gives neither another flag nor another value
abbrev pub is_nothing : EflagChange → Option (List ℕ) → Bool
is_nothing change.Keep None = true
is_nothing _ _ = false

-- `bop update`, by the element's flag after it, if there is one
abbrev pub flag_updated : Option (List ℕ) → TreeContents → Elem → Option (Option (List ℕ)) → Outcome
flag_updated value tree old None = refused word.EflagMismatch
flag_updated value tree old (Some flag) =
    becomes (holding (with_element (record { bkey = old.bkey; eflag = flag; value = option_map_or (λ new. new) value old.value }) tree.elements) tree) (reply.Word word.Updated)

-- `bop update`, by the element that is there
abbrev pub found_updated : EflagChange → Option (List ℕ) → TreeContents → Option Elem → Outcome
found_updated change value tree None = refused word.NotFoundElement
found_updated change value tree (Some old) =
    if is_nothing change value then refused word.NothingToUpdate else flag_updated value tree old (flag_after change old.eflag)

abbrev pub tree_update : Bkey → EflagChange → Option (List ℕ) → Attrs → TreeContents → Outcome
tree_update bkey change value attrs tree = checked (is_of_kind bkey tree) (found_updated change value tree (found bkey tree.elements))

-- `bop incr` and `decr`, by the number that the element's value spells
abbrev pub number_counted : (up : Bool) → (delta : ℕ) → TreeContents → Elem → Option ℕ → Outcome
number_counted up delta tree old None = refused word.NotNumeric
number_counted up delta tree old (Some n) =
    becomes (holding (with_element (record old { value = decimal (counted up delta n) }) tree.elements) tree) (reply.Number (counted up delta n))

-- where the bkey is not there: `initial` is put, if there is one
abbrev pub first_counted : Bkey → Option ℕ → Option (List ℕ) → Attrs → TreeContents → Outcome
first_counted bkey None eflag attrs tree = refused word.NotFoundElement
first_counted bkey (Some n) eflag attrs tree =
    new_inserted (λ trimmed. reply.Number n) (record { bkey = bkey; eflag = eflag; value = decimal n }) attrs tree

-- by the element that is there
abbrev pub found_counted : (up : Bool) → Bkey → (delta : ℕ) → Option ℕ → Option (List ℕ) → Attrs → TreeContents → Option Elem → Outcome
found_counted up bkey delta initial eflag attrs tree None = first_counted bkey initial eflag attrs tree
found_counted up bkey delta initial eflag attrs tree (Some old) = number_counted up delta tree old (number_below (2 ^ 64) old.value)

-- with `initial` the check on kinds is that of an insert
abbrev pub may_count : Bkey → Option ℕ → Attrs → TreeContents → Bool
may_count bkey None attrs tree = is_of_kind bkey tree
may_count bkey (Some n) attrs tree = may_get bkey attrs tree

abbrev pub tree_arith : (up : Bool) → Bkey → (delta : ℕ) → (initial : Option ℕ) → (eflag : Option (List ℕ)) → Attrs → TreeContents → Outcome
tree_arith up bkey delta initial eflag attrs tree =
    checked (may_count bkey initial attrs tree) (found_counted up bkey delta initial eflag attrs tree (found bkey tree.elements))

-- POSITIONS

-- the elements in the order asked for
abbrev pub ordered : (desc : Bool) → List Elem → List Elem
ordered desc elements = if desc then reverse elements else elements

-- how many elements come before the one with this bkey in that order
abbrev pub number_before : (desc : Bool) → Bkey → List Elem → ℕ
number_before desc bkey elements = if desc then length elements - 1 - place_of bkey elements else place_of bkey elements

-- `bop position`
abbrev pub tree_position : Bkey → (desc : Bool) → Attrs → TreeContents → Outcome
tree_position bkey desc attrs tree = checked (is_of_kind bkey tree)
    (if is_there bkey tree.elements then stays (reply.Position (number_before desc bkey tree.elements)) else refused word.NotFoundElement)

-- the elements at these positions, in their direction, as far as there are any
abbrev pub at_positions : (first last : ℕ) → List Elem → List Elem
at_positions first last elements =
    if nat_lt last first then reverse (take (first + 1 - last) (drop last elements)) else take (last + 1 - first) (drop first elements)

-- elements are answered, where there are any
abbrev pub some_read : Attrs → List Elem → Outcome
some_read attrs [] = refused word.NotFoundElement
some_read attrs (first ∷ others) = stays (rows attrs (first ∷ others) tail.End)

-- `bop gbp`
abbrev pub tree_by_position : (desc : Bool) → (first last : ℕ) → Attrs → TreeContents → Outcome
tree_by_position desc first last attrs tree = some_read attrs (at_positions first last (ordered desc tree.elements))

-- an element with up to so many before it and so many behind it, by how many there are before it
abbrev pub neighbours : (count position : ℕ) → List Elem → List Elem
neighbours count position elements = take (min count position + 1 + count) (drop (position - count) elements)

-- `bop pwg`
abbrev pub around : (count position : ℕ) → Attrs → List Elem → TreeReply
around count position attrs elements = reply.Around position attrs.flags (min count position) (map tree_row (neighbours count position elements))

abbrev pub tree_around : Bkey → (desc : Bool) → (count : ℕ) → Attrs → TreeContents → Outcome
tree_around bkey desc count attrs tree = checked (is_of_kind bkey tree)
    (if is_there bkey tree.elements then stays (around count (number_before desc bkey tree.elements) attrs (ordered desc tree.elements))
    else refused word.NotFoundElement)
