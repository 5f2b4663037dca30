-- What a request wants done with a tree, as the code has it: decided first, so that room can be asked for, and then done.
use Rattle.std.specs.Prelude.{◌≡◌, ◌≢◌, ℕ, ◌+◌, ◌-◌, ◌≤◌, Bool, true, false, not, List, ◌++◌, length, take, drop, filter, slice_range, Option}
use Rattle.std.specs.List.{remove_range}
use Rattle.arc_core.specs.declared.attributes.Attrs.{Attrs}
use Rattle.arc_core.specs.declared.bkeys.Bkey.{Bkey}
use Rattle.arc_core.specs.declared.collections.Action.{Action}
use Rattle.arc_core.specs.declared.collections.Action.TheVariants as action
use Rattle.arc_core.specs.declared.filters.Filter.{Filter}
use Rattle.arc_core.specs.declared.rows.Tail.TheVariants as tail
use Rattle.arc_core.specs.declared.trees.Edges.{Edges}
use Rattle.arc_core.specs.declared.trees.Elem.{Elem}
use Rattle.arc_core.specs.declared.trees.TreeRead.{TreeRead}
use Rattle.arc_core.specs.BkeyOrder.{is_down}
use Rattle.arc_core.specs.Settling.{edge_above, edge_below}
use Rattle.arc_core.specs.TreeContents.{IsRising, with_element}
use Rattle.arc_core.specs.TreeReading.{chosen, is_selected}
use Rattle.btree_nodes.specs.Ways.{FitsKind}
use Rattle.btree_scan.specs.Directions.{facing}
use Rattle.btree_scan.specs.Positions.{position_in}
use Rattle.btree_scan.specs.declared.positions.Position.TheVariants.{At}
use Rattle.tree_coll.specs.declared.inserts.Settlement.{Settlement}
use Rattle.tree_coll.specs.declared.inserts.Settlement.TheVariants as settlement
use Rattle.tree_coll.specs.declared.planned.TreeChange.{TreeChange}
use Rattle.tree_coll.specs.declared.planned.TreeChange.TheVariants as change
use Rattle.tree_coll.specs.declared.planned.TreePlanned.{TreePlanned}
use Rattle.tree_coll.specs.declared.planned.TreePlanned.TheVariants as planned
use Rattle.tree_coll.specs.declared.planned.TreeRemoval.{TreeRemoval}
use Rattle.tree_coll.specs.declared.planned.TreeRemoved.{TreeRemoved}
use Rattle.tree_coll.specs.declared.planned.TreeRemoved.TheVariants as removed
use Rattle.tree_coll.specs.declared.replies.TreeReply.{TreeReply}
use Rattle.tree_coll.specs.declared.replies.TreeReply.TheVariants as reply
use Rattle.tree_coll.specs.declared.replies.TreeWord.TheVariants as word
use Rattle.tree_coll.specs.TreeOutcomes.{Outcome, TreeContents, stays, becomes, holding, is_there, refused}
use Rattle.tree_coll.specs.TreeRows.{left_with, new_inserted}

-- REMOVALS

-- the elements without those from one place to before another that pass a test
abbrev pub without_between : (Elem → Bool) → (low high : ℕ) → List Elem → List Elem
without_between test low high elements = take low elements ++ filter (λ element. not (test element)) (slice_range elements low high) ++ drop high elements

-- the elements that a removal leaves
abbrev pub left_by : TreeRemoval → List Elem → List Elem
left_by removal elements = without_between (is_selected removal.filter.now) removal.low removal.high elements

-- The places of a removal are there.
pub record FitsOut (removal : TreeRemoval) (elements : List Elem) : Type 0 where
  pub order : removal.low ≤ removal.high
  pub within : removal.high ≤ length elements

-- what is answered to a removal with which the tree has gone, or not
abbrev pub reply_of : TreeRemoved → (dropped : Bool) → TreeReply
reply_of removed.Told false = reply.Word word.Deleted
reply_of removed.Told true = reply.Word word.DeletedDropped
reply_of (removed.Read flags rows) false = reply.Rows flags rows tail.Deleted
reply_of (removed.Read flags rows) true = reply.Rows flags rows tail.DeletedDropped

-- CHANGES

-- what a tree holds after a change that was decided
abbrev pub changed : TreeChange → TreeContents → TreeContents
changed (change.Store low high edges element) tree = record { elements = with_element element (remove_range tree.elements low high); edges = edges }
changed (change.Replace place element) tree = holding (with_element element tree.elements) tree
changed (change.MoveEdges edges) tree = record tree { edges = edges }

-- A bkey is not there, and it is of the kind of those that are.
pub record IsNewFor (bkey : Bkey) (elements : List Elem) : Type 0 where
  pub rising : IsRising elements
  pub absent : is_there bkey elements ≡ false
  pub kind : FitsKind bkey elements

-- A new element is new, and what is trimmed for it is there; another element has the bkey of the one in its place.
abbrev pub SuitsChange : TreeChange → List Elem → Type 0
SuitsChange (change.Store low high edges element) elements = IsNewFor element.bkey elements × (low ≤ high) × (high ≤ length elements)
SuitsChange (change.Replace place element) elements = IsRising elements × (At place ≡ position_in element.bkey elements)
SuitsChange (change.MoveEdges edges) elements = Unit {0}

-- for how many further elements a change asks room
abbrev pub room_asked : TreeChange → ℕ
room_asked (change.Store low high edges element) = 1
room_asked _ = 0

-- What an insert of an element comes to whose bkey is not there, whatever is answered to what it trims.
abbrev pub IsSettled : Elem → Attrs → TreeContents → Settlement → Type 0
IsSettled element attrs tree (settlement.Stored low high edges) =
    (answer : List Elem → TreeReply) → new_inserted answer element attrs tree ≡ becomes (changed (change.Store low high edges element) tree) (answer (slice_range tree.elements low high))
IsSettled element attrs tree (settlement.Refused edges) =
    (answer : List Elem → TreeReply) → new_inserted answer element attrs tree ≡ becomes (changed (change.MoveEdges edges) tree) (reply.Word word.OutOfRange)
IsSettled element attrs tree settlement.Full = (answer : List Elem → TreeReply) → new_inserted answer element attrs tree ≡ refused word.Overflowed

-- What is trimmed is there, and makes room for the new element in a tree that keeps its maxcount.
abbrev pub FitsSettled : List Elem → (maxcount : ℕ) → Settlement → Type 0
FitsSettled elements maxcount (settlement.Stored low high edges) =
    (low ≤ high) × (high ≤ length elements) × (length elements ≤ maxcount → length elements + 1 ≤ maxcount + (high - low))
FitsSettled elements maxcount _ = Unit {0}

-- the edges after a trim from one bkey to another: an action that announces its trims moves its edge over them
abbrev pub moved_over : Action → (first last : Bkey) → Edges → Edges
moved_over action.SmallestTrim first last edges = record { low = edge_above edges.low last; high = edges.high }
moved_over action.LargestTrim first last edges = record { low = edges.low; high = edge_below edges.high first }
moved_over _ first last edges = edges

-- PLANS

-- What is planned is this outcome of a row with what the tree holds.
abbrev pub Plans : Outcome → TreeContents → TreePlanned → Type 0
Plans outcome tree (planned.Stays answer) = outcome ≡ stays answer
Plans outcome tree (planned.Changes change answer) = outcome ≡ becomes (changed change tree) answer
Plans outcome tree (planned.Removes removal drop_empty answer) =
    outcome ≡ left_with drop_empty tree (left_by removal tree.elements) (reply_of answer false) (reply_of answer true)

-- The change or removal that is planned suits the tree.
abbrev pub SuitsPlan : TreeContents → TreePlanned → Type 0
SuitsPlan tree (planned.Changes change answer) = SuitsChange change tree.elements
SuitsPlan tree (planned.Removes removal drop_empty answer) = FitsOut removal tree.elements
SuitsPlan tree _ = Unit {0}

-- A tree that keeps its maxcount keeps it with the change that is planned.
abbrev pub KeepsCount : (maxcount : ℕ) → TreeContents → TreePlanned → Type 0
KeepsCount maxcount tree (planned.Changes change answer) = length tree.elements ≤ maxcount → length (changed change tree).elements ≤ maxcount
KeepsCount maxcount tree _ = Unit {0}

-- Nothing is to be taken out.
abbrev pub TakesNothingOut : TreePlanned → Type 0
TakesNothingOut (planned.Removes removal drop_empty answer) = ⊥
TakesNothingOut _ = Unit {0}

-- Nothing is to be put in, so that no memory is taken.
abbrev pub TakesNoMemory : TreePlanned → Type 0
TakesNoMemory (planned.Changes change answer) = ⊥
TakesNoMemory _ = Unit {0}

-- CHOICES

-- Of the elements of a range, in its direction, those that a read answers are the selected ones of a part, which is empty
-- where it answers none.
pub record IsPart (asked : Option Filter) (offset limit : ℕ) (inside : List Elem) (before passed : ℕ) : Type 0 where
  pub within : before + passed ≤ length inside
  pub chosen_are : filter (is_selected asked) (take passed (drop before inside)) ≡ take limit (drop offset (filter (is_selected asked) inside))
  pub some : 1 ≤ passed → 1 ≤ length (filter (is_selected asked) (take passed (drop before inside)))

-- The elements that a read chooses are the selected ones from one place to before another, which are the same where it
-- chooses none.
pub record AreChosen (read : TreeRead) (elements : List Elem) (low high : ℕ) : Type 0 where
  pub rising : IsRising elements
  pub order : low ≤ high
  pub within : high ≤ length elements
  pub chosen_are : chosen read elements ≡ facing (is_down read.range) (filter (is_selected read.filter) (slice_range elements low high))
  pub some : low ≢ high → 1 ≤ length (chosen read elements)
