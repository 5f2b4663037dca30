-- Worked examples of what is kept.
use Rattle.std.specs.Prelude.{◌≡◌, ℕ, true, false, List, [], ◌∷◌, ◌++◌, codes, Option, Some, None, refl}
use Rattle.std.specs.Option.{option_map, option_map_or}
use Rattle.arc_core.specs.declared.attributes.Attrs.{Attrs}
use Rattle.arc_core.specs.declared.bkeys.Bkey.TheVariants.{Number}
use Rattle.arc_core.specs.declared.collections.Action.{Action}
use Rattle.arc_core.specs.declared.collections.Action.TheVariants as action
use Rattle.arc_core.specs.declared.collections.Take.TheVariants as taking
use Rattle.arc_core.specs.declared.items.Expiry.TheVariants as expiry
use Rattle.arc_core.specs.declared.rows.Tail.TheVariants as tail
use Rattle.arc_core.specs.declared.trees.Edges.{Edges}
use Rattle.arc_core.specs.declared.trees.Elem.{Elem}
use Rattle.arc_core.specs.declared.trees.TreeRead.{TreeRead}
use Rattle.arc_core.specs.TreeReading.{chosen}
use Rattle.tree_coll.specs.declared.replies.TreeReply.TheVariants as reply
use Rattle.tree_coll.specs.declared.replies.TreeWord.TheVariants as word
use Rattle.tree_coll.specs.TreeOutcomes.{Outcome, refused, stays, tree_row}
use Rattle.tree_history.specs.Kept.{ledger_after}
use Rattle.tree_history.specs.TreeEntries.{TreeEntry, asked, delete, get, insert, made, outcome_of}

-- attributes with this maxcount, maxbkeyrange and action
abbrev limited : (maxcount maxbkeyrange : ℕ) → Action → Attrs
limited maxcount maxbkeyrange action = record { flags = 0; expiry = expiry.Never; maxcount = maxcount; action = action; readable = true; maxbkeyrange = maxbkeyrange }

abbrev elem : ℕ → Elem
elem number = record { bkey = Number number; eflag = None; value = codes "v" }

abbrev put : ℕ → TreeEntry
put number = asked (insert (elem number) false)

-- the read of a range, for all and for so many elements
abbrev from_to : (first last count : ℕ) → TreeRead
from_to first last count = record { range = record { first = Number first; last = Number last }; filter = None; offset = 0; count = count }

abbrev kept_of : List TreeEntry → List Elem
kept_of entries = option_map_or (λ ledger. ledger.kept) (ledger_after entries None) []

abbrev elements_of : List TreeEntry → List Elem
elements_of entries = option_map_or (λ ledger. ledger.contents.elements) (ledger_after entries None) []

abbrev edges_of : List TreeEntry → Option Edges
edges_of entries = option_map (λ ledger. ledger.contents.edges) (ledger_after entries None)

-- what a read is answered behind these entries
abbrev answer_of : List TreeEntry → TreeRead → Outcome
answer_of entries read = option_map_or (λ ledger. outcome_of (get read taking.Keep) ledger.attrs ledger.contents) (ledger_after entries None) (refused word.NotFoundElement)

-- TRIMS

-- a tree of three elements at most, into which 1 to 4 were put
abbrev four_put : List TreeEntry
four_put = made (limited 3 0 action.SmallestTrim) ∷ put 1 ∷ put 2 ∷ put 3 ∷ put 4 ∷ []

trims_take_nothing : kept_of four_put ≡ elem 1 ∷ elem 2 ∷ elem 3 ∷ elem 4 ∷ []
trims_take_nothing = refl

trimmed_is_gone : elements_of four_put ≡ elem 2 ∷ elem 3 ∷ elem 4 ∷ []
trimmed_is_gone = refl

-- a read that reaches what is missing is told
zone_is_told : answer_of four_put (from_to 4 1 0) ≡ stays (reply.Rows 0 (tree_row (elem 4) ∷ tree_row (elem 3) ∷ tree_row (elem 2) ∷ []) tail.Trimmed)
zone_is_told = refl

-- and one that has its count before answers all that is kept there
end_is_whole : answer_of four_put (from_to 4 1 2) ≡ stays (reply.Rows 0 (tree_row (elem 4) ∷ tree_row (elem 3) ∷ []) tail.End)
end_is_whole = refl

two_are_chosen : chosen (from_to 4 1 2) (kept_of four_put) ≡ elem 4 ∷ elem 3 ∷ []
two_are_chosen = refl

-- after a silent trim nobody is told: its trees are outside the laws
silent_is_not_told : answer_of (made (limited 1 0 action.SmallestSilentTrim) ∷ put 1 ∷ put 2 ∷ []) (from_to 0 5 0) ≡ stays (reply.Rows 0 (tree_row (elem 2) ∷ []) tail.End)
silent_is_not_told = refl

-- REFUSALS

-- an insert that is refused at an end moves the edge over its bkey, and counts as put: no read may say that nothing is there
refused_is_kept : kept_of (four_put ++ put 0 ∷ []) ≡ elem 0 ∷ elem 1 ∷ elem 2 ∷ elem 3 ∷ elem 4 ∷ []
refused_is_kept = refl

refused_at_high : kept_of (made (limited 1 0 action.LargestTrim) ∷ put 3 ∷ put 5 ∷ []) ≡ elem 3 ∷ elem 5 ∷ []
refused_at_high = refl

refused_moves_edge : edges_of (made (limited 1 0 action.LargestTrim) ∷ put 3 ∷ put 5 ∷ []) ≡ Some (record { low = None; high = Some (Number 5) })
refused_moves_edge = refl

-- where no edge moves it puts nothing
refused_puts_nothing : kept_of (made (limited 4000 2 action.Error) ∷ put 1 ∷ put 9 ∷ []) ≡ elem 1 ∷ []
refused_puts_nothing = refl

full_puts_nothing : kept_of (made (limited 1 0 action.Error) ∷ put 1 ∷ put 2 ∷ []) ≡ elem 1 ∷ []
full_puts_nothing = refl

-- TAKING

-- a deletion takes what it deletes of the tree: the first in the range that is there, not the first that is kept
deletion_takes : kept_of (four_put ++ asked (delete (from_to 1 4 1) false) ∷ []) ≡ elem 1 ∷ elem 3 ∷ elem 4 ∷ []
deletion_takes = refl

read_takes : kept_of (four_put ++ asked (get (from_to 4 3 0) taking.Delete) ∷ []) ≡ elem 1 ∷ elem 2 ∷ []
read_takes = refl

-- a tree that goes leaves nothing
drop_ends_the_ledger : ledger_after (four_put ++ asked (get (from_to 0 9 0) taking.Drop) ∷ []) None ≡ None
drop_ends_the_ledger = refl
