-- The ledger of a tree: what was put into it and not taken, whatever it trimmed. (This server's own.)
--
-- A client that is told nothing of a trim holds that the tree has all of this. The laws say when a read lets it.
use Rattle.std.specs.Prelude.{ℕ, Bool, true, false, not, if◌then◌else◌, List, [], ◌∷◌, decimal, Option, Some, None}
use Rattle.std.specs.Option.{option_map, option_map_or}
use Rattle.arc_core.specs.declared.attributes.Attrs.{Attrs}
use Rattle.arc_core.specs.declared.bkeys.Bkey.{Bkey}
use Rattle.arc_core.specs.declared.collections.Action.{Action}
use Rattle.arc_core.specs.declared.collections.Action.TheVariants as action
use Rattle.arc_core.specs.declared.filters.EflagChange.{EflagChange}
use Rattle.arc_core.specs.declared.trees.Elem.{Elem}
use Rattle.arc_core.specs.Filter.{flag_after}
use Rattle.arc_core.specs.TreeContents.{with_element}
use Rattle.arc_core.specs.TreeReading.{chosen}
use Rattle.tree_coll.specs.declared.replies.TreeReply.{TreeReply}
use Rattle.tree_coll.specs.declared.replies.TreeReply.TheVariants as reply
use Rattle.tree_coll.specs.declared.replies.TreeWord.TheVariants as word
use Rattle.tree_coll.specs.TreeOutcomes.{Outcome, TreeContents, becomes, empty_tree, found, goes, stays, without}
use Rattle.tree_history.specs.TreeEntries.{TreeEntry, TreeRow, arith, asked, delete, get, insert, made, outcome_of, update, upsert}

-- A tree, and the elements that were put into it and not taken, by rising bkeys.
pub record Ledger : Type 0 where
  pub attrs : Attrs
  pub contents : TreeContents
  pub kept : List Elem

-- ACTIONS

-- whether an action trims and tells nobody
abbrev pub is_silent : Action → Bool
is_silent action.SmallestSilentTrim = true
is_silent action.LargestSilentTrim = true
is_silent _ = false

-- whether an action moves an edge over what it leaves out
abbrev pub announces : Action → Bool
announces action.SmallestTrim = true
announces action.LargestTrim = true
announces _ = false

-- whether the tree's action was never a silent one: it has the one that it was made with
abbrev pub is_never_silent : Ledger → Bool
is_never_silent ledger = not (is_silent ledger.attrs.action)

-- WHAT IS PUT

-- an element that was refused at an end counts as put where the edge moved over it
abbrev pub refused_element : Action → Elem → Option Elem
refused_element action element = if announces action then Some element else None

-- by the answer to an insert that changed the tree
abbrev pub stored_element : Elem → Action → TreeReply → Option Elem
stored_element element action (reply.Word word.OutOfRange) = refused_element action element
stored_element element action _ = Some element

-- by the element that was updated
abbrev pub updated_element : EflagChange → Option (List ℕ) → Option Elem → Option Elem
updated_element change value None = None
updated_element change value (Some old) = option_map (λ flag. record { bkey = old.bkey; eflag = flag; value = option_map_or (λ new. new) value old.value }) (flag_after change old.eflag)

-- an element with a number as value
abbrev pub number_element : Bkey → Option (List ℕ) → ℕ → Elem
number_element bkey eflag n = record { bkey = bkey; eflag = eflag; value = decimal n }

-- by the element that was counted, if there was one, and the answer
abbrev pub counted_element : Bkey → Option ℕ → Option (List ℕ) → Action → Option Elem → TreeReply → Option Elem
counted_element bkey initial eflag action (Some old) (reply.Number n) = Some (number_element old.bkey old.eflag n)
counted_element bkey initial eflag action None (reply.Number n) = Some (number_element bkey eflag n)
counted_element bkey (Some n) eflag action None (reply.Word word.OutOfRange) = refused_element action (number_element bkey eflag n)
counted_element bkey initial eflag action old _ = None

-- THE LEDGER

-- an element takes the place of one with its bkey, or its own
abbrev pub with_put : Option Elem → List Elem → List Elem
with_put None kept = kept
with_put (Some element) kept = with_element element kept

-- what is kept behind a row that changed the tree: what it put takes its place, what it deleted or took goes, and what it
-- trimmed stays
abbrev pub kept_after : TreeRow → TreeReply → Ledger → List Elem
kept_after (insert element getrim) answer old = with_put (stored_element element old.attrs.action answer) old.kept
kept_after (upsert element getrim) answer old = with_put (stored_element element old.attrs.action answer) old.kept
kept_after (update bkey change value) answer old = with_put (updated_element change value (found bkey old.contents.elements)) old.kept
kept_after (arith up bkey delta initial eflag) answer old =
    with_put (counted_element bkey initial eflag old.attrs.action (found bkey old.contents.elements) answer) old.kept
kept_after (delete read drop_empty) answer old = without (chosen read old.contents.elements) old.kept
kept_after (get read take) answer old = without (chosen read old.contents.elements) old.kept
kept_after _ answer old = old.kept

-- the ledger behind a row that came to this
abbrev pub after_row : TreeRow → Ledger → Outcome → Option Ledger
after_row row old (stays answer) = Some old
after_row row old (becomes contents answer) = Some (record { attrs = old.attrs; contents = contents; kept = kept_after row answer old })
after_row row old (goes answer) = None

-- the ledger of a tree that is made
abbrev pub opened : Attrs → Ledger
opened attrs = record { attrs = attrs; contents = empty_tree; kept = [] }

-- the ledger behind an entry, where there is a tree then
abbrev pub after_entry : TreeEntry → Option Ledger → Option Ledger
after_entry (made attrs) old = Some (opened attrs)
after_entry (asked row) None = None
after_entry (asked row) (Some old) = after_row row old (outcome_of row old.attrs old.contents)

-- behind a list of them
abbrev pub ledger_after : List TreeEntry → Option Ledger → Option Ledger
ledger_after [] ledger = ledger
ledger_after (entry ∷ entries) ledger = ledger_after entries (after_entry entry ledger)
