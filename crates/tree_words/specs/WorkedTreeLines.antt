-- Worked lines of the commands on trees and on attributes that compute: the words behind a command's own, and what they spell.
use Rattle.std.specs.Prelude.{◌≡◌, ℕ, List, [], ◌∷◌, codes, refl, true, false, Option, Some, None, pos, negsuc}
use Rattle.hex.proofs.OnLiterals.{hex_on_literals}
use Rattle.arc_core.specs.declared.bkeys.Bkey.TheVariants.{Number, Bytes}
use Rattle.arc_core.specs.declared.bkeys.BkeyRange.{BkeyRange}
use Rattle.arc_core.specs.declared.coll_commands.CollCommand.TheVariants as coll_command
use Rattle.arc_core.specs.declared.coll_commands.CollHead.TheVariants as coll_head
use Rattle.arc_core.specs.declared.collections.Action.TheVariants as action
use Rattle.arc_core.specs.declared.collections.Kind.TheVariants as kind
use Rattle.arc_core.specs.declared.collections.Take.TheVariants as taking
use Rattle.arc_core.specs.declared.filters.BitOp.{BitOp}
use Rattle.arc_core.specs.declared.filters.BitOp.TheVariants.{And, Xor}
use Rattle.arc_core.specs.declared.filters.CompOp.{CompOp}
use Rattle.arc_core.specs.declared.filters.CompOp.TheVariants as comp
use Rattle.arc_core.specs.declared.filters.EflagChange.TheVariants as change
use Rattle.arc_core.specs.declared.filters.Filter.{Filter}
use Rattle.arc_core.specs.declared.requests.Answer.{Answer}
use Rattle.arc_core.specs.declared.requests.Answer.TheVariants as answer
use Rattle.arc_core.specs.declared.trees.TreeRead.{TreeRead}
use Rattle.arc_core.specs.BkeyText.{bkey_word}
use Rattle.arc_core.specs.CollectionGrammar.{create_word, drop_word, pipe_word, sent_word, take_word, unreadable_word}
use Rattle.arc_core.specs.HexText.{eflag_word, flag_words, short_bytes}
use Rattle.arc_core.specs.KeyValueGrammar.{noreply_word}
use Rattle.arc_core.specs.Rows.{row_read}
use Rattle.arc_core.specs.Words.{words, key_word, number_below, exptime_word}
use Rattle.tree_words.specs.declared.attr_commands.AttrCommand.TheVariants as attr_command
use Rattle.tree_words.specs.declared.commands.TreeCommand.{TreeCommand}
use Rattle.tree_words.specs.declared.commands.TreeCommand.TheVariants as command
use Rattle.tree_words.specs.declared.commands.TreeHead.{TreeHead}
use Rattle.tree_words.specs.AttrGrammar.{getattr_row, setattr_row}
use Rattle.tree_words.specs.AttrTexts.{pair_word}
use Rattle.tree_words.specs.TreeGrammar.{bkey_range_word, bitop_word, compop_word, fvalues_word, new_flag_word, sent_or_getrim_word, value_len_word}
use Rattle.tree_words.specs.TreeLines.{tree_create_row, tree_insert_row, tree_upsert_row, tree_update_row, tree_delete_row, tree_get_row, tree_count_row, tree_arith_row}

-- the tree `t`
abbrev tree : List ℕ
tree = codes "t"

-- a command whose answer is sent so
abbrev sent : TreeCommand → Answer → Option TreeHead
sent asked answer = Some (record { command = asked; answer = answer })

-- a command whose answer is a text of its own
abbrev plain : TreeCommand → Option TreeHead
plain asked = sent asked answer.Plain

-- the numbers from one to another
abbrev from_to : ℕ → ℕ → BkeyRange
from_to first last = record { first = Number first; last = Number last }

-- a filter without an operand
abbrev with_values : ℕ → CompOp → List (List ℕ) → Option Filter
with_values fwhere comp values = Some (record { fwhere = fwhere; bits = None; comp = comp; values = values })

-- a filter with an operand of one byte and a value of one byte
abbrev with_operand : ℕ → BitOp → ℕ → CompOp → ℕ → Option Filter
with_operand fwhere op operand comp value =
    Some (record { fwhere = fwhere; bits = Some (op, operand ∷ []); comp = comp; values = (value ∷ []) ∷ [] })

-- a read of a range
abbrev reading : BkeyRange → Option Filter → (offset count : ℕ) → TreeRead
reading range filter offset count = record { range = range; filter = filter; offset = offset; count = count }

-- a tree whose line names no action trims its smallest element
makes_a_tree : row_read tree_create_row (words (codes "t 7 -1 0")) ≡ Some (coll_head.Collection (coll_command.Create kind.Tree tree (record { flags = 7; exptime = negsuc 0; maxcount = 0; action = action.SmallestTrim; readable = true })) answer.Plain)
unfolding tree_create_row key_word number_below exptime_word unreadable_word noreply_word
makes_a_tree = refl

makes_a_silent_tree : row_read tree_create_row (words (codes "t 0 0 5 largest_silent_trim unreadable noreply")) ≡ Some (coll_head.Collection (coll_command.Create kind.Tree tree (record { flags = 0; exptime = pos 0; maxcount = 5; action = action.LargestSilentTrim; readable = false })) answer.NoReply)
unfolding tree_create_row key_word number_below exptime_word unreadable_word noreply_word
makes_a_silent_tree = refl

-- an action of lists
refuses_an_action : row_read tree_create_row (words (codes "t 0 0 0 head_trim")) ≡ None
unfolding tree_create_row key_word number_below exptime_word unreadable_word noreply_word
refuses_an_action = refl

-- an insert without a flag, and one with all that may be left out
inserts : row_read tree_insert_row (words (codes "t 5 3")) ≡ plain (command.TreeInsert tree (Number 5) None 3 None false)
unfolding tree_insert_row key_word number_below exptime_word create_word unreadable_word sent_or_getrim_word sent_word pipe_word bkey_word eflag_word short_bytes hex_on_literals
inserts = refl

inserts_with_all : row_read tree_insert_row (words (codes "t 0x0A 0x01fF 3 create 1 2 3 error pipe")) ≡ sent (command.TreeInsert tree (Bytes (10 ∷ [])) (Some (1 ∷ 255 ∷ [])) 3 (Some (record { flags = 1; exptime = pos 2; maxcount = 3; action = action.Error; readable = true })) false) answer.Pipe
unfolding tree_insert_row key_word number_below exptime_word create_word unreadable_word sent_or_getrim_word sent_word pipe_word bkey_word eflag_word short_bytes hex_on_literals
inserts_with_all = refl

-- the trimmed elements are answered
inserts_and_answers_trimmed : row_read tree_insert_row (words (codes "t 5 3 getrim")) ≡ plain (command.TreeInsert tree (Number 5) None 3 None true)
unfolding tree_insert_row key_word number_below exptime_word create_word unreadable_word sent_or_getrim_word sent_word pipe_word bkey_word eflag_word short_bytes hex_on_literals
inserts_and_answers_trimmed = refl

-- two flags, and two ways to be answered
refuses_two_flags : row_read tree_insert_row (words (codes "t 5 0x01 0x02 3")) ≡ None
unfolding tree_insert_row key_word number_below exptime_word create_word unreadable_word sent_or_getrim_word sent_word pipe_word bkey_word eflag_word short_bytes hex_on_literals
refuses_two_flags = refl

refuses_two_answers : row_read tree_insert_row (words (codes "t 5 3 getrim noreply")) ≡ None
unfolding tree_insert_row key_word number_below exptime_word create_word unreadable_word sent_or_getrim_word sent_word pipe_word bkey_word eflag_word short_bytes hex_on_literals
refuses_two_answers = refl

upserts : row_read tree_upsert_row (words (codes "t 5 0x01 3 noreply")) ≡ sent (command.TreeUpsert tree (Number 5) (Some (1 ∷ [])) 3 None false) answer.NoReply
unfolding tree_upsert_row key_word number_below exptime_word create_word unreadable_word sent_or_getrim_word sent_word pipe_word bkey_word eflag_word short_bytes hex_on_literals
upserts = refl

-- one bkey is a range from it to itself
reads_one : row_read tree_get_row (words (codes "t 5")) ≡ plain (command.TreeGet tree (reading (from_to 5 5) None 0 0) taking.Keep)
unfolding tree_get_row key_word number_below bkey_range_word bitop_word compop_word fvalues_word flag_words take_word bkey_word eflag_word short_bytes hex_on_literals
reads_one = refl

-- one number is a count, of two the first is an offset
reads_so_many : row_read tree_get_row (words (codes "t 9..1 3 drop")) ≡ plain (command.TreeGet tree (reading (from_to 9 1) None 0 3) taking.Drop)
unfolding tree_get_row key_word number_below bkey_range_word bitop_word compop_word fvalues_word flag_words take_word bkey_word eflag_word short_bytes hex_on_literals
reads_so_many = refl

reads_behind_an_offset : row_read tree_get_row (words (codes "t 1..9 3 4")) ≡ plain (command.TreeGet tree (reading (from_to 1 9) None 3 4) taking.Keep)
unfolding tree_get_row key_word number_below bkey_range_word bitop_word compop_word fvalues_word flag_words take_word bkey_word eflag_word short_bytes hex_on_literals
reads_behind_an_offset = refl

refuses_three_numbers : row_read tree_get_row (words (codes "t 1..9 3 4 5")) ≡ None
unfolding tree_get_row key_word number_below bkey_range_word bitop_word compop_word fvalues_word flag_words take_word bkey_word eflag_word short_bytes hex_on_literals
refuses_three_numbers = refl

-- a number before a comparison begins a filter
reads_by_values : row_read tree_get_row (words (codes "t 1..9 30 EQ 0x01,0x02 3 delete")) ≡ plain (command.TreeGet tree (reading (from_to 1 9) (with_values 30 comp.Eq ((1 ∷ []) ∷ (2 ∷ []) ∷ [])) 0 3) taking.Delete)
unfolding tree_get_row key_word number_below bkey_range_word bitop_word compop_word fvalues_word flag_words take_word bkey_word eflag_word short_bytes hex_on_literals
reads_by_values = refl

-- and one before an operand
reads_by_an_operand : row_read tree_get_row (words (codes "t 1..9 2 & 0xfF GT 0x01 10 20")) ≡ plain (command.TreeGet tree (reading (from_to 1 9) (with_operand 2 And 255 comp.Gt 1) 10 20) taking.Keep)
unfolding tree_get_row key_word number_below bkey_range_word bitop_word compop_word fvalues_word flag_words take_word bkey_word eflag_word short_bytes hex_on_literals
reads_by_an_operand = refl

-- an operand is as long as a value, and order has one value
refuses_a_long_operand : row_read tree_get_row (words (codes "t 1..9 0 & 0xffff EQ 0x01")) ≡ None
unfolding tree_get_row key_word number_below bkey_range_word bitop_word compop_word fvalues_word flag_words take_word bkey_word eflag_word short_bytes hex_on_literals
refuses_a_long_operand = refl

refuses_two_values : row_read tree_get_row (words (codes "t 1..9 0 LT 0x01,0x02")) ≡ None
unfolding tree_get_row key_word number_below bkey_range_word bitop_word compop_word fvalues_word flag_words take_word bkey_word eflag_word short_bytes hex_on_literals
refuses_two_values = refl

-- a flag has 31 bytes at most
refuses_place_31 : row_read tree_get_row (words (codes "t 1..9 31 EQ 0x01")) ≡ None
unfolding tree_get_row key_word number_below bkey_range_word bitop_word compop_word fvalues_word flag_words take_word bkey_word eflag_word short_bytes hex_on_literals
refuses_place_31 = refl

-- both ends of a range are of one kind, with two dots between them
refuses_two_kinds : row_read tree_get_row (words (codes "t 1..0x09")) ≡ None
unfolding tree_get_row key_word number_below bkey_range_word bitop_word compop_word fvalues_word flag_words take_word bkey_word eflag_word short_bytes hex_on_literals
refuses_two_kinds = refl

refuses_three_dots : row_read tree_get_row (words (codes "t 1...9")) ≡ None
unfolding tree_get_row key_word number_below bkey_range_word bitop_word compop_word fvalues_word flag_words take_word bkey_word eflag_word short_bytes hex_on_literals
refuses_three_dots = refl

-- a removal has no offset
deletes_by_values : row_read tree_delete_row (words (codes "t 1..9 0 NE 0x01 7 drop noreply")) ≡ sent (command.TreeDelete tree (reading (from_to 1 9) (with_values 0 comp.Ne ((1 ∷ []) ∷ [])) 0 7) true) answer.NoReply
unfolding tree_delete_row key_word number_below bkey_range_word bitop_word compop_word fvalues_word flag_words drop_word sent_word pipe_word bkey_word eflag_word short_bytes hex_on_literals
deletes_by_values = refl

refuses_an_offset : row_read tree_delete_row (words (codes "t 1..9 3 4")) ≡ None
unfolding tree_delete_row key_word number_below bkey_range_word bitop_word compop_word fvalues_word flag_words drop_word sent_word pipe_word bkey_word eflag_word short_bytes hex_on_literals
refuses_an_offset = refl

-- a count has neither
counts_by_values : row_read tree_count_row (words (codes "t 1..9 0 LE 0x0102")) ≡ plain (command.TreeCount tree (from_to 1 9) (with_values 0 comp.Le ((1 ∷ 2 ∷ []) ∷ [])))
unfolding tree_count_row key_word number_below bkey_range_word bitop_word compop_word fvalues_word flag_words bkey_word eflag_word short_bytes hex_on_literals
counts_by_values = refl

refuses_a_count : row_read tree_count_row (words (codes "t 1..9 5")) ≡ None
unfolding tree_count_row key_word number_below bkey_range_word bitop_word compop_word fvalues_word flag_words bkey_word eflag_word short_bytes hex_on_literals
refuses_a_count = refl

-- a new value; a value of no bytes; and one whose flag is removed by `0`
updates_a_value : row_read tree_update_row (words (codes "t 5 3")) ≡ plain (command.TreeUpdate tree (Number 5) change.Keep (Some 3))
unfolding tree_update_row key_word number_below bitop_word new_flag_word value_len_word sent_word pipe_word bkey_word eflag_word short_bytes hex_on_literals
updates_a_value = refl

updates_to_nothing : row_read tree_update_row (words (codes "t 5 0")) ≡ plain (command.TreeUpdate tree (Number 5) change.Keep (Some 0))
unfolding tree_update_row key_word number_below bitop_word new_flag_word value_len_word sent_word pipe_word bkey_word eflag_word short_bytes hex_on_literals
updates_to_nothing = refl

removes_a_flag : row_read tree_update_row (words (codes "t 5 0 3")) ≡ plain (command.TreeUpdate tree (Number 5) change.Remove (Some 3))
unfolding tree_update_row key_word number_below bitop_word new_flag_word value_len_word sent_word pipe_word bkey_word eflag_word short_bytes hex_on_literals
removes_a_flag = refl

-- `-1` says that the value stays
puts_a_flag : row_read tree_update_row (words (codes "t 5 0x01 -1")) ≡ plain (command.TreeUpdate tree (Number 5) (change.Put (1 ∷ [])) None)
unfolding tree_update_row key_word number_below bitop_word new_flag_word value_len_word sent_word pipe_word bkey_word eflag_word short_bytes hex_on_literals
puts_a_flag = refl

combines_a_flag : row_read tree_update_row (words (codes "t 5 0 ^ 0x0f -1 pipe")) ≡ sent (command.TreeUpdate tree (Number 5) (change.Combine 0 Xor (15 ∷ [])) None) answer.Pipe
unfolding tree_update_row key_word number_below bitop_word new_flag_word value_len_word sent_word pipe_word bkey_word eflag_word short_bytes hex_on_literals
combines_a_flag = refl

updates_nothing : row_read tree_update_row (words (codes "t 5 -1")) ≡ plain (command.TreeUpdate tree (Number 5) change.Keep None)
unfolding tree_update_row key_word number_below bitop_word new_flag_word value_len_word sent_word pipe_word bkey_word eflag_word short_bytes hex_on_literals
updates_nothing = refl

-- other spellings of these words
refuses_two_zeros : row_read tree_update_row (words (codes "t 5 00 3")) ≡ None
unfolding tree_update_row key_word number_below bitop_word new_flag_word value_len_word sent_word pipe_word bkey_word eflag_word short_bytes hex_on_literals
refuses_two_zeros = refl

refuses_another_minus : row_read tree_update_row (words (codes "t 5 -01")) ≡ None
unfolding tree_update_row key_word number_below bitop_word new_flag_word value_len_word sent_word pipe_word bkey_word eflag_word short_bytes hex_on_literals
refuses_another_minus = refl

-- an initial number, and a flag with it alone
counts_up : row_read (tree_arith_row true) (words (codes "t 5 1")) ≡ plain (command.TreeArith true tree (Number 5) 1 None None)
unfolding tree_arith_row key_word number_below sent_word pipe_word bkey_word eflag_word short_bytes hex_on_literals
counts_up = refl

counts_up_from : row_read (tree_arith_row true) (words (codes "t 5 1 18446744073709551615 0x01 noreply")) ≡ sent (command.TreeArith true tree (Number 5) 1 (Some 18446744073709551615) (Some (1 ∷ []))) answer.NoReply
unfolding tree_arith_row key_word number_below sent_word pipe_word bkey_word eflag_word short_bytes hex_on_literals
counts_up_from = refl

refuses_a_lone_flag : row_read (tree_arith_row true) (words (codes "t 5 1 0x01")) ≡ None
unfolding tree_arith_row key_word number_below sent_word pipe_word bkey_word eflag_word short_bytes hex_on_literals
refuses_a_lone_flag = refl

-- names are any words, and there may be none
reads_names : row_read getattr_row (words (codes "k maxcount any")) ≡ Some (attr_command.GetAttr (codes "k") (codes "maxcount" ∷ codes "any" ∷ []))
unfolding getattr_row key_word
reads_names = refl

reads_no_names : row_read getattr_row (words (codes "k")) ≡ Some (attr_command.GetAttr (codes "k") [])
unfolding getattr_row key_word
reads_no_names = refl

-- pairs have a `=`, the first of which counts, and there is one at least
reads_pairs : row_read setattr_row (words (codes "k maxcount=5 a==b")) ≡ Some (attr_command.SetAttr (codes "k") (codes "maxcount=5" ∷ codes "a==b" ∷ []))
unfolding setattr_row key_word
reads_pairs = refl

splits_at_the_first : pair_word (codes "a==b") ≡ Some (codes "a", codes "=b")
splits_at_the_first = refl

refuses_a_lone_word : row_read setattr_row (words (codes "k maxcount=5 a")) ≡ None
unfolding setattr_row key_word
refuses_a_lone_word = refl

refuses_no_pairs : row_read setattr_row (words (codes "k")) ≡ None
unfolding setattr_row key_word
refuses_no_pairs = refl
