-- Worked lines of commands on collections that compute.
use Rattle.std.specs.Prelude.{◌≡◌, ℕ, ℤ, codes, refl, true, false, None, Some, pos, negsuc}
use Rattle.arc_core.specs.declared.attributes.CreateArgs.{CreateArgs}
use Rattle.arc_core.specs.declared.coll_commands.CollCommand.TheVariants as command
use Rattle.arc_core.specs.declared.coll_commands.CollHead.TheVariants as coll_head
use Rattle.arc_core.specs.declared.collections.Action.{Action}
use Rattle.arc_core.specs.declared.collections.Action.TheVariants as action
use Rattle.arc_core.specs.declared.collections.Kind.TheVariants as kind
use Rattle.arc_core.specs.declared.collections.Take.TheVariants as taking
use Rattle.arc_core.specs.declared.outside.Need.TheVariants as need
use Rattle.arc_core.specs.declared.requests.Answer.TheVariants as answer
use Rattle.arc_core.specs.CollectionGrammar.{index_word, index_range_word, action_word, unreadable_word, create_word, drop_word, take_word, number_of_fields, field_word, sent_word, pipe_word}
use Rattle.arc_core.specs.CollectionLines.{coll_head_of, coll_line_needs, coll_name_of}
use Rattle.arc_core.specs.Grammar.{command_of}
use Rattle.arc_core.specs.KeyValueGrammar.{noreply_word}
use Rattle.arc_core.specs.ListGrammar.{create_row, list_insert_row, list_delete_row, list_get_row}
use Rattle.arc_core.specs.MapGrammar.{map_insert_row, map_get_row}
use Rattle.arc_core.specs.SetGrammar.{set_insert_row, set_exist_row, set_get_row}
use Rattle.arc_core.specs.Words.{words, number_below, number_from_1, exptime_word, key_word}

-- attributes with this action that a line names
abbrev named : (flags : ℕ) → (exptime : ℤ) → (maxcount : ℕ) → Action → CreateArgs
named flags exptime maxcount action = record { flags = flags; exptime = exptime; maxcount = maxcount; action = action; readable = true }

-- a list that is made, cannot be read, and trims its tail, since its line names no action
reads_create : coll_head_of (words (codes "lop create u 0 -1 5 unreadable noreply"))
    ≡ Some (coll_head.Collection (command.Create kind.List (codes "u") (record { flags = 0; exptime = negsuc 0; maxcount = 5; action = action.TailTrim; readable = false })) answer.NoReply)
unfolding command_of coll_name_of create_row key_word number_below exptime_word action_word unreadable_word noreply_word
reads_create = refl

-- an insert that makes its list, and one that does not
reads_insert_and_create : coll_head_of (words (codes "lop insert l -1 3 create 7 0 0 error"))
    ≡ Some (coll_head.Collection (command.ListInsert (codes "l") (negsuc 0) 3 (Some (named 7 (pos 0) 0 action.Error))) answer.Plain)
unfolding command_of coll_name_of list_insert_row key_word index_word number_below create_word exptime_word action_word unreadable_word sent_word pipe_word
reads_insert_and_create = refl

reads_insert : coll_head_of (words (codes "lop insert l 0 3 noreply")) ≡ Some (coll_head.Collection (command.ListInsert (codes "l") (pos 0) 3 None) answer.NoReply)
unfolding command_of coll_name_of list_insert_row key_word index_word number_below create_word sent_word pipe_word
reads_insert = refl

-- an action that a set cannot have
refuses_an_action : coll_head_of (words (codes "sop insert s 3 create 7 0 0 tail_trim")) ≡ None
unfolding command_of coll_name_of set_insert_row key_word number_below create_word exptime_word action_word unreadable_word sent_word pipe_word
refuses_an_action = refl

-- a range, and a single index
reads_a_range : coll_head_of (words (codes "lop get l -1..-3 drop")) ≡ Some (coll_head.Collection (command.ListGet (codes "l") (record { first = negsuc 0; last = negsuc 2; single = false }) taking.Drop) answer.Plain)
unfolding command_of coll_name_of list_get_row key_word index_range_word index_word number_below take_word
reads_a_range = refl

reads_a_single_index : coll_head_of (words (codes "lop delete l 5 drop noreply")) ≡ Some (coll_head.Collection (command.ListDelete (codes "l") (record { first = pos 5; last = pos 5; single = true }) true) answer.NoReply)
unfolding command_of coll_name_of list_delete_row key_word index_range_word index_word number_below drop_word sent_word pipe_word
reads_a_single_index = refl

-- one dot, three dots and nothing behind the dots are no range
refuses_one_dot : index_range_word (codes "1.2") ≡ None
unfolding index_range_word index_word number_below
refuses_one_dot = refl

refuses_three_dots : index_range_word (codes "1...2") ≡ None
unfolding index_range_word index_word number_below
refuses_three_dots = refl

refuses_an_open_range : index_range_word (codes "1..") ≡ None
unfolding index_range_word index_word number_below
refuses_an_open_range = refl

-- the least and the greatest index
reads_least_index : index_word (codes "-2147483648") ≡ Some (negsuc 2147483647)
unfolding index_word number_below
reads_least_index = refl

refuses_greater_index : index_word (codes "2147483648") ≡ None
unfolding index_word number_below
refuses_greater_index = refl

-- `0 0` names all fields, however many zeros there are, and has no block; one zero alone is refused
reads_all_fields : coll_head_of (words (codes "mop get m 00 0")) ≡ Some (coll_head.Collection (command.MapGet (codes "m") 0 0 taking.Keep) answer.Plain)
unfolding command_of coll_name_of map_get_row key_word number_below number_of_fields take_word
reads_all_fields = refl

needs_no_block : coll_line_needs (codes "mop get m 0 0") ≡ need.Nothing
unfolding command_of coll_name_of map_get_row key_word number_below number_of_fields take_word
needs_no_block = refl

refuses_one_zero : coll_head_of (words (codes "mop get m 5 0")) ≡ None
unfolding command_of coll_name_of map_get_row key_word number_below number_from_1 number_of_fields take_word
refuses_one_zero = refl

needs_fields : coll_line_needs (codes "mop get m 5 2") ≡ need.Block 5 1048576
unfolding command_of coll_name_of map_get_row key_word number_below number_from_1 number_of_fields take_word
needs_fields = refl

-- an element's block
needs_an_element : coll_line_needs (codes "mop insert m f 40000") ≡ need.Block 40000 32768
unfolding command_of coll_name_of map_insert_row key_word field_word number_below create_word sent_word pipe_word
needs_an_element = refl

-- the second word decides too
knows_no_second_word : coll_name_of (codes "lop") (codes "upsert") ≡ None
unfolding coll_name_of
knows_no_second_word = refl

-- a retrieval's read of a set says nothing of its answer
refuses_noreply : coll_head_of (words (codes "sop get s 0 noreply")) ≡ None
unfolding command_of coll_name_of set_get_row key_word number_below take_word
refuses_noreply = refl

-- a change may be piped, and so may the question whether a set has a value
reads_a_piped_insert : coll_head_of (words (codes "lop insert l 0 3 pipe")) ≡ Some (coll_head.Collection (command.ListInsert (codes "l") (pos 0) 3 None) answer.Pipe)
unfolding command_of coll_name_of list_insert_row key_word index_word number_below create_word sent_word pipe_word
reads_a_piped_insert = refl

reads_a_piped_question : coll_head_of (words (codes "sop exist s 1 pipe")) ≡ Some (coll_head.Collection (command.SetExist (codes "s") 1) answer.Pipe)
unfolding command_of coll_name_of set_exist_row key_word number_below pipe_word
reads_a_piped_question = refl

-- that question has an answer in any case; a read and a collection that is made are not piped
refuses_a_silent_question : coll_head_of (words (codes "sop exist s 1 noreply")) ≡ None
unfolding command_of coll_name_of set_exist_row key_word number_below pipe_word
refuses_a_silent_question = refl

refuses_a_piped_read : coll_head_of (words (codes "sop get s 0 pipe")) ≡ None
unfolding command_of coll_name_of set_get_row key_word number_below take_word
refuses_a_piped_read = refl

refuses_a_piped_create : coll_head_of (words (codes "sop create s 0 0 0 pipe")) ≡ None
unfolding command_of coll_name_of create_row key_word number_below exptime_word action_word unreadable_word noreply_word
refuses_a_piped_create = refl
