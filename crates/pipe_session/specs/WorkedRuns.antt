-- Worked runs of piped commands that compute: which units are marked, which belong to the run in front of them, how units
-- are grouped, and why a run was not executed to its end.
use Rattle.std.specs.Prelude.{◌≡◌, [], ◌∷◌, codes, refl, true, false, Some, None}
use Rattle.arc_core.specs.declared.pipes.PipeFault.TheVariants as fault
use Rattle.arc_core.specs.declared.pipes.PipeStatus.TheVariants as status
use Rattle.arc_core.specs.declared.replies.Word.TheVariants as word
use Rattle.arc_core.specs.CollectionGrammar.{index_word, index_range_word, field_word, action_word, unreadable_word, create_word, drop_word, take_word, number_of_fields, sent_word, pipe_word}
use Rattle.arc_core.specs.CollectionLines.{coll_name_of}
use Rattle.arc_core.specs.Framing.{Whole, line, line_with_block, bad_chunk, too_large, block_no_memory, line_too_long}
use Rattle.arc_core.specs.Grammar.{command_of}
use Rattle.arc_core.specs.KeyValueGrammar.{get_row, mget_row, noreply_word}
use Rattle.arc_core.specs.ListGrammar.{create_row, list_insert_row, list_get_row}
use Rattle.arc_core.specs.MapGrammar.{map_insert_row, map_delete_row}
use Rattle.arc_core.specs.SetGrammar.{set_exist_row, set_get_row}
use Rattle.arc_core.specs.Words.{number_below, number_from_1, exptime_word, key_word, keys_up_to, keys_counted}
use Rattle.pipe_session.specs.SessionText.{is_marked, belongs, groups, alone, run, cut_off, fails, fault_of}

-- WHICH UNITS ARE MARKED

-- an insert that is piped, with its block, with one that is too large, and with one that ends wrongly
a_piped_insert_is_marked : is_marked (line_with_block (codes "lop insert l 0 1 pipe") (codes "x")) ≡ true
unfolding command_of coll_name_of list_insert_row key_word index_word number_below create_word sent_word pipe_word
a_piped_insert_is_marked = refl

its_large_block_changes_nothing : is_marked (too_large (codes "lop insert l 0 40000 pipe")) ≡ true
unfolding command_of coll_name_of list_insert_row key_word index_word number_below create_word sent_word pipe_word
its_large_block_changes_nothing = refl

its_bad_chunk_changes_nothing : is_marked (bad_chunk (codes "lop insert l 0 1 pipe")) ≡ true
unfolding command_of coll_name_of list_insert_row key_word index_word number_below create_word sent_word pipe_word
its_bad_chunk_changes_nothing = refl

-- the question whether a set has a value may be piped
a_piped_question_is_marked : is_marked (line_with_block (codes "sop exist s 1 pipe") (codes "x")) ≡ true
unfolding command_of coll_name_of set_exist_row key_word number_below pipe_word
a_piped_question_is_marked = refl

-- lines that are no command are marked by their form: their first word and their last one
two_words_are_marked_by_form : is_marked (line (codes "lop pipe")) ≡ true
unfolding command_of coll_name_of
two_words_are_marked_by_form = refl

a_line_without_its_words_is_marked_by_form : is_marked (line (codes "bop insert pipe")) ≡ true
unfolding command_of coll_name_of
a_line_without_its_words_is_marked_by_form = refl

an_insert_without_a_number_is_marked_by_form : is_marked (line (codes "lop insert q 9 x pipe")) ≡ true
unfolding command_of coll_name_of list_insert_row key_word index_word number_below create_word sent_word pipe_word
an_insert_without_a_number_is_marked_by_form = refl

-- a read and a collection that is made cannot be piped: a line that says so is no command, and marked by its form
a_piped_read_is_marked_by_form : is_marked (line (codes "sop get s 0 pipe")) ≡ true
unfolding command_of coll_name_of set_get_row key_word number_below take_word
a_piped_read_is_marked_by_form = refl

a_piped_create_is_marked_by_form : is_marked (line (codes "lop create l 0 0 0 pipe")) ≡ true
unfolding command_of coll_name_of create_row key_word number_below exptime_word action_word unreadable_word noreply_word
a_piped_create_is_marked_by_form = refl

-- another first word, another last one, and none
a_key_that_is_pipe_marks_nothing : is_marked (line (codes "get pipe")) ≡ false
unfolding command_of get_row keys_up_to
a_key_that_is_pipe_marks_nothing = refl

a_first_word_alone_is_not_marked : is_marked (line (codes "lop")) ≡ false
unfolding command_of
a_first_word_alone_is_not_marked = refl

an_insert_is_not_marked : is_marked (line_with_block (codes "lop insert l 0 1") (codes "x")) ≡ false
unfolding command_of coll_name_of list_insert_row key_word index_word number_below create_word sent_word pipe_word
an_insert_is_not_marked = refl

a_field_that_is_pipe_marks_nothing : is_marked (line_with_block (codes "mop insert m pipe 1") (codes "x")) ≡ false
unfolding command_of coll_name_of map_insert_row key_word field_word number_below create_word sent_word pipe_word
a_field_that_is_pipe_marks_nothing = refl

an_empty_line_is_not_marked : is_marked (line []) ≡ false
an_empty_line_is_not_marked = refl

a_line_too_long_is_not_marked : is_marked line_too_long ≡ false
a_line_too_long_is_not_marked = refl

-- WHICH UNITS BELONG TO THE RUN IN FRONT OF THEM

-- one that might be piped and is answered by a text
an_insert_belongs : belongs (line_with_block (codes "lop insert l 0 1") (codes "x")) ≡ true
unfolding command_of coll_name_of list_insert_row key_word index_word number_below create_word sent_word pipe_word
an_insert_belongs = refl

a_question_belongs : belongs (line_with_block (codes "sop exist s 1") (codes "x")) ≡ true
unfolding command_of coll_name_of set_exist_row key_word number_below pipe_word
a_question_belongs = refl

-- the same without an answer does not, nor do reads and a collection that is made
a_silent_insert_does_not_belong : belongs (line_with_block (codes "lop insert l 0 1 noreply") (codes "x")) ≡ false
unfolding command_of coll_name_of list_insert_row key_word index_word number_below create_word sent_word pipe_word
a_silent_insert_does_not_belong = refl

a_read_does_not_belong : belongs (line (codes "get a")) ≡ false
unfolding command_of get_row keys_up_to
a_read_does_not_belong = refl

a_read_of_a_list_does_not_belong : belongs (line (codes "lop get l 0 delete")) ≡ false
unfolding command_of coll_name_of list_get_row key_word index_range_word index_word number_below take_word
a_read_of_a_list_does_not_belong = refl

a_create_does_not_belong : belongs (line (codes "lop create l 0 0 0")) ≡ false
unfolding command_of coll_name_of create_row key_word number_below exptime_word action_word unreadable_word noreply_word
a_create_does_not_belong = refl

-- whatever the session answers by itself belongs, also where it is silent
a_bad_chunk_belongs : belongs (bad_chunk (codes "lop insert l 0 1 noreply")) ≡ true
a_bad_chunk_belongs = refl

a_block_that_is_too_large_belongs : belongs (too_large (codes "set a 0 0 2000000")) ≡ true
a_block_that_is_too_large_belongs = refl

a_block_without_memory_belongs : belongs (block_no_memory (codes "set a 0 0 1000000")) ≡ true
a_block_without_memory_belongs = refl

an_unknown_line_belongs : belongs (line (codes "sett a 0 0 1")) ≡ true
unfolding command_of coll_name_of
an_unknown_line_belongs = refl

a_line_of_bad_format_belongs : belongs (line (codes "lop insert l 0")) ≡ true
unfolding command_of coll_name_of list_insert_row key_word index_word number_below create_word sent_word pipe_word
a_line_of_bad_format_belongs = refl

-- so do blocks that are not the keys or the fields that their lines name; where they are, a read does not
a_bad_block_of_keys_belongs : belongs (line_with_block (codes "mget 3 1") (codes "a b")) ≡ true
unfolding command_of mget_row number_below number_from_1 keys_counted key_word
a_bad_block_of_keys_belongs = refl

a_bad_block_of_fields_belongs : belongs (line_with_block (codes "mop delete m 3 1 noreply") (codes "f g")) ≡ true
unfolding command_of coll_name_of map_delete_row key_word number_below number_from_1 number_of_fields drop_word sent_word pipe_word keys_counted
a_bad_block_of_fields_belongs = refl

a_read_of_keys_does_not_belong : belongs (line_with_block (codes "mget 3 2") (codes "a b")) ≡ false
unfolding command_of mget_row number_below number_from_1 keys_counted key_word
a_read_of_keys_does_not_belong = refl

-- the end of the session, and a line too long, do not
quit_does_not_belong : belongs (line (codes "quit")) ≡ false
unfolding command_of
quit_does_not_belong = refl

a_line_too_long_does_not_belong : belongs line_too_long ≡ false
a_line_too_long_does_not_belong = refl

-- HOW UNITS ARE GROUPED

-- a piped insert and one that is not, a silent one, and a read
abbrev piped : Whole
piped = line_with_block (codes "lop insert l 0 1 pipe") (codes "x")

abbrev last : Whole
last = line_with_block (codes "lop insert l 0 1") (codes "y")

abbrev silent : Whole
silent = line_with_block (codes "lop insert l 0 1 noreply") (codes "z")

abbrev read : Whole
read = line (codes "get a")

-- a silent one with a bad chunk
abbrev spoiled : Whole
spoiled = bad_chunk (codes "lop insert l 0 1 noreply")

no_units_are_no_groups : groups true [] ≡ []
no_units_are_no_groups = refl

-- without a marked unit each one stands alone
each_stands_alone : groups true (read ∷ last ∷ []) ≡ alone read ∷ alone last ∷ []
unfolding command_of coll_name_of get_row keys_up_to list_insert_row key_word index_word number_below create_word sent_word pipe_word
each_stands_alone = refl

-- marked units, and the last one that belongs to their run; what follows stands alone
a_run_with_its_last : groups true (piped ∷ piped ∷ last ∷ last ∷ []) ≡ run (piped ∷ piped ∷ []) (Some last) ∷ alone last ∷ []
unfolding command_of coll_name_of list_insert_row key_word index_word number_below create_word sent_word pipe_word
a_run_with_its_last = refl

-- a read breaks a run off and stands alone; so does an insert without an answer
a_read_breaks_a_run_off : groups true (piped ∷ piped ∷ read ∷ []) ≡ run (piped ∷ piped ∷ []) None ∷ alone read ∷ []
unfolding command_of coll_name_of get_row keys_up_to list_insert_row key_word index_word number_below create_word sent_word pipe_word
a_read_breaks_a_run_off = refl

a_silent_insert_breaks_a_run_off : groups true (piped ∷ silent ∷ last ∷ []) ≡ run (piped ∷ []) None ∷ alone silent ∷ alone last ∷ []
unfolding command_of coll_name_of list_insert_row key_word index_word number_below create_word sent_word pipe_word
a_silent_insert_breaks_a_run_off = refl

-- two runs, each with its last; and one that is broken off before the next begins
two_runs : groups true (piped ∷ last ∷ piped ∷ last ∷ []) ≡ run (piped ∷ []) (Some last) ∷ run (piped ∷ []) (Some last) ∷ []
unfolding command_of coll_name_of list_insert_row key_word index_word number_below create_word sent_word pipe_word
two_runs = refl

two_runs_and_a_read_between : groups true (piped ∷ read ∷ piped ∷ last ∷ []) ≡ run (piped ∷ []) None ∷ alone read ∷ run (piped ∷ []) (Some last) ∷ []
unfolding command_of coll_name_of get_row keys_up_to list_insert_row key_word index_word number_below create_word sent_word pipe_word
two_runs_and_a_read_between = refl

-- a bad chunk ends a run as its last unit, also where its line says `noreply`
a_bad_chunk_ends_a_run : groups true (piped ∷ spoiled ∷ read ∷ []) ≡ run (piped ∷ []) (Some spoiled) ∷ alone read ∷ []
unfolding command_of coll_name_of get_row keys_up_to list_insert_row key_word index_word number_below create_word sent_word pipe_word
a_bad_chunk_ends_a_run = refl

-- a run at the end is answered where the session's end answers it, and has no answer otherwise
a_run_at_the_end : groups true (read ∷ piped ∷ piped ∷ []) ≡ alone read ∷ run (piped ∷ piped ∷ []) None ∷ []
unfolding command_of coll_name_of get_row keys_up_to list_insert_row key_word index_word number_below create_word sent_word pipe_word
a_run_at_the_end = refl

a_run_that_the_end_cuts_off : groups false (read ∷ piped ∷ piped ∷ []) ≡ alone read ∷ cut_off (piped ∷ piped ∷ []) ∷ []
unfolding command_of coll_name_of get_row keys_up_to list_insert_row key_word index_word number_below create_word sent_word pipe_word
a_run_that_the_end_cuts_off = refl

-- the end of the session breaks a run off, and so does a line too long
quit_breaks_a_run_off : groups true (piped ∷ line (codes "quit") ∷ []) ≡ run (piped ∷ []) None ∷ alone (line (codes "quit")) ∷ []
unfolding command_of coll_name_of list_insert_row key_word index_word number_below create_word sent_word pipe_word
quit_breaks_a_run_off = refl

a_line_too_long_breaks_a_run_off : groups true (piped ∷ line_too_long ∷ []) ≡ run (piped ∷ []) None ∷ alone line_too_long ∷ []
unfolding command_of coll_name_of list_insert_row key_word index_word number_below create_word sent_word pipe_word
a_line_too_long_breaks_a_run_off = refl

-- WHY A RUN WAS NOT EXECUTED TO ITS END

-- refusals by what is held do not fail a run; errors do
a_full_list_fails_nothing : fails (status.Word word.Overflowed) ≡ false
a_full_list_fails_nothing = refl

another_kind_fails_nothing : fails (status.Word word.TypeMismatch) ≡ false
another_kind_fails_nothing = refl

an_unknown_command_fails : fails (status.Word word.Unknown) ≡ true
an_unknown_command_fails = refl

a_bad_chunk_fails : fails (status.Word word.BadChunk) ≡ true
a_bad_chunk_fails = refl

want_of_room_fails : fails (status.Word word.OutOfMemory) ≡ true
want_of_room_fails = refl

want_of_memory_fails : fails (status.Word word.NoMemory) ≡ true
want_of_memory_fails = refl

-- all went well, and the last unit was there
nothing_goes_wrong : fault_of (status.Word word.Stored ∷ status.Word word.Overflowed ∷ []) 2 true ≡ fault.Nothing
nothing_goes_wrong = refl

-- the run was broken off
no_last_is_an_error : fault_of (status.Word word.Stored ∷ status.Word word.Stored ∷ []) 2 false ≡ fault.BadError
no_last_is_an_error = refl

-- a status failed the run, also where it was the last one's
a_failing_status_is_an_error : fault_of (status.Word word.Stored ∷ status.Word word.BadFormat ∷ []) 3 true ≡ fault.BadError
a_failing_status_is_an_error = refl

a_failing_last_status_is_an_error : fault_of (status.Word word.Stored ∷ status.Word word.BadChunk ∷ []) 2 true ≡ fault.BadError
a_failing_last_status_is_an_error = refl

-- 500 units are as many as a run may have, and 501 are too many. (One status stands here for all that did not fail.)
units_500_are_not_too_many : fault_of (status.Word word.Stored ∷ []) 500 true ≡ fault.Nothing
units_500_are_not_too_many = refl

units_501_are_too_many : fault_of (status.Word word.Stored ∷ []) 501 true ≡ fault.Overflow
units_501_are_too_many = refl

-- they are too many also where the run was broken off, but not where it had failed before
too_many_are_broken_off : fault_of (status.Word word.Stored ∷ []) 501 false ≡ fault.Overflow
too_many_are_broken_off = refl

a_failure_among_too_many : fault_of (status.Word word.Unknown ∷ []) 501 true ≡ fault.BadError
a_failure_among_too_many = refl
