-- Worked examples that compute.
use Rattle.std.specs.Prelude.{◌≡◌, ◌^◌, [], ◌∷◌, codes, refl, true, false, None, Some, pos, negsuc}
use Rattle.arc_core.specs.declared.commands.Command.TheVariants as command
use Rattle.arc_core.specs.declared.outside.Need.TheVariants as need
use Rattle.arc_core.specs.declared.items.Expiry.TheVariants as expiry
use Rattle.arc_core.specs.declared.requests.Answer.TheVariants as answer
use Rattle.arc_core.specs.declared.requests.StoreVerb.TheVariants as verb
use Rattle.arc_core.specs.PlainRequest as act
use Rattle.arc_core.specs.Words.{words, number_below, exptime_word, zero_word, key_word, keys_up_to, keys_counted}
use Rattle.arc_core.specs.KeyValueGrammar.{store_row, cas_row, get_row, count_row, delete_row, noreply_word}
use Rattle.arc_core.specs.Grammar.{head_of, line_needs, command_of, act_of}
use Rattle.arc_core.specs.Item.{expiry_at, has_expired}
use Rattle.arc_core.specs.Step.{counted}

-- words are separated by spaces, however many
words_of_a_line : words (codes " set  a 5 ") ≡ codes "set" ∷ codes "a" ∷ codes "5" ∷ []
words_of_a_line = refl

-- a storing command, with a leading zero in its flags and a minus before its exptime
reads_set : head_of (words (codes "set a 05 -0 3")) ≡ Some (record { command = command.Store verb.Set (codes "a") 5 (pos 0) 3; answer = answer.Plain })
unfolding command_of store_row exptime_word number_below key_word
reads_set = refl

-- a storing command that wants no answer; its key is the word that says so
reads_noreply : head_of (words (codes "cas noreply 5 -1 3 7 noreply")) ≡ Some (record { command = command.Store (verb.Cas 7) (codes "noreply") 5 (negsuc 0) 3; answer = answer.NoReply })
unfolding command_of cas_row exptime_word number_below key_word noreply_word
reads_noreply = refl

-- a retrieval of several keys
reads_get : head_of (words (codes "get b a b")) ≡ Some (record { command = command.Get (codes "b" ∷ codes "a" ∷ codes "b" ∷ []) false; answer = answer.Plain })
unfolding command_of get_row keys_up_to
reads_get = refl

-- a key that is the word `noreply` is a key
reads_noreply_as_key : head_of (words (codes "gets a noreply")) ≡ Some (record { command = command.Get (codes "a" ∷ codes "noreply" ∷ []) true; answer = answer.Plain })
unfolding command_of get_row keys_up_to
reads_noreply_as_key = refl

-- a count that makes an item where there is none
reads_incr : head_of (words (codes "incr n 1 0 0 10 noreply")) ≡ Some (record { command = command.Count true (codes "n") 1 (Some (0, pos 0, 10)); answer = answer.NoReply })
unfolding command_of count_row exptime_word number_below key_word noreply_word
reads_incr = refl

-- and one that does not
reads_decr : head_of (words (codes "decr n 1")) ≡ Some (record { command = command.Count false (codes "n") 1 None; answer = answer.Plain })
unfolding command_of count_row exptime_word number_below key_word noreply_word
reads_decr = refl

-- two of the three words that make an item are none
refuses_incr : head_of (words (codes "incr n 1 0 0")) ≡ None
unfolding command_of count_row exptime_word number_below key_word noreply_word
refuses_incr = refl

-- the 0 that memcached allows behind the key of `delete` is that word
reads_delete : head_of (words (codes "delete a 0 noreply")) ≡ Some (record { command = command.Delete (codes "a"); answer = answer.NoReply })
unfolding command_of delete_row zero_word key_word noreply_word
reads_delete = refl

refuses_delete : head_of (words (codes "delete a 00")) ≡ None
unfolding command_of delete_row zero_word key_word noreply_word
refuses_delete = refl

-- `quit` stands alone
refuses_quit : head_of (words (codes "quit noreply")) ≡ None
unfolding command_of
refuses_quit = refl

-- a word too many spells nothing
refuses_a_word_too_many : head_of (words (codes "set a 5 0 3 4")) ≡ None
unfolding command_of store_row exptime_word number_below key_word noreply_word
refuses_a_word_too_many = refl

-- the exptimes that there are
reads_least_exptime : exptime_word (codes "-2147483648") ≡ Some (negsuc 2147483647)
unfolding exptime_word number_below
reads_least_exptime = refl

refuses_less_exptime : exptime_word (codes "-2147483649") ≡ None
unfolding exptime_word number_below
refuses_less_exptime = refl

reads_greatest_exptime : exptime_word (codes "4294967295") ≡ Some (pos 4294967295)
unfolding exptime_word number_below
reads_greatest_exptime = refl

-- nor are 21 digits, though their value is small
refuses_21_digits : number_below (2 ^ 32) (codes "000000000000000000001") ≡ None
unfolding number_below
refuses_21_digits = refl

-- 4,294,967,295 is the greatest number of flags
reads_greatest_flags : number_below (2 ^ 32) (codes "4294967295") ≡ Some 4294967295
unfolding number_below
reads_greatest_flags = refl

refuses_greater_flags : number_below (2 ^ 32) (codes "4294967296") ≡ None
unfolding number_below
refuses_greater_flags = refl

-- names of commands are written in lower case
knows_no_capitals : command_of (codes "SET") ≡ None
unfolding command_of
knows_no_capitals = refl

-- a storing command asks for its block
needs_of_set : line_needs (codes "set a 5 0 3") ≡ need.Block 3 1048576
unfolding command_of store_row exptime_word number_below key_word noreply_word
needs_of_set = refl

-- keys in a block, and one that is not the number of keys that was named
reads_mget_block : act_of (command.GetBlock 3 2) (codes "a b") ≡ Some (act.get (codes "a" ∷ codes "b" ∷ []) false)
unfolding keys_counted
reads_mget_block = refl

refuses_mget_block : act_of (command.GetBlock 3 2) (codes "a  ") ≡ None
unfolding keys_counted
refuses_mget_block = refl

-- 30 days count from now, and a second more is a second of the clock
thirty_days_count_from_now : expiry_at 1000 (pos 2592000) ≡ expiry.At 2593000
thirty_days_count_from_now = refl

more_is_a_second_of_the_clock : expiry_at 1000 (pos 2592001) ≡ expiry.At 2592001
more_is_a_second_of_the_clock = refl

-- an item that is stored at second 1,000 for 10 seconds has expired at second 1,010, and not at second 1,009
expires_at_its_second : has_expired 1010 (expiry_at 1000 (pos 10)) ≡ true
expires_at_its_second = refl

lives_a_second_before : has_expired 1009 (expiry_at 1000 (pos 10)) ≡ false
lives_a_second_before = refl

-- up from the greatest number comes 0, and down from 3 by 5 as well
wraps_up : counted true 1 18446744073709551615 ≡ 0
wraps_up = refl

ends_down : counted false 5 3 ≡ 0
ends_down = refl
