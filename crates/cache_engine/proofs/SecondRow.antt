-- A worked row: `set a 5 0 3` with the block `abc`, and then `get a`, at second 0 on an empty cache of 64 MiB.
use Rattle.std.proofs.Common.{◌≡◌, ℕ, List, [], ◌∷◌, ◌++◌, Some, None, false, pos, refl, ap, ◌∙◌, arith}
use Rattle.std.specs.Prelude.{codes}
use Rattle.std.proofs.lemmas.Fmt.{decimal_digit}
use Rattle.arc_core.specs.declared.requests.Answer.TheVariants as answer
use Rattle.arc_core.specs.declared.requests.StoreVerb.TheVariants as verb
use Rattle.arc_core.specs.declared.replies.Reply.TheVariants as reply
use Rattle.arc_core.specs.declared.replies.Word.TheVariants as word
use Rattle.arc_core.specs.declared.replies.ValueRow.{ValueRow}
use Rattle.arc_core.specs.declared.items.Expiry.TheVariants as expiry
use Rattle.arc_core.specs.declared.outside.Need.TheVariants as need
use Rattle.arc_core.specs.Words.{words, number_below, key_word, exptime_word, keys_up_to}
use Rattle.arc_core.specs.declared.commands.Command.TheVariants as command
use Rattle.arc_core.specs.KeyValueGrammar.{store_row, get_row, noreply_word}
use Rattle.arc_core.specs.Grammar.{head_of, line_needs, command_of}
use Rattle.arc_core.specs.Item.{Item, key_value}
use Rattle.arc_core.specs.PlainRequest.{PlainRequest, store, get}
use Rattle.arc_core.specs.Places.{empty_places}
use Rattle.arc_core.specs.CacheState.{CacheState, opening_state, accounted}
use Rattle.arc_core.specs.Step.{step, plan_of, plan_of_store, carried_out, ended}
use Rattle.arc_core.specs.ReplyText.{reply_text, line_end}
use Rattle.cache_engine.specs.Planning.{state_at}
use Rattle.cache_engine.proofs.FirstItem.{only, starts, put_first, found_none, total_first}

abbrev pub limit : ℕ
limit = 67108864

abbrev pub a : List ℕ
a = codes "a"

abbrev pub item : Item
item = key_value 5 expiry.Never 1 (codes "abc")

-- the state behind the `set`
abbrev pub held : CacheState
held = state_at 0 1 (only a item limit limit)

abbrev pub row : ValueRow
row = record { key = a; flags = 5; unique = None; value = codes "abc" }

abbrev pub set_a : PlainRequest
set_a = record { act = store verb.Set a 5 (pos 0) (codes "abc"); answer = answer.Plain }

abbrev pub get_a : PlainRequest
get_a = record { act = get (a ∷ []) false; answer = answer.Plain }

-- the lines spell the requests, and the first asks for its block
pub set_is_spelled : head_of (words (codes "set a 5 0 3")) ≡ Some (record { command = command.Store verb.Set a 5 (pos 0) 3; answer = answer.Plain })
unfolding command_of store_row exptime_word number_below key_word noreply_word
set_is_spelled = refl

pub set_asks_for_a_block : line_needs (codes "set a 5 0 3") ≡ need.Block 3 1048576
unfolding command_of store_row exptime_word number_below key_word noreply_word
set_asks_for_a_block = refl

pub get_is_spelled : head_of (words (codes "get a")) ≡ Some (record { command = command.Get (a ∷ []) false; answer = answer.Plain })
unfolding command_of get_row keys_up_to
get_is_spelled = refl

-- nothing is held
abbrev start_state : CacheState
start_state = state_at 0 0 (empty_places limit limit)

-- the item is stored, with the first cas unique
pub set_is_stored : step (opening_state limit limit) 0 set_a ≡ (held, reply.Word word.Stored)
set_is_stored =
    ap (λ start. ended start (a ∷ []) (carried_out start (plan_of start set_a.act))) (starts a 0 limit limit)
    ∙ ap (λ o. ended start_state (a ∷ []) (carried_out start_state (plan_of_store start_state verb.Set a 5 (pos 0) (codes "abc") o))) (found_none a limit limit)
    ∙ put_first a item limit limit 0 1 (reply.Word word.Stored) (omega arith) refl

-- it is found, and nothing has changed
pub get_finds_it : step held 0 get_a ≡ (held, reply.Values (row ∷ []))
get_finds_it = refl

-- 64 bytes for the item, one for its key and three for its value are accounted
pub set_is_accounted : accounted held ≡ 68
set_is_accounted = total_first a item limit limit

-- what the client gets
pub texts_of_row : reply_text (reply.Word word.Stored) ++ reply_text (reply.Values (row ∷ []))
    ≡ codes "STORED" ++ line_end ++ codes "VALUE a 5 3" ++ line_end ++ codes "abc" ++ line_end ++ codes "END" ++ line_end
texts_of_row = rw (decimal_digit 5 (omega arith)) (rw (decimal_digit 3 (omega arith)) refl)
