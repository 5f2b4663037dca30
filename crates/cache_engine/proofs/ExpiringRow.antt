-- A worked row: an item that is stored at second 1,000 with exptime 10 is found at second 1,009, and at 1,010 it is gone.
use Rattle.std.proofs.Common.{◌≡◌, ℕ, List, [], ◌∷◌, ◌++◌, None, false, pos, refl, ap, ◌∙◌, arith}
use Rattle.std.specs.Prelude.{codes}
use Rattle.std.specs.Option.{option_map_or}
use Rattle.arc_core.specs.declared.requests.Answer.TheVariants as answer
use Rattle.arc_core.specs.declared.requests.StoreVerb.TheVariants as verb
use Rattle.arc_core.specs.declared.replies.Reply.TheVariants as reply
use Rattle.arc_core.specs.declared.replies.Word.TheVariants as word
use Rattle.arc_core.specs.declared.replies.ValueRow.{ValueRow}
use Rattle.arc_core.specs.declared.items.Expiry.TheVariants as expiry
use Rattle.arc_core.specs.Item.{Item, key_value}
use Rattle.arc_core.specs.Places.{empty_places}
use Rattle.arc_core.specs.PlainRequest.{PlainRequest, store, get}
use Rattle.arc_core.specs.CacheState.{CacheState, opening_state}
use Rattle.arc_core.specs.Step.{step, plan_of, plan_of_store, carried_out, ended, used_at, rows_of_item}
use Rattle.cache_engine.specs.Planning.{state_at}
use Rattle.cache_engine.proofs.FirstItem.{only, starts, put_first, found_none, removed_none}

abbrev pub limit : ℕ
limit = 1048576

abbrev pub a : List ℕ
a = codes "a"

abbrev pub item : Item
item = key_value 5 (expiry.At 1010) 1 (codes "abc")

abbrev pub row : ValueRow
row = record { key = a; flags = 5; unique = None; value = codes "abc" }

abbrev pub set_a : PlainRequest
set_a = record { act = store verb.Set a 5 (pos 10) (codes "abc"); answer = answer.Plain }

abbrev pub get_a : PlainRequest
get_a = record { act = get (a ∷ []) false; answer = answer.Plain }

-- the item is held, and the latest second is this
abbrev pub held_at : ℕ → CacheState
held_at latest = state_at latest 1 (only a item limit limit)

-- nothing is held, and the latest second is this
abbrev start_at : ℕ → CacheState
start_at latest = state_at latest 0 (empty_places limit limit)

pub set_is_stored : step (opening_state limit limit) 1000 set_a ≡ (held_at 1000, reply.Word word.Stored)
set_is_stored =
    ap (λ start. ended start (a ∷ []) (carried_out start (plan_of start set_a.act))) (starts a 1000 limit limit)
    ∙ ap (λ o. ended (start_at 1000) (a ∷ []) (carried_out (start_at 1000) (plan_of_store (start_at 1000) verb.Set a 5 (pos 10) (codes "abc") o))) (found_none a limit limit)
    ∙ put_first a item limit limit 1000 1 (reply.Word word.Stored) (omega arith) refl

-- a second before, it is found
pub get_finds_it : step (held_at 1000) 1009 get_a ≡ (held_at 1009, reply.Values (row ∷ []))
get_finds_it = refl

-- nothing is held, and that is what a retrieval finds
finds_nothing : ended (state_at 1010 1 (empty_places limit limit)) (a ∷ []) (carried_out (state_at 1010 1 (empty_places limit limit)) (plan_of (state_at 1010 1 (empty_places limit limit)) get_a.act)) ≡ (state_at 1010 1 (empty_places limit limit), reply.Values [])
finds_nothing = ap (λ o. (state_at 1010 1 (used_at 1010 a o (empty_places limit limit)), reply.Values (option_map_or (rows_of_item false a) o [] ++ []))) (found_none a limit limit)

-- at its second it is not, and nothing is held any more
pub get_drops_it : step (held_at 1000) 1010 get_a ≡ (state_at 1010 1 (empty_places limit limit), reply.Values [])
get_drops_it =
    ap (λ m. let start : CacheState = state_at 1010 1 (record { shelf = []; sticky = m; limit = limit; share = limit }) in ended start (a ∷ []) (carried_out start (plan_of start get_a.act))) (removed_none a)
    ∙ finds_nothing

-- nor is it where it was found a second before
pub get_drops_it_then : step (held_at 1009) 1010 get_a ≡ (state_at 1010 1 (empty_places limit limit), reply.Values [])
get_drops_it_then = get_drops_it
