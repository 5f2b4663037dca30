-- What is evicted where an item is put.
use Rattle.std.proofs.Common.{◌≡◌, ◌≤ℤ◌, ℕ, Bool, true, false, cond, nat_lt, ◌==◌, ◌^◌, List, [], length, Option, Some, None, option_map, ℤ, pos, refl, sym, ap, ◌∙◌, subst}
use Rattle.std.specs.Option.{unwrap_or}
use Rattle.arc_core.specs.declared.items.Expiry.{Expiry}
use Rattle.arc_core.specs.declared.requests.StoreVerb.{StoreVerb}
use Rattle.arc_core.specs.declared.requests.StoreVerb.TheVariants as verb
use Rattle.arc_core.specs.declared.replies.Reply.{Reply}
use Rattle.arc_core.specs.declared.replies.Reply.TheVariants as answer
use Rattle.arc_core.specs.declared.replies.Word.TheVariants as word
use Rattle.arc_core.specs.PlainRequest.{PlainAct, PlainRequest}
use Rattle.arc_core.specs.PlainRequest as act
use Rattle.arc_core.specs.Words.{number_below}
use Rattle.arc_core.specs.CollectionRequests.{empty_of}
use Rattle.arc_core.specs.Item.{Item, key_value, collection, size_of, expiry_of, is_sticky}
use Rattle.arc_core.specs.Places.{placed, total_of}
use Rattle.arc_core.specs.CacheState.{CacheState, IsState}
use Rattle.arc_core.specs.Step.{extra_of, sticky_extra_of, room_for, put_behind, carried_out, ended, named_keys, started, step, put_joined, plan_of_store, plan_of_next, plan_of_count, plan_of_delete, plan_of_touch, plan_of}
use Rattle.arc_core.specs.Plan.{Plan, answer_only, put, take_away, take_all}
use Rattle.byte_account.specs.declared.room.Room.TheVariants.{Fits, Nothing}
use Rattle.byte_account.specs.ShelfWords.{room_answer}
use Rattle.byte_account.proofs.RoomLaws.{IsLeastEviction-room, room-nothing_added, fits_nothing_added}
use Rattle.byte_account.proofs.MovedLaws.{evicted-none}
use Rattle.cache_engine.proofs.CollectionReplies.{says, IsOther, either, asked-is_other, create-is_other}
use Rattle.cache_engine.specs.Evicting.{MakesRoom, EvictsLeast, has_share, EvictsNothing}

module _ (state : CacheState) (key : List ℕ) (item : Item) where
  least : (suffix : Option (List (List ℕ × Item))) → room_for state key item ≡ suffix → MakesRoom state key item (room_answer suffix)
  least suffix h = subst (λ g. MakesRoom state key item (room_answer g)) h (IsLeastEviction-room size_of state.places key (extra_of state key item) (sticky_extra_of state key item))

  module _ (counter : ℕ) (reply : Reply) where
    abbrev after : ℕ → CacheState
    after n = record state { counter = counter; places = put_behind n key item state.places }

    abbrev outcome : Option (List (List ℕ × Item)) → Option (CacheState × Reply)
    outcome = option_map {U = CacheState × Reply} (λ g. (after (length g), reply))

    put_by : (new : CacheState) (answer : Reply) (gone : Option (List (List ℕ × Item))) → room_for state key item ≡ gone → outcome gone ≡ Some (new, answer) → EvictsLeast state key item new
    put_by new answer None h e = absurd (cc)
    put_by new answer (Some gone) h e = record {
      evictions = length gone;
      least = least (Some gone) h;
      places = sym (ap (λ o. (unwrap_or {T = CacheState × Reply} o (state, reply)).0.places) e);
    }

    pub evicts_least : (new : CacheState) (answer : Reply) → carried_out state (put key item counter reply) ≡ Some (new, answer) → EvictsLeast state key item new
    evicts_least new answer = put_by new answer (room_for state key item) refl

    refused_by : (gone : Option (List (List ℕ × Item))) → room_for state key item ≡ gone → outcome gone ≡ None → MakesRoom state key item Nothing
    refused_by None h e = least None h
    refused_by (Some gone) h e = absurd (cc)

    pub none_makes_room : carried_out state (put key item counter reply) ≡ None → MakesRoom state key item Nothing
    none_makes_room = refused_by (room_for state key item) refl

    nothing_by : (kept : Bool) → room_for state key item ≡ cond kept (Some []) None → MakesRoom state key item (cond kept (Fits 0) Nothing)
    nothing_by true h = least (Some []) h
    nothing_by false h = least None h

    outcome_by : (kept : Bool) → outcome (cond kept (Some []) None) ≡ cond kept (Some (record state { counter = counter; places = placed (is_sticky (expiry_of item)) key item state.places }, reply)) None
    outcome_by true = ap (λ p. Some (record state { counter = counter; places = placed (is_sticky (expiry_of item)) key item p }, reply)) (evicted-none key state.places)
    outcome_by false = refl

    pub evicts_nothing : IsState state → extra_of state key item ≤ℤ pos 0 → EvictsNothing state key item counter reply
    evicts_nothing rules no_more =
        let none : room_for state key item ≡ cond (has_share state key item) (Some []) None =
        room-nothing_added size_of state.places key (extra_of state key item) (sticky_extra_of state key item) (fits_nothing_added state.places.limit (total_of size_of state.places) (extra_of state key item) rules.within no_more) in
        record { least = nothing_by (has_share state key item) none; places = ap outcome none ∙ outcome_by (has_share state key item) }

pub answers : (state new : CacheState) (reply answer : Reply) → carried_out state (answer_only reply) ≡ Some (new, answer) → new.places ≡ state.places
answers state new reply answer e = sym (ap (λ o. (unwrap_or {T = CacheState × Reply} o (state, reply)).0.places) e)

-- no row of the table answers `out of memory`

module _ (state : CacheState) (key : List ℕ) where
  joined-is_other : (flags : ℕ) (expiry : Expiry) (value : List ℕ) → IsOther (put_joined state key flags expiry value)
  joined-is_other flags expiry value = either (nat_lt 1048576 (length value)) _ _ (λ e. absurd (cc)) (λ e. absurd (cc))

  store-is_other : (verb : StoreVerb) (flags : ℕ) (exptime : ℤ) (value : List ℕ) (held : Option Item) → IsOther (plan_of_store state verb key flags exptime value held)
  store-is_other verb flags exptime value (Some (collection attrs contents)) = λ e. absurd (cc)
  store-is_other verb.Set flags exptime value None = λ e. absurd (cc)
  store-is_other verb.Set flags exptime value (Some (key_value old expiry unique was)) = λ e. absurd (cc)
  store-is_other verb.Add flags exptime value None = λ e. absurd (cc)
  store-is_other verb.Add flags exptime value (Some (key_value old expiry unique was)) = λ e. absurd (cc)
  store-is_other verb.Replace flags exptime value None = λ e. absurd (cc)
  store-is_other verb.Replace flags exptime value (Some (key_value old expiry unique was)) = λ e. absurd (cc)
  store-is_other verb.Append flags exptime value None = λ e. absurd (cc)
  store-is_other verb.Append flags exptime value (Some (key_value old expiry unique was)) = joined-is_other old expiry _
  store-is_other verb.Prepend flags exptime value None = λ e. absurd (cc)
  store-is_other verb.Prepend flags exptime value (Some (key_value old expiry unique was)) = joined-is_other old expiry _
  store-is_other (verb.Cas asked) flags exptime value None = λ e. absurd (cc)
  store-is_other (verb.Cas asked) flags exptime value (Some (key_value old expiry unique was)) = either (unique == asked) _ _ (λ e. absurd (cc)) (λ e. absurd (cc))

  next-is_other : (up : Bool) (delta flags : ℕ) (expiry : Expiry) (number : Option ℕ) → IsOther (plan_of_next state up key delta flags expiry number)
  next-is_other up delta flags expiry None = λ e. absurd (cc)
  next-is_other up delta flags expiry (Some n) = λ e. absurd (cc)

  count-is_other : (up : Bool) (delta : ℕ) (initial : Option (ℕ × ℤ × ℕ)) (held : Option Item) → IsOther (plan_of_count state up key delta initial held)
  count-is_other up delta None None = λ e. absurd (cc)
  count-is_other up delta (Some initial) None = λ e. absurd (cc)
  count-is_other up delta initial (Some (key_value flags expiry unique value)) = next-is_other up delta flags expiry (number_below (2 ^ 64) value)
  count-is_other up delta initial (Some (collection attrs contents)) = λ e. absurd (cc)

  delete-is_other : (held : Option Item) → IsOther (plan_of_delete key held)
  delete-is_other None = λ e. absurd (cc)
  delete-is_other (Some item) = λ e. absurd (cc)

  touch-is_other : (exptime : ℤ) (held : Option Item) → IsOther (plan_of_touch state key exptime held)
  touch-is_other exptime None = λ e. absurd (cc)
  touch-is_other exptime (Some item) = λ e. absurd (cc)

plan-is_other : (state : CacheState) (a : PlainAct) → IsOther (plan_of state a)
plan-is_other state (act.store verb key flags exptime value) = store-is_other state key verb flags exptime value _
plan-is_other state (act.get keys unique) = λ e. absurd (cc)
plan-is_other state (act.count up key delta initial) = count-is_other state key up delta initial _
plan-is_other state (act.delete key) = delete-is_other state key _
plan-is_other state (act.touch key exptime) = touch-is_other state key exptime _
plan-is_other state act.flush_all = λ e. absurd (cc)
plan-is_other state act.version = λ e. absurd (cc)
plan-is_other state (act.make kind key args) = create-is_other state.latest state.counter key args (empty_of kind) _
plan-is_other state (act.on_collection key asked) = asked-is_other state.latest state.counter key asked _

put_says : (gone : Option (List (List ℕ × Item))) (after : List (List ℕ × Item) → CacheState) (reply : Reply) (done : CacheState × Reply) → option_map {U = CacheState × Reply} (λ g. (after g, reply)) gone ≡ Some done → done.1 ≡ reply
put_says None after reply done e = absurd (cc)
put_says (Some gone) after reply done e = sym (ap (λ o. (unwrap_or {T = CacheState × Reply} o done).1) e)

done_says : (state : CacheState) (plan : Plan) (done : CacheState × Reply) → carried_out state plan ≡ Some done → done.1 ≡ says plan
done_says state (answer_only reply) done e = sym (ap (λ o. (unwrap_or {T = CacheState × Reply} o done).1) e)
done_says state (put key item counter reply) done e = put_says (room_for state key item) _ reply done e
done_says state (take_away key reply) done e = sym (ap (λ o. (unwrap_or {T = CacheState × Reply} o done).1) e)
done_says state (take_all reply) done e = sym (ap (λ o. (unwrap_or {T = CacheState × Reply} o done).1) e)

stays_by : (start : CacheState) (keys : List (List ℕ)) (plan : Plan) (o : Option (CacheState × Reply)) → IsOther plan → carried_out start plan ≡ o → (ended start keys o).1 ≡ answer.Word word.OutOfMemory → (ended start keys o).0 ≡ start
stays_by start keys plan None other h e = refl
stays_by start keys plan (Some done) other h e = absurd (other (sym (done_says start plan done h) ∙ e))

-- a step that answers `out of memory` leaves the state at its start
pub start_stays : (state : CacheState) (now : ℕ) (request : PlainRequest) → (step state now request).1 ≡ answer.Word word.OutOfMemory → (step state now request).0 ≡ started state now (named_keys request.act)
start_stays state now request e =
    let start = started state now (named_keys request.act) in
    stays_by start (named_keys request.act) (plan_of start request.act) (carried_out start (plan_of start request.act)) (plan-is_other start request.act) refl e
