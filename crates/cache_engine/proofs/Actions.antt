-- What the cache's commands on one key leave, as steps of the machine.
use Rattle.std.proofs.Common.{◌≡◌, ◌≢◌, ℕ, Bool, true, false, cond, max, List, [], ◌∷◌, length, Option, Some, None, option_map, ℤ, inl, inr, refl, sym, ap, ◌∙◌, subst}
use Rattle.arc_core.specs.declared.items.Expiry.{Expiry}
use Rattle.arc_core.specs.declared.requests.StoreVerb.{StoreVerb}
use Rattle.arc_core.specs.declared.replies.Reply.{Reply}
use Rattle.arc_core.specs.declared.replies.Reply.TheVariants as reply
use Rattle.arc_core.specs.declared.replies.Word.TheVariants as word
use Rattle.arc_core.specs.PlainRequest as act
use Rattle.arc_core.specs.Item.{Item, key_value, collection, expiry_of, with_expiry, expiry_at, has_expired, is_sticky}
use Rattle.arc_core.specs.Places.{Places, found, brought_to_front, placed, without}
use Rattle.arc_core.specs.Room.{evicted}
use Rattle.arc_core.specs.CacheState.{CacheState}
use Rattle.arc_core.specs.Step.{room_for, put_behind, plan_of_store, plan_of_count, plan_of_delete, plan_of_touch, carried_out, ended}
use Rattle.arc_core.specs.Plan.{Plan}
use Rattle.byte_account.proofs.FoundLaws.{found-placed, found-without}
use Rattle.byte_account.proofs.MovedLaws.{evicted-none}
use Rattle.cache_engine.specs.declared.plans.Planned.{Planned}
use Rattle.cache_engine.specs.declared.key_state.KeyState.{KeyState}
use Rattle.cache_engine.specs.declared.key_state.KeyState.TheVariants as key_state
use Rattle.cache_engine.specs.Changes.{evicted_for, HasExpiry}
use Rattle.cache_engine.specs.Planning.{Plans, state_at}
use Rattle.cache_engine.specs.Starting.{key_state_of, live_of, HasExpiryInStep}
use Rattle.cache_engine.specs.Acting.{start_at, Acts, Finishes, Answers}
use Rattle.cache_engine.proofs.ItemPlaces.{sticky_stays}
use Rattle.cache_engine.proofs.Finishing.{late_of, late_is, found_live, start_live, used_absent, used_held}

no_live_by : (latest : ℕ) (item : Item) (late : Bool) (s : KeyState) → s ≡ key_state_of latest (Some item) → has_expired latest (expiry_of item) ≡ late → (s ≡ key_state.Live → ⊥) → live_of latest (Some item) ≡ None
no_live_by latest item true s is e other = ap (λ b. cond b None (Some item)) e
no_live_by latest item false s is e other = absurd (other (is ∙ ap (λ b. cond b key_state.Expired key_state.Live) e))

module _ (old : CacheState) (now : ℕ) (key : List ℕ) (new : CacheState) (answer : Reply) where
  finished : (a : act.PlainAct) (plan : Plan) → Finishes old now key plan answer new
      → (ended (start_at old now key) (key ∷ []) (carried_out (start_at old now key) plan) ≡ (new, answer) → Acts old now a answer new)
      → ((answer ≡ reply.Word word.NoMemory) × (new ≡ old) → Acts old now a answer new) → Acts old now a answer new
  finished a plan (inl e) done refused = done e
  finished a plan (inr e) done refused = refused e

  -- a storing command
  pub stored : (verb : StoreVerb) (flags : ℕ) (exptime : ℤ) (value : List ℕ) (latest : ℕ) (held : Option Item) (planned : Planned) → latest ≡ max old.latest now → held ≡ live_of latest (found key old.places)
      → ((k : List ℕ) (p : Places Item) → Plans k (plan_of_store (state_at latest old.counter p) verb k flags exptime value held) planned)
      → ((plan : Plan) → Plans key plan planned → Finishes old now key plan answer new) → Acts old now (act.store verb key flags exptime value) answer new
  stored verb flags exptime value latest held planned is held_is plans finishes =
      let start = start_at old now key in
      let there : held ≡ found key start.places = held_is ∙ (λ i. live_of (is i) (found key old.places)) ∙ sym (found_live (max old.latest now) key old.places) in
      let plan = plan_of_store start verb key flags exptime value (found key start.places) in
      let same : plan_of_store (state_at latest old.counter start.places) verb key flags exptime value held ≡ plan = (λ i. plan_of_store (state_at (is i) old.counter start.places) verb key flags exptime value (there i)) in
      finished (act.store verb key flags exptime value) plan (finishes plan (subst (λ p. Plans key p planned) same (plans key start.places))) (λ e. inl e) (λ e. inr (tt, e.0, e.1))

  -- a counting command
  pub counted : (up : Bool) (delta : ℕ) (initial : Option (ℕ × ℤ × ℕ)) (latest : ℕ) (held : Option Item) (planned : Planned) → latest ≡ max old.latest now → held ≡ live_of latest (found key old.places)
      → ((k : List ℕ) (p : Places Item) → Plans k (plan_of_count (state_at latest old.counter p) up k delta initial held) planned)
      → ((plan : Plan) → Plans key plan planned → Finishes old now key plan answer new) → Acts old now (act.count up key delta initial) answer new
  counted up delta initial latest held planned is held_is plans finishes =
      let start = start_at old now key in
      let there : held ≡ found key start.places = held_is ∙ (λ i. live_of (is i) (found key old.places)) ∙ sym (found_live (max old.latest now) key old.places) in
      let plan = plan_of_count start up key delta initial (found key start.places) in
      let same : plan_of_count (state_at latest old.counter start.places) up key delta initial held ≡ plan = (λ i. plan_of_count (state_at (is i) old.counter start.places) up key delta initial (there i)) in
      finished (act.count up key delta initial) plan (finishes plan (subst (λ p. Plans key p planned) same (plans key start.places))) (λ e. inl e) (λ e. inr (tt, e.0, e.1))

  -- a word that is answered where the key's item is not live

  pub not_live : (latest : ℕ) (o : Option Item) (s : KeyState) → s ≡ key_state_of latest o → (s ≡ key_state.Live → ⊥) → live_of latest o ≡ None
  not_live latest None s is other = refl
  not_live latest (Some item) s is other = no_live_by latest item (has_expired latest (expiry_of item)) s is refl other

  pub not_deleted : (s : KeyState) → s ≡ key_state_of (max old.latest now) (found key old.places) → (s ≡ key_state.Live → ⊥) → Answers old now key (reply.Word word.NotFound) answer new → Acts old now (act.delete key) answer new
  not_deleted s is other says =
      let none : found key (start_at old now key).places ≡ None = found_live (max old.latest now) key old.places ∙ not_live (max old.latest now) (found key old.places) s is other in
      inl (ap (λ o. ended (start_at old now key) (key ∷ []) (carried_out (start_at old now key) (plan_of_delete key o))) none ∙ says)

  pub not_touched : (exptime : ℤ) (s : KeyState) → s ≡ key_state_of (max old.latest now) (found key old.places) → (s ≡ key_state.Live → ⊥) → Answers old now key (reply.Word word.NotFound) answer new → Acts old now (act.touch key exptime) answer new
  not_touched exptime s is other says =
      let none : found key (start_at old now key).places ≡ None = found_live (max old.latest now) key old.places ∙ not_live (max old.latest now) (found key old.places) s is other in
      inl (ap (λ o. ended (start_at old now key) (key ∷ []) (carried_out (start_at old now key) (plan_of_touch (start_at old now key) key exptime o))) none ∙ says)

-- where the key's item is live

pub record IsLive (latest : ℕ) (key : List ℕ) (places : Places Item) : Type 0 where
  pub item : Item
  pub there : found key places ≡ Some item
  pub lives : has_expired latest (expiry_of item) ≡ false

is_live_by : (latest : ℕ) (key : List ℕ) (places : Places Item) (o : Option Item) (late : Bool) → found key places ≡ o → ((item : Item) → o ≡ Some item → has_expired latest (expiry_of item) ≡ late) → key_state.Live ≡ key_state_of latest o → IsLive latest key places
is_live_by latest key places None late h time is = absurd (cc)
is_live_by latest key places (Some item) true h time is = absurd (let k : key_state.Live ≡ key_state.Expired = is ∙ ap (λ b. cond b key_state.Expired key_state.Live) (time item refl) in cc)
is_live_by latest key places (Some item) false h time is = record { item = item; there = h; lives = time item refl }

pub is_live : (latest : ℕ) (key : List ℕ) (places : Places Item) → key_state.Live ≡ key_state_of latest (found key places) → IsLive latest key places
is_live latest key places = is_live_by latest key places (found key places) (late_of latest (found key places)) refl (late_is latest (found key places))

module _ (old : CacheState) (now : ℕ) (key : List ℕ) (live : IsLive (max old.latest now) key old.places) where
  abbrev here : CacheState
  here = record old { latest = max old.latest now }

  live_start : start_at old now key ≡ here
  live_start = ap (λ p. record old { latest = max old.latest now; places = p }) (start_live (max old.latest now) key old.places live.item live.there live.lives)

  pub deleted : (new : CacheState) → new ≡ record here { places = without key old.places } → Acts old now (act.delete key) (reply.Word word.Deleted) new
  deleted new e =
      let gone = record here { places = without key old.places } in
      inl (ap (λ s. ended s (key ∷ []) (carried_out s (plan_of_delete key (found key s.places)))) live_start
      ∙ ap (λ o. ended here (key ∷ []) (carried_out here (plan_of_delete key o))) live.there
      ∙ ap (λ p. (record gone { places = p }, reply.Word word.Deleted)) (used_absent (max old.latest now) key (without key old.places) (found-without key old.places))
      ∙ ap (λ s. (s, reply.Word word.Deleted)) (sym e))

  pub touched_is : (exptime : ℤ) (new : CacheState) (places : Places Item) → HasExpiryInStep (max old.latest now) key (expiry_at (max old.latest now) exptime) old.places places → new ≡ record here { places = places } → Acts old now (act.touch key exptime) (reply.Word word.Touched) new
  touched_is exptime new places r e =
      let item = with_expiry (expiry_at (max old.latest now) exptime) r.item in
      inl (ap (λ s. ended s (key ∷ []) (carried_out s (plan_of_touch s key exptime (found key s.places)))) live_start
      ∙ ap (λ o. ended here (key ∷ []) (carried_out here (plan_of_touch here key exptime o))) r.held
      ∙ ap (λ o. ended here (key ∷ []) (option_map (λ gone. (record here { counter = old.counter; places = put_behind (length gone) key item old.places }, reply.Word word.Touched)) o)) r.fits
      ∙ ap (λ p. (record here { places = p }, reply.Word word.Touched)) (sym r.places)
      ∙ ap (λ s. (s, reply.Word word.Touched)) (sym e))

  -- `touch`, where the item may not get to be sticky
  pub touch_no_room : (exptime : ℤ) (new : CacheState) → ((item : Item) → found key old.places ≡ Some item → evicted_for key (with_expiry (expiry_at (max old.latest now) exptime) item) old.places ≡ None) → new ≡ here
      → Acts old now (act.touch key exptime) (reply.Word word.OutOfMemory) new
  touch_no_room exptime new none e =
      let item = with_expiry (expiry_at (max old.latest now) exptime) live.item in
      inl (ap (λ s. ended s (key ∷ []) (carried_out s (plan_of_touch s key exptime (found key s.places)))) live_start
      ∙ ap (λ o. ended here (key ∷ []) (carried_out here (plan_of_touch here key exptime o))) live.there
      ∙ ap (λ o. ended here (key ∷ []) (option_map (λ gone. (record here { counter = old.counter; places = put_behind (length gone) key item old.places }, reply.Word word.Touched)) o)) (none live.item live.there)
      ∙ ap (λ s. (s, reply.Word word.OutOfMemory)) (sym e))

  pub touch_refused : (exptime : ℤ) (new : CacheState) → ((item : Item) → found key old.places ≡ Some item → (is_sticky (expiry_of item) ≢ is_sticky (expiry_at (max old.latest now) exptime)) × (evicted_for key (with_expiry (expiry_at (max old.latest now) exptime) item) old.places ≢ None))
      → new ≡ old → Acts old now (act.touch key exptime) (reply.Word word.NoMemory) new
  touch_refused exptime new wants e =
      let w = wants live.item live.there in
      inr (
        (live.item, ap (λ s. found key s.places) live_start ∙ live.there, w.0, λ none. w.1 (sym (ap (λ s. room_for s key (with_expiry (expiry_at (max old.latest now) exptime) live.item)) live_start) ∙ none)),
        refl,
        e,
      )

-- another expiry, and a use of the key

module _ (latest : ℕ) (key : List ℕ) (expiry : Expiry) (old new : Places Item) (h : HasExpiry key expiry old new) where
  expiry_is : (item : Item) → expiry_of (with_expiry expiry item) ≡ expiry
  expiry_is (key_value flags was unique value) = refl
  expiry_is (collection attrs contents) = refl

  put_is : put_behind 0 key (with_expiry expiry h.item) old ≡ new
  put_is = (λ i. placed (sticky_stays expiry h.item i) key (with_expiry expiry h.item) (evicted-none key old i)) ∙ sym h.places

  pub set_in_step : (used_new : Places Item) → used_new ≡ cond (has_expired latest expiry) new (brought_to_front key new) → HasExpiryInStep latest key expiry old used_new
  set_in_step used_new e =
      let item = with_expiry expiry h.item in
      record {
        item = h.item;
        held = h.held;
        fits = h.fits;
        places =
            e ∙ ap (λ q. cond (has_expired latest expiry) q (brought_to_front key q)) (sym put_is)
            ∙ sym (used_held latest key (put_behind 0 key item old) item (has_expired latest expiry) (found-placed key (is_sticky (expiry_of item)) item (evicted key 0 old)) (ap (has_expired latest) (expiry_is h.item)));
      }
