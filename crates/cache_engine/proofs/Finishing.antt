-- What the calls of a step that names one key leave together.
use Rattle.std.proofs.Common.{◌≡◌, ℕ, Bool, true, false, cond, not, List, [], ◌∷◌, length, Option, Some, None, is_some, pos, ◌-ℤ◌, refl, sym, ap, ◌∙◌, subst}
use Rattle.std.specs.Option.{option_map_or}
use Rattle.arc_core.specs.Item.{Item, size_of, expiry_of, has_expired, is_sticky}
use Rattle.arc_core.specs.Places.{Places, found, brought_to_front, without}
use Rattle.arc_core.specs.Room.{room, evicted}
use Rattle.arc_core.specs.Step.{sticky_size, without_expired, unexpired, used, used_at, put_behind}
use Rattle.arc_core.specs.CacheState.{ArePlaced}
use Rattle.byte_account.specs.Weight.{weight_under}
use Rattle.byte_account.proofs.FoundLaws.{found-placed, found-evicted, found-without}
use Rattle.byte_account.proofs.MovedLaws.{touched-new, touched-anew, room-without}
use Rattle.cache_engine.specs.declared.key_state.KeyState.{KeyState}
use Rattle.cache_engine.specs.declared.key_state.KeyState.TheVariants as key_state
use Rattle.cache_engine.specs.Changes.{evicted_for, IsPutBehind}
use Rattle.cache_engine.specs.Starting.{key_state_of, is_held, live_of, moves, IsPutInStep}
use Rattle.cache_engine.proofs.ItemPlaces.{none_less, sticky_held}

some_state : (late : Bool) → is_held (cond late key_state.Expired key_state.Live) ≡ true
some_state true = refl
some_state false = refl

-- whether an item is held, by how its key stands
pub held_by_state : (latest : ℕ) (o : Option Item) → is_held (key_state_of latest o) ≡ is_some o
held_by_state latest None = refl
held_by_state latest (Some item) = some_state (has_expired latest (expiry_of item))

-- the places at the start of a step, by what is found under its key

pub start_absent : (latest : ℕ) (key : List ℕ) (places : Places Item) → found key places ≡ None → unexpired latest (key ∷ []) places ≡ places
start_absent latest key places h = ap (λ o. without_expired latest key o places) h

by_time : (latest : ℕ) (key : List ℕ) (places : Places Item) (old : Item) (late : Bool) → found key places ≡ Some old → has_expired latest (expiry_of old) ≡ late → unexpired latest (key ∷ []) places ≡ cond late (without key places) places
by_time latest key places old late h e = ap (λ o. without_expired latest key o places) h ∙ ap (λ b. cond b (without key places) places) e

pub start_live : (latest : ℕ) (key : List ℕ) (places : Places Item) (old : Item) → found key places ≡ Some old → has_expired latest (expiry_of old) ≡ false → unexpired latest (key ∷ []) places ≡ places
start_live latest key places old = by_time latest key places old false

pub start_expired : (latest : ℕ) (key : List ℕ) (places : Places Item) (old : Item) → found key places ≡ Some old → has_expired latest (expiry_of old) ≡ true → unexpired latest (key ∷ []) places ≡ without key places
start_expired latest key places old = by_time latest key places old true

-- what using a key leaves, by what is found there

pub used_absent : (latest : ℕ) (key : List ℕ) (places : Places Item) → found key places ≡ None → used latest (key ∷ []) places ≡ places
used_absent latest key places h = ap (λ o. used_at latest key o places) h

pub used_held : (latest : ℕ) (key : List ℕ) (places : Places Item) (item : Item) (late : Bool) → found key places ≡ Some item → has_expired latest (expiry_of item) ≡ late → used latest (key ∷ []) places ≡ cond late places (brought_to_front key places)
used_held latest key places item late h e = ap (λ o. used_at latest key o places) h ∙ ap (λ b. cond b places (brought_to_front key places)) e

same_cond : {A : Type 0} (b : Bool) (x y : A) → x ≡ y → cond b x y ≡ x
same_cond true x y h = refl
same_cond false x y h = sym h

flip_cond : {A : Type 0} (b : Bool) (x y : A) → cond (not b) x y ≡ cond b y x
flip_cond true x y = refl
flip_cond false x y = refl

module _ (latest : ℕ) (key : List ℕ) (item : Item) (places : Places Item) where
  -- a new item is in front already
  pub used_new : (n : ℕ) → found key places ≡ None → used latest (key ∷ []) (put_behind n key item places) ≡ put_behind n key item places
  used_new n absent =
      let side = is_sticky (expiry_of item) in
      used_held latest key (put_behind n key item places) item (has_expired latest (expiry_of item)) (found-placed key side item (evicted key n places)) refl
      ∙ same_cond (has_expired latest (expiry_of item)) (put_behind n key item places) (brought_to_front key (put_behind n key item places)) (sym (touched-new key side item (evicted key n places) (found-evicted key n places ∙ absent)))

  put_absent : (new : Places Item) → found key places ≡ None → IsPutBehind key item places new → IsPutInStep latest key item places new
  put_absent new absent p = record {
    gone = p.gone;
    fits = ap (evicted_for key item) (start_absent latest key places absent) ∙ p.fits;
    places = p.places ∙ sym (used_new (length p.gone) absent) ∙ ap (λ s. used latest (key ∷ []) (put_behind (length p.gone) key item s)) (sym (start_absent latest key places absent));
  }

  put_live : (put new : Places Item) (old : Item) → found key places ≡ Some old → has_expired latest (expiry_of old) ≡ false → IsPutBehind key item places put
      → new ≡ cond (not (has_expired latest (expiry_of item))) (brought_to_front key put) put → IsPutInStep latest key item places new
  put_live put new old there lives p e = record {
    gone = p.gone;
    fits = ap (evicted_for key item) (start_live latest key places old there lives) ∙ p.fits;
    places =
        e ∙ flip_cond (has_expired latest (expiry_of item)) (brought_to_front key put) put ∙ ap (λ q. cond (has_expired latest (expiry_of item)) q (brought_to_front key q)) p.places
        ∙ sym (used_held latest key (put_behind (length p.gone) key item places) item (has_expired latest (expiry_of item)) (found-placed key (is_sticky (expiry_of item)) item (evicted key (length p.gone) places)) refl)
        ∙ ap (λ s. used latest (key ∷ []) (put_behind (length p.gone) key item s)) (sym (start_live latest key places old there lives));
  }

  -- room, where the key's item has expired
  room_anew : (old : Item) → ArePlaced places → found key places ≡ Some old → evicted_for key item (without key places) ≡ evicted_for key item places
  room_anew old placed there =
      ap (λ o. room size_of (without key places) key (pos (size_of key item) -ℤ pos (option_map_or (size_of key) o 0)) (pos (sticky_size key item) -ℤ pos (option_map_or (sticky_size key) o 0))) (found-without key places)
      ∙ (λ i. room size_of (without key places) key (none_less (size_of key item) i) (none_less (sticky_size key item) i))
      ∙ room-without key size_of old (size_of key item) (sticky_size key old) (sticky_size key item) places placed.once there (sym (sticky_held key places placed) ∙ ap (weight_under sticky_size key) there)
      ∙ ap (λ o. room size_of places key (pos (size_of key item) -ℤ pos (option_map_or (size_of key) o 0)) (pos (sticky_size key item) -ℤ pos (option_map_or (sticky_size key) o 0))) (sym there)

  room_expired : (old : Item) → ArePlaced places → found key places ≡ Some old → has_expired latest (expiry_of old) ≡ true → evicted_for key item (unexpired latest (key ∷ []) places) ≡ evicted_for key item places
  room_expired old once there late = ap (evicted_for key item) (start_expired latest key places old there late) ∙ room_anew old once there

used_anew : (latest : ℕ) (key : List ℕ) (item : Item) (places : Places Item) (n : ℕ) → used latest (key ∷ []) (put_behind n key item (without key places)) ≡ put_behind n key item (without key places)
used_anew latest key item places n = used_new latest key item (without key places) n (found-without key places)

pub late_of : ℕ → Option Item → Bool
late_of latest None = false
late_of latest (Some old) = has_expired latest (expiry_of old)

pub late_is : (latest : ℕ) (o : Option Item) (old : Item) → o ≡ Some old → has_expired latest (expiry_of old) ≡ late_of latest o
unfolding late_of
late_is latest o old h = sym (ap (late_of latest) h)

module _ (latest : ℕ) (key : List ℕ) (item : Item) (places : Places Item) where
  put_expired : (put new : Places Item) (old : Item) → ArePlaced places → found key places ≡ Some old → has_expired latest (expiry_of old) ≡ true → IsPutBehind key item places put → new ≡ brought_to_front key put → IsPutInStep latest key item places new
  put_expired put new old once there late p e = record {
    gone = p.gone;
    fits = room_expired latest key item places old once there late ∙ p.fits;
    places =
        e ∙ ap (brought_to_front key) p.places ∙ touched-anew key (is_sticky (expiry_of item)) item (length p.gone) places ∙ sym (used_anew latest key item places (length p.gone))
        ∙ ap (λ s. used latest (key ∷ []) (put_behind (length p.gone) key item s)) (sym (start_expired latest key places old there late));
  }

  -- an item was put, and its key used where it moves

  done_by : (o : Option Item) (late : Bool) (s : KeyState) (put new : Places Item) → ArePlaced places → found key places ≡ o → ((old : Item) → o ≡ Some old → has_expired latest (expiry_of old) ≡ late) → s ≡ key_state_of latest o
      → IsPutBehind key item places put → new ≡ cond (moves latest s (expiry_of item)) (brought_to_front key put) put → IsPutInStep latest key item places new
  done_by None late s put new once h time is p e =
      put_absent latest key item places new h (subst (λ q. IsPutBehind key item places q) (sym (e ∙ ap (λ t. cond (moves latest t (expiry_of item)) (brought_to_front key put) put) is)) p)
  done_by (Some old) true s put new once h time is p e =
      put_expired put new old once h (time old refl) p (e ∙ ap (λ t. cond (moves latest t (expiry_of item)) (brought_to_front key put) put) (is ∙ ap (λ b. cond b key_state.Expired key_state.Live) (time old refl)))
  done_by (Some old) false s put new once h time is p e =
      put_live latest key item places put new old h (time old refl) p (e ∙ ap (λ t. cond (moves latest t (expiry_of item)) (brought_to_front key put) put) (is ∙ ap (λ b. cond b key_state.Expired key_state.Live) (time old refl)))

  pub put_done : (s : KeyState) (put new : Places Item) → ArePlaced places → s ≡ key_state_of latest (found key places) → IsPutBehind key item places put
      → new ≡ cond (moves latest s (expiry_of item)) (brought_to_front key put) put → IsPutInStep latest key item places new
  put_done s put new once is p e = done_by (found key places) (late_of latest (found key places)) s put new once refl (late_is latest (found key places)) is p e

  -- there is no room either where the key's item has expired

  room_by : (o : Option Item) (late : Bool) → ArePlaced places → found key places ≡ o → ((old : Item) → o ≡ Some old → has_expired latest (expiry_of old) ≡ late) → evicted_for key item (unexpired latest (key ∷ []) places) ≡ evicted_for key item places
  room_by None late once h time = ap (evicted_for key item) (start_absent latest key places h)
  room_by (Some old) true once h time = room_expired latest key item places old once h (time old refl)
  room_by (Some old) false once h time = ap (evicted_for key item) (start_live latest key places old h (time old refl))

  pub no_room : ArePlaced places → evicted_for key item places ≡ None → evicted_for key item (unexpired latest (key ∷ []) places) ≡ None
  no_room once none = room_by (found key places) (late_of latest (found key places)) once refl (late_is latest (found key places)) ∙ none

-- what is found at the start of a step is what has not expired

found_by : (latest : ℕ) (key : List ℕ) (places : Places Item) (o : Option Item) (late : Bool) → found key places ≡ o → ((old : Item) → o ≡ Some old → has_expired latest (expiry_of old) ≡ late) → found key (unexpired latest (key ∷ []) places) ≡ live_of latest o
found_by latest key places None late h time = ap (found key) (start_absent latest key places h) ∙ h
found_by latest key places (Some old) true h time =
    ap (found key) (start_expired latest key places old h (time old refl)) ∙ found-without key places ∙ sym (ap (λ b. cond b None (Some old)) (time old refl))
found_by latest key places (Some old) false h time =
    ap (found key) (start_live latest key places old h (time old refl)) ∙ h ∙ sym (ap (λ b. cond b None (Some old)) (time old refl))

pub found_live : (latest : ℕ) (key : List ℕ) (places : Places Item) → found key (unexpired latest (key ∷ []) places) ≡ live_of latest (found key places)
found_live latest key places = found_by latest key places (found key places) (late_of latest (found key places)) refl (late_is latest (found key places))

-- what using a key leaves whose item has expired

expired_by : (latest : ℕ) (key : List ℕ) (places new : Places Item) (o : Option Item) (late : Bool) → found key places ≡ o → ((old : Item) → o ≡ Some old → has_expired latest (expiry_of old) ≡ late)
    → key_state.Expired ≡ key_state_of latest o → new ≡ without key places → new ≡ used latest (key ∷ []) (unexpired latest (key ∷ []) places)
expired_by latest key places new None late h time is e = absurd (cc)
expired_by latest key places new (Some old) false h time is e =
    absurd (let k : key_state.Expired ≡ key_state.Live = is ∙ ap (λ b. cond b key_state.Expired key_state.Live) (time old refl) in cc)
expired_by latest key places new (Some old) true h time is e =
    e ∙ sym (used_absent latest key (without key places) (found-without key places)) ∙ sym (ap (used latest (key ∷ [])) (start_expired latest key places old h (time old refl)))

pub used_expired : (latest : ℕ) (key : List ℕ) (places new : Places Item) → key_state.Expired ≡ key_state_of latest (found key places) → new ≡ without key places → new ≡ used latest (key ∷ []) (unexpired latest (key ∷ []) places)
used_expired latest key places new = expired_by latest key places new (found key places) (late_of latest (found key places)) refl (late_is latest (found key places))
