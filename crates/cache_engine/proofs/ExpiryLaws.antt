-- What the calls that give an item another expiry leave together.
use Rattle.std.proofs.Common.{◌≡◌, ◌≢◌, ◌≤ℤ◌, ℕ, ◌+◌, ◌≤◌, ◌<◌, ◌^◌, Bool, true, false, cond, not, List, [], ◌∷◌, length, IsSome, Option, Some, None, is_some, ℤ, pos, ◌-ℤ◌, refl, sym, ap, ◌∙◌, subst, arith}
use Rattle.std.proofs.lemmas.Int.{ints}
use Rattle.std.specs.Bool.{beq}
use Rattle.std.specs.Option.{option_flatten, option_map_or}
use Rattle.std.specs.FinMap as finite
use Rattle.arc_core.specs.declared.items.Expiry.{Expiry}
use Rattle.arc_core.specs.Item.{Item, IsItem, key_value, collection, size_of, is_sticky, with_expiry}
use Rattle.arc_core.specs.Places.{Places, HasEachKeyOnce, found, placed, refilled, total_of, sticky_total_of}
use Rattle.arc_core.specs.Room.{share_fits, room}
use Rattle.byte_account.specs.declared.room.Room.TheVariants.{Fits, Nothing}
use Rattle.byte_account.specs.Accounting.{HasShareFor}
use Rattle.byte_account.specs.Weight.{place_weight, weight_under}
use Rattle.byte_account.specs.ShelfWords.{item_at, on_side, restuck, weight_at, room_answer}
use Rattle.byte_account.proofs.PlacesLaws.{total-refilled}
use Rattle.byte_account.proofs.FoundLaws.{found-refilled, found-restuck}
use Rattle.byte_account.proofs.ShareLaws.{sticky_total-refilled, sticky_under-is}
use Rattle.byte_account.proofs.RoomLaws.{room-nothing_added, fits_nothing_added}
use Rattle.byte_account.proofs.StoreLaws.{contains-refilled, refilled-refilled, placed-held}
use Rattle.byte_account.proofs.MovedLaws.{refilled-made}
use Rattle.byte_account.proofs.PutLaws.{fits_within}
use Rattle.coll_items.proofs.SizeLemmas.{contents_small}
use Rattle.cache_engine.specs.declared.stored.Stored.{Stored}
use Rattle.cache_engine.specs.Stored.{item_of, Holds}
use Rattle.cache_engine.specs.Putting.{weigh, sticky_of}
use Rattle.cache_engine.specs.SettingExpiry.{IsHeld, sticky_added, room_for_expiry, HasExpiryThere, HasExpiryOnShelf, HasNoRoomOnShelf, IsRefusedOnShelf, Crosses}
use Rattle.cache_engine.proofs.Holding.{once, held, held_on, held_keeps}

-- an expiry has no size
size_stays : (key : List ℕ) (expiry : Expiry) (item : Item) → size_of key (with_expiry expiry item) ≡ size_of key item
size_stays key expiry (key_value flags old unique value) = refl
size_stays key expiry (collection attrs contents) = refl

same_item : (o : Option (Option Stored)) (was item : Stored) → o ≡ Some (Some was) → Some item ≡ option_flatten o → item ≡ was
same_item o was item h k = let e : ◌≡◌ {A = Option Stored} (Some item) (Some was) = k ∙ ap option_flatten h in cc

two_some : (x y : Stored) → ◌≡◌ {A = Option (Option Stored)} (Some (Some x)) (Some (Some y)) → x ≡ y
two_some x y h = cc

abbrev pw : List ℕ → Option Stored → ℕ
pw = place_weight weigh

size_small : (key : List ℕ) (item : Item) → length key ≤ 16000 → IsItem item → size_of key item < 2 ^ 63
size_small key (key_value flags expiry unique value) short is = omega (arith, short, is)
size_small key (collection attrs contents) short is = omega (arith, short, contents_small attrs contents is)

-- what is held has a small stated size
pub held_small : (key : List ℕ) (places : Places (Option Stored)) (item : Stored) → length key ≤ 16000 → Holds places → item_at key places ≡ Some item → weigh key item < 2 ^ 63
held_small key places item short holds at = size_small key (item_of item) short (held_keeps key places item holds at)

-- the item is taken out of its place and laid there again
module _ (key : List ℕ) (expiry : Expiry) (places : Places (Option Stored)) (was item is : Stored) (there : found key places ≡ Some (Some was)) (lifted : Some item ≡ item_at key places) (expires : item_of is ≡ with_expiry expiry (item_of item)) where
  pub there_hollow : found key (refilled key None places) ≡ Some None
  there_hollow = found-refilled key None (Some was) places there

  expires_was : item_of is ≡ with_expiry expiry (item_of was)
  expires_was = expires ∙ ap (λ i. with_expiry expiry (item_of i)) (same_item (found key places) was item there lifted)

  same_weight : weigh key is ≡ weigh key was
  same_weight = ap (size_of key) expires_was ∙ size_stays key expiry (item_of was)

  pub there_free : HasEachKeyOnce places → total_of pw places ≤ places.limit → total_of pw (refilled key None places) + weigh key is ≤ places.limit
  there_free once within =
      let sum = total-refilled pw key (Some was) None places once there in
      omega (arith, same_weight)

  share_by : HasEachKeyOnce places → sticky_total_of pw places ≤ places.share → (b : Bool) → finite.contains_key places.sticky key ≡ b → HasShareFor b pw (refilled key None places) (weigh key is)
  share_by one within true e =
      let sum = sticky_total-refilled pw key None places in
      let under = sticky_under-is pw key places (weigh key was) one (ap (weight_under pw key) there) in
      omega (arith, same_weight, sum, under, ap (λ b. cond b (weigh key was) 0) e, ap (λ b. cond b (pw key None) (pw key None)) e)
  share_by one within false e = tt

  pub there_share : HasEachKeyOnce places → sticky_total_of pw places ≤ places.share → HasShareFor (finite.contains_key (refilled key None places).sticky key) pw (refilled key None places) (weigh key is)
  there_share one within = subst (λ b. HasShareFor b pw (refilled key None places) (weigh key is)) (sym (contains-refilled key None places)) (share_by one within (finite.contains_key places.sticky key) refl)

  pub has_expiry_there : (new : Places (Option Stored)) → new ≡ refilled key (Some is) (refilled key None places) → HasExpiryThere key expiry places new
  has_expiry_there new e = record { was = was; is = is; held = there; expires = expires_was; places = e ∙ refilled-refilled key None (Some is) places }

-- what room answers where no bytes are added but to the sticky items

no_one : {A : Type 0} (xs : List A) → length xs ≡ 0 → xs ≡ []
no_one [] h = refl
no_one (x ∷ xs) h = absurd (omega arith)

roomy_by : {A : Type 0} (R : Option (List A)) (n : ℕ) (b : Bool) → Fits n ≡ room_answer R → Fits n ≡ cond b (Fits 0) Nothing → R ≡ Some []
roomy_by None n b h e = absurd (cc)
roomy_by (Some gone) n false h e = absurd (cc)
roomy_by (Some gone) n true h e = ap (λ l. Some l) (no_one gone (let none : Fits (length gone) ≡ Fits 0 = sym h ∙ e in cc))

pub none_by : {A : Type 0} (R : Option (List A)) → Nothing ≡ room_answer R → R ≡ None
none_by None h = refl
none_by (Some gone) h = absurd (cc)

other : (a b : Bool) → a ≢ b → not b ≡ a
other true true h = absurd (h refl)
other false false h = absurd (h refl)
other true false h = refl
other false true h = refl

-- nothing is no more than nothing
pub none_more : pos 0 ≤ℤ pos 0
none_more = omega (arith, ints)

no_more : (n : ℕ) → (pos n -ℤ pos n) ≤ℤ pos 0
no_more n = omega (arith, ints)

module _ (key : List ℕ) (expiry : Expiry) (places : Places (Option Stored)) (holds : Holds places) where
  pub not_held : IsHeld key places → item_at key places ≡ None → ⊥
  not_held h k = let e : ◌≡◌ {A = Option Stored} None (Some h.0) = sym k ∙ ap option_flatten h.1 in cc

  -- the item stays on its side
  module _ (item : Stored) (at : item_at key places ≡ Some item) (side : sticky_of item ≡ is_sticky expiry) (within : total_of pw places ≤ places.limit) (share : sticky_total_of pw places ≤ places.share) where
    there_fits : (was : Stored) → item ≡ was → room_for_expiry expiry key was places ≡ Some []
    there_fits was same =
        let b = is_sticky expiry in
        let none : sticky_added expiry key was ≡ pos (cond b (weigh key was) 0) -ℤ pos (cond b (weigh key was) 0) = ap (λ s. pos (cond b (weigh key was) 0) -ℤ pos (cond s (weigh key was) 0)) (ap sticky_of (sym same) ∙ side) in
        let kept : share_fits pw places (sticky_added expiry key was) ≡ true =
        ap (share_fits pw places) none ∙ fits_nothing_added places.share (sticky_total_of pw places) _ share (no_more (cond b (weigh key was) 0)) in
        room-nothing_added pw places key (pos 0) (sticky_added expiry key was) (fits_nothing_added places.limit (total_of pw places) (pos 0) within (no_more 0))
        ∙ ap (λ k. cond k (Some []) None) kept

    pub set_there : (new : Places (Option Stored)) → HasExpiryThere key expiry places new → HasExpiryOnShelf key expiry places new
    set_there new r =
        let same : item ≡ r.was = two_some item r.was (sym (held key places item holds.filled at) ∙ r.held) in
        let on : on_side (is_sticky expiry) key places ≡ Some (Some r.was) = subst (λ s. on_side s key places ≡ Some (Some r.was)) side (held_on key places item holds at ∙ ap (λ i. Some (Some i)) same) in
        record {
          was = r.was;
          is = r.is;
          held = r.held;
          fits = there_fits r.was same;
          expires = r.expires;
          places = r.places ∙ sym (placed-held key (is_sticky expiry) (Some r.was) (Some r.is) places (once places holds) on);
        }

  -- the item changes sides
  module _ (sticky_extra : ℤ) (crosses : Crosses expiry key places sticky_extra) where
    abbrev was : Stored
    was = crosses.was

    on : on_side (sticky_of was) key places ≡ Some (Some was)
    on = held_on key places was holds (ap option_flatten crosses.held)

    pub across_place : IsSome (on_side (not (is_sticky expiry)) key places)
    across_place = subst (λ s. IsSome (on_side s key places)) (sym (other (sticky_of was) (is_sticky expiry) crosses.changes)) (ap is_some on)

    across_share_by : (b : Bool) → is_sticky expiry ≡ b → share_fits pw places sticky_extra ≡ true → HasShareFor b pw places (weight_at pw key places)
    across_share_by false e kept = tt
    across_share_by true e kept =
        let b = is_sticky expiry in
        let up = fits_within places.share (sticky_total_of pw places) (cond b (weigh key was) 0) (cond (sticky_of was) (weigh key was) 0) sticky_extra crosses.added kept in
        let off : sticky_of was ≡ false = sym (other (sticky_of was) b crosses.changes) ∙ ap not e in
        let weight : weight_at pw key places ≡ weigh key was = ap (weight_under pw key) crosses.held in
        omega (arith, up, weight, ap (λ s. cond s (weigh key was) 0) e, ap (λ s. cond s (weigh key was) 0) off)

    pub across_share : share_fits pw places sticky_extra ≡ true → HasShareFor (is_sticky expiry) pw places (weight_at pw key places)
    across_share kept = across_share_by (is_sticky expiry) refl kept

    across_fits : (n : ℕ) → Fits n ≡ room_answer (room pw places key (pos 0) sticky_extra) → Fits n ≡ cond (share_fits pw places sticky_extra) (Fits 0) Nothing → room_for_expiry expiry key was places ≡ Some []
    across_fits n h e = ap (room pw places key (pos 0)) (sym crosses.added) ∙ roomy_by (room pw places key (pos 0) sticky_extra) n (share_fits pw places sticky_extra) h e

    pub across_no_room : Nothing ≡ room_answer (room pw places key (pos 0) sticky_extra) → HasNoRoomOnShelf key expiry places places
    across_no_room h = record { was = was; held = crosses.held; none = ap (room pw places key (pos 0)) (sym crosses.added) ∙ none_by (room pw places key (pos 0) sticky_extra) h; same = refl }

    module _ (n : ℕ) (h : Fits n ≡ room_answer (room pw places key (pos 0) sticky_extra)) (e : Fits n ≡ cond (share_fits pw places sticky_extra) (Fits 0) Nothing) where
      pub across_refused : (new : Places (Option Stored)) → new ≡ places → IsRefusedOnShelf key expiry places new
      across_refused new same = record { was = was; held = crosses.held; fits = across_fits n h e; changes = crosses.changes; same = same }

      pub set_across : (moved new : Places (Option Stored)) → moved ≡ restuck (is_sticky expiry) key places → HasExpiryThere key expiry moved new → HasExpiryOnShelf key expiry places new
      set_across moved new moved_is r =
          let made : moved ≡ placed (is_sticky expiry) key (Some was) places = moved_is ∙ ap (λ o. option_map_or (λ x. placed (is_sticky expiry) key x places) o places) crosses.held in
          let there : found key moved ≡ Some (Some was) = ap (found key) moved_is ∙ found-restuck key (is_sticky expiry) (Some was) places crosses.held in
          let same : ◌≡◌ {A = Option (Option Stored)} (Some (Some r.was)) (Some (Some was)) = sym r.held ∙ there in
          record {
            was = was;
            is = r.is;
            held = crosses.held;
            fits = across_fits n h e;
            expires = r.expires ∙ ap (λ i. with_expiry expiry (item_of i)) (two_some r.was was same);
            places = r.places ∙ ap (refilled key (Some r.is)) made ∙ refilled-made key (is_sticky expiry) (Some was) (Some r.is) places (once places holds);
          }

differs : (a b : Bool) → not (beq a b) ≡ true → a ≢ b
differs true true h = absurd (cc)
differs false false h = absurd (cc)
differs true false h = λ same. absurd (cc)
differs false true h = λ same. absurd (cc)

alike : (a b : Bool) → not (beq a b) ≡ false → a ≡ b
alike true true h = refl
alike false false h = refl
alike true false h = absurd (cc)
alike false true h = absurd (cc)

crossed : (a b : Bool) (n : ℕ) → a ≢ b → pos (cond b n 0) -ℤ pos (cond b 0 n) ≡ pos (cond b n 0) -ℤ pos (cond a n 0)
crossed true true n h = absurd (h refl)
crossed false false n h = absurd (h refl)
crossed true false n h = refl
crossed false true n h = refl

module _ (key : List ℕ) (expiry : Expiry) (places : Places (Option Stored)) (holds : Holds places) (item : Stored) (at : item_at key places ≡ Some item) (was_sticky sticky : Bool) (was_is : was_sticky ≡ sticky_of item) (is : sticky ≡ is_sticky expiry) where
  pub does_cross : (size : ℕ) (sticky_extra : ℤ) → not (beq was_sticky sticky) ≡ true → size ≡ weigh key item → sticky_extra ≡ pos (cond sticky size 0) -ℤ pos (cond sticky 0 size) → Crosses expiry key places sticky_extra
  does_cross size sticky_extra h size_is e =
      let apart : sticky_of item ≢ is_sticky expiry = λ same. differs was_sticky sticky h (was_is ∙ same ∙ sym is) in
      record {
        was = item;
        held = held key places item holds.filled at;
        changes = apart;
        added = e ∙ (λ i. pos (cond (is i) (size_is i) 0) -ℤ pos (cond (is i) 0 (size_is i))) ∙ crossed (sticky_of item) (is_sticky expiry) (weigh key item) apart;
      }

  pub does_not_cross : not (beq was_sticky sticky) ≡ false → sticky_of item ≡ is_sticky expiry
  does_not_cross h = sym was_is ∙ alike was_sticky sticky h ∙ is
