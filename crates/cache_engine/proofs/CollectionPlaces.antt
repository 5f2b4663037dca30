-- What changes of a collection on the shelf leave, and what they leave of the items.
use Rattle.std.proofs.Common.{◌≡◌, ◌≤ℤ◌, ℕ, ◌+◌, ◌≤◌, Bool, true, false, cond, ◌||◌, List, [], ◌∷◌, length, nat_le, Option, Some, None, IsSome, is_some, option_map, bytes_eq, ℤ, pos, ◌-ℤ◌, refl, sym, ap, ◌∙◌, subst, arith}
use Rattle.std.proofs.lemmas.Int.{ints}
use Rattle.std.proofs.lemmas.Map.Steps.{set_value_same}
use Rattle.std.specs.Option.{option_or, option_flatten}
use Rattle.std.specs.Map.{lookup, set_value}
use Rattle.std.specs.Ordering.{nat_cmp}
use Rattle.std.specs.Cmp.Lexicographic.{slice_cmp}
use Rattle.std.specs.FinMap.{FinMap}
use Rattle.std.specs.FinMap as finite
use Rattle.arc_core.specs.Places.{Places, HasEachKeyOnce, found, others, placed, refilled, without, total_of, sticky_total_of}
use Rattle.arc_core.specs.Room.{room, survivors, evicted}
use Rattle.byte_account.specs.Accounting.{HasShareFor}
use Rattle.byte_account.specs.LeastEviction.{IsLeastEviction}
use Rattle.byte_account.specs.ShelfWords.{item_at, on_side, room_answer, cancelled, cancelled_at}
use Rattle.byte_account.specs.Weight.{place_weight, weight_under}
use Rattle.byte_account.specs.declared.room.Room.TheVariants.{Fits, Nothing}
use Rattle.byte_account.proofs.EvictionLaws.{evicted_makes_room}
use Rattle.byte_account.proofs.FoundLaws.{found-evicted, found-refilled}
use Rattle.byte_account.proofs.MovedLaws.{evicted-none, on_side-evicted}
use Rattle.byte_account.proofs.PlacesLaws.{HasEachKeyOnce-evicted, total-refilled}
use Rattle.byte_account.proofs.PutLaws.{fits_within}
use Rattle.byte_account.proofs.RoomLaws.{fits_nothing_added, least_answer, room-nothing_added}
use Rattle.byte_account.proofs.ShareLaws.{sticky_total-refilled, sticky_under-is}
use Rattle.byte_account.proofs.ShelfLists.{set_value-absent}
use Rattle.byte_account.proofs.StickyMaps.{get-insert, get-remove, put_back, same_map}
use Rattle.byte_account.proofs.StickySums.{insert-replaces}
use Rattle.byte_account.proofs.StoreLaws.{contains-refilled, placed-held, refilled-refilled}
use Rattle.cache_engine.specs.declared.stored.Stored.{Stored}
use Rattle.arc_core.specs.declared.attributes.Attrs.{Attrs}
use Rattle.arc_core.specs.Item.{Item, Contents, collection, IsItem, contents_size, size_of, expiry_of, is_sticky}
use Rattle.coll_items.specs.Changing.{inserted}
use Rattle.coll_items.specs.declared.changes.Insertion.{Insertion}
use Rattle.cache_engine.specs.Stored.{item_of, Holds}
use Rattle.cache_engine.specs.Putting.{weigh, sticky_of}
use Rattle.cache_engine.specs.Changing.{with_element, sticky_part, room_for_change, SuitsOnShelf, HasRoomFor, HasPlaceFor, HasChanged, HasNoRoomToChange, HasStayed}
use Rattle.cache_engine.proofs.ExpiryLaws.{none_by}
use Rattle.cache_engine.proofs.Holding.{once, held, held_on}

module _ {X : Type 0} (key : List ℕ) where
  set_by : (x : X) (place : List ℕ × X) (older : List (List ℕ × X)) (b : Bool) → bytes_eq key place.0 ≡ b
      → set_value (bytes_eq key) (place ∷ older) x ≡ cond b ((place.0, x) ∷ older) (place ∷ set_value (bytes_eq key) older x)
  set_by x place older b e = ap (λ t. cond t ((place.0, x) ∷ older) (place ∷ set_value (bytes_eq key) older x)) e

  others-set_value : (x : X) (shelf : List (List ℕ × X)) → others key (set_value (bytes_eq key) shelf x) ≡ others key shelf
  others-set_value x [] = refl
  others-set_value x (place ∷ older) = grind (arith, others-set_value x older)

  survivors_by : (n : ℕ) (place : List ℕ × X) (older : List (List ℕ × X)) (b c : Bool) → bytes_eq key place.0 ≡ b → nat_le n (length (others key older)) ≡ c
      → survivors key n (place ∷ older) ≡ cond (b || c) (place ∷ survivors key n older) (survivors key n older)
  survivors_by n place older b c e f = λ i. cond (e i || f i) (place ∷ survivors key n older) (survivors key n older)

  survivors_set_by : (n : ℕ) (x : X) (place : List ℕ × X) (older : List (List ℕ × X)) (b c : Bool) → bytes_eq key place.0 ≡ b → nat_le n (length (others key older)) ≡ c
      → survivors key n (set_value (bytes_eq key) older x) ≡ set_value (bytes_eq key) (survivors key n older) x
      → survivors key n (set_value (bytes_eq key) (place ∷ older) x) ≡ set_value (bytes_eq key) (survivors key n (place ∷ older)) x
  survivors_set_by n x place older true c e f same =
      ap (survivors key n) (set_by x place older true e) ∙ survivors_by n (place.0, x) older true c e f ∙ sym (set_by x place (survivors key n older) true e)
      ∙ sym (ap (λ l. set_value (bytes_eq key) l x) (survivors_by n place older true c e f))
  survivors_set_by n x place older false true e f same =
      ap (survivors key n) (set_by x place older false e) ∙ survivors_by n place (set_value (bytes_eq key) older x) false true e (ap (λ l. nat_le n (length l)) (others-set_value x older) ∙ f)
      ∙ ap (λ l. place ∷ l) same ∙ sym (set_by x place (survivors key n older) false e) ∙ sym (ap (λ l. set_value (bytes_eq key) l x) (survivors_by n place older false true e f))
  survivors_set_by n x place older false false e f same =
      ap (survivors key n) (set_by x place older false e) ∙ survivors_by n place (set_value (bytes_eq key) older x) false false e (ap (λ l. nat_le n (length l)) (others-set_value x older) ∙ f)
      ∙ same ∙ sym (ap (λ l. set_value (bytes_eq key) l x) (survivors_by n place older false false e f))

  survivors-set_value : (n : ℕ) (x : X) (shelf : List (List ℕ × X)) → survivors key n (set_value (bytes_eq key) shelf x) ≡ set_value (bytes_eq key) (survivors key n shelf) x
  survivors-set_value n x [] = refl
  survivors-set_value n x (place ∷ older) = survivors_set_by n x place older (bytes_eq key place.0) (nat_le n (length (others key older))) refl refl (survivors-set_value n x older)

  -- eviction does not see what stands in the key's place
  pub evicted-refilled : (n : ℕ) (x : X) (places : Places X) → evicted key n (refilled key x places) ≡ refilled key x (evicted key n places)
  evicted-refilled n x places =
      λ i. record {
        shelf = survivors-set_value n x places.shelf i;
        sticky = cond (finite.contains_key places.sticky key) (finite.insert places.sticky key x) places.sticky;
        limit = places.limit;
        share = places.share;
      }

  none_either : (b : Bool) (x : X) (o : Option X) → cond b None (cond b (Some x) o) ≡ cond b None o
  none_either true x o = refl
  none_either false x o = refl

  removed_by : (b : Bool) (x : X) (m : FinMap (slice_cmp nat_cmp) X) → finite.remove (cond b (finite.insert m key x) m) key ≡ finite.remove m key
  removed_by false x m = refl
  removed_by true x m =
      same_map (finite.remove (finite.insert m key x) key) (finite.remove m key)
      (λ q. get-remove (finite.insert m key x) key q ∙ ap (cond (bytes_eq q key) None) (get-insert m key x q) ∙ none_either (bytes_eq q key) x (finite.get m q) ∙ sym (get-remove m key q))

  -- nor does it matter where the place goes
  pub without-refilled : (x : X) (places : Places X) → without key (refilled key x places) ≡ without key places
  without-refilled x places =
      λ i. record { shelf = others-set_value x places.shelf i; sticky = removed_by (finite.contains_key places.sticky key) x places.sticky i; limit = places.limit; share = places.share }

  same_by : (x : X) (places : Places X) (l s : Option X) → lookup (bytes_eq key) places.shelf ≡ l → finite.get places.sticky key ≡ s
      → (IsSome (lookup (bytes_eq key) places.shelf) → finite.get places.sticky key ≡ None)
      → option_or l s ≡ Some x → refilled key x places ≡ places
  same_by x places (Some y) s e f apart h =
      let none = ap (λ o. cond (is_some o) (finite.insert places.sticky key x) places.sticky) (apart (ap is_some e)) in
      λ i. record { shelf = set_value_same (bytes_eq key) places.shelf x (e ∙ h) i; sticky = none i; limit = places.limit; share = places.share }
  same_by x places None s e f apart h =
      let stays = ap (λ o. cond (is_some o) (finite.insert places.sticky key x) places.sticky) (f ∙ h) ∙ sym (insert-replaces (λ k y. 0) places.sticky key x) ∙ put_back places.sticky key x (f ∙ h) in
      λ i. record { shelf = set_value-absent (bytes_eq key) places.shelf x e i; sticky = stays i; limit = places.limit; share = places.share }

  -- what is laid where it stood changes nothing
  pub refilled-same : (x : X) (places : Places X) → HasEachKeyOnce places → found key places ≡ Some x → refilled key x places ≡ places
  refilled-same x places once there = same_by x places (lookup (bytes_eq key) places.shelf) (finite.get places.sticky key) refl refl (once.on_one_side key) there

abbrev pw : List ℕ → Option Stored → ℕ
pw = place_weight weigh

some_some : {A : Type 0} (x y : A) → ◌≡◌ {A = Option A} (Some x) (Some y) → x ≡ y
some_some x y h = cc

-- how many evictions room answers
pub evictions_by : {A : Type 0} (R : Option (List A)) (n : ℕ) → Fits n ≡ room_answer R → option_map length R ≡ Some n
evictions_by None n h = absurd (cc)
evictions_by (Some gone) n h = let same : n ≡ length gone = cc in ap (λ k. Some k) (sym same)

pub gone_by : {A : Type 0} (R : Option (List A)) (n : ℕ) → option_map length R ≡ Some n → (gone : List A) × (R ≡ Some gone) × (length gone ≡ n)
gone_by None n h = absurd (cc)
gone_by (Some gone) n h = (gone, refl, some_some (length gone) n h)

side_there : (b : Bool) (key : List ℕ) (places : Places (Option Stored)) (was : Stored) → HasEachKeyOnce places → on_side b key places ≡ Some (Some was)
    → finite.contains_key places.sticky key ≡ true → b ≡ true
side_there true key places was one on e = refl
side_there false key places was one on e = absurd (let none : finite.contains_key places.sticky key ≡ false = ap is_some (one.on_one_side key (ap is_some on)) in cc)

-- an item changes in its place, behind evictions
module _ (key : List ℕ) (places : Places (Option Stored)) (holds : Holds places) (was is : Stored) (there : found key places ≡ Some (Some was)) (side : sticky_of is ≡ sticky_of was) where
  on : (b : Bool) → sticky_of was ≡ b → on_side b key places ≡ Some (Some was)
  on b e = subst (λ s. on_side s key places ≡ Some (Some was)) e (held_on key places was holds (ap option_flatten there))

  abbrev extra : ℤ
  extra = pos (weigh key is) -ℤ pos (weigh key was)

  abbrev sticky_extra : ℤ
  sticky_extra = pos (sticky_part (item_of is) (weigh key is)) -ℤ pos (sticky_part (item_of was) (weigh key was))

  module _ (n : ℕ) (fits : option_map length (room_for_change key was (item_of is) places) ≡ Some n) where
    least : IsLeastEviction pw places key extra sticky_extra (Fits n)
    least = let g = gone_by (room_for_change key was (item_of is) places) n fits in least_answer pw places key extra sticky_extra (Fits n) (ap Fits (sym g.2) ∙ ap room_answer (sym g.1))

    abbrev left : Places (Option Stored)
    left = evicted key n places

    once_left : HasEachKeyOnce left
    once_left = HasEachKeyOnce-evicted key n places (once places holds)

    there_left : found key left ≡ Some (Some was)
    there_left = found-evicted key n places ∙ there

    module _ (hollow : Places (Option Stored)) (hollow_is : hollow ≡ refilled key None left) where
      laid_hollow : found key hollow ≡ Some None
      laid_hollow = ap (found key) hollow_is ∙ found-refilled key None (Some was) left there_left

      free : total_of pw (refilled key None left) + weigh key is ≤ places.limit
      free =
          let sum = total-refilled pw key (Some was) None left once_left there_left in
          let up = fits_within places.limit (total_of pw left) (weigh key is) (weigh key was) extra refl (evicted_makes_room pw key n places extra sticky_extra least) in
          omega (arith, sum, up)

      laid_free : total_of pw hollow + weigh key is ≤ hollow.limit
      laid_free = subst (λ p. total_of pw p + weigh key is ≤ p.limit) (sym hollow_is) free

      share_by : (b : Bool) → finite.contains_key places.sticky key ≡ b → HasShareFor b pw (refilled key None left) (weigh key is)
      share_by false e = tt
      share_by true e =
          let s : sticky_of was ≡ true = side_there (sticky_of was) key places was (once places holds) (on (sticky_of was) refl) e in
          let up = fits_within places.share (sticky_total_of pw places) (sticky_part (item_of is) (weigh key is)) (sticky_part (item_of was) (weigh key was)) sticky_extra refl least.share in
          let sum = sticky_total-refilled pw key None left in
          let under = sticky_under-is pw key left (weigh key was) once_left (ap (weight_under pw key) there_left) in
          omega (
            arith,
            up,
            sum,
            under,
            ap (λ b. cond b (weigh key was) 0) e,
            ap (λ b. cond b (pw key None) 0) e,
            ap (λ b. cond b (weigh key is) 0) (side ∙ s),
            ap (λ b. cond b (weigh key was) 0) s,
          )

      laid_share : HasShareFor (finite.contains_key hollow.sticky key) pw hollow (weigh key is)
      laid_share =
          subst (λ p. HasShareFor (finite.contains_key p.sticky key) pw p (weigh key is)) (sym hollow_is)
          (subst (λ b. HasShareFor b pw (refilled key None left) (weigh key is)) (sym (contains-refilled key None left)) (share_by (finite.contains_key places.sticky key) refl))

      laid_places : (new : Places (Option Stored)) → new ≡ refilled key (Some is) hollow → new ≡ placed (sticky_of is) key (Some is) (evicted key n places)
      laid_places new e =
          e ∙ ap (refilled key (Some is)) hollow_is ∙ refilled-refilled key None (Some is) left
          ∙ sym (placed-held key (sticky_of is) (Some was) (Some is) left once_left (on_side-evicted key (sticky_of is) n places ∙ on (sticky_of is) (sym side)))

      has_changed : (change : Item → Item) → item_of is ≡ change (item_of was) → IsItem (item_of is) → (new : Places (Option Stored)) → new ≡ refilled key (Some is) hollow
          → HasChanged key change places new
      has_changed change becomes keeps new e =
          let g = gone_by (room_for_change key was (item_of is) places) n fits in
          record {
            was = was;
            is = is;
            held = there;
            becomes = becomes;
            keeps = keeps;
            gone = g.0;
            fits = g.1;
            places = laid_places new e ∙ ap (λ k. placed (sticky_of is) key (Some is) (evicted key k places)) (sym g.2);
          }

  -- where it grows no larger, nothing is evicted
  no_larger : weigh key is ≤ weigh key was → total_of pw places ≤ places.limit → sticky_total_of pw places ≤ places.share → room_for_change key was (item_of is) places ≡ Some []
  no_larger small within share =
      let below : extra ≤ℤ pos 0 = omega (arith, ints, small) in
      let part : (b : Bool) → (pos (cond b (weigh key is) 0) -ℤ pos (cond b (weigh key was) 0)) ≤ℤ pos 0 =
      λ b. elim b as (λ b. (pos (cond b (weigh key is) 0) -ℤ pos (cond b (weigh key was) 0)) ≤ℤ pos 0) [ true ↦ below | false ↦ omega (arith, ints) ] in
      let sticky_below : sticky_extra ≤ℤ pos 0 = subst (λ b. (pos (cond b (weigh key is) 0) -ℤ pos (cond (sticky_of was) (weigh key was) 0)) ≤ℤ pos 0) (sym side) (part (sticky_of was)) in
      room-nothing_added pw places key extra sticky_extra (fits_nothing_added places.limit (total_of pw places) extra within below)
      ∙ ap (λ k. cond k (Some []) None) (fits_nothing_added places.share (sticky_total_of pw places) sticky_extra share sticky_below)

two_some : (x y : Stored) → ◌≡◌ {A = Option (Option Stored)} (Some (Some x)) (Some (Some y)) → x ≡ y
two_some x y h = cc

-- what is found in a place is what is held there
same_item : (key : List ℕ) (places : Places (Option Stored)) (was item : Stored) → Holds places → found key places ≡ Some (Some was) → item_at key places ≡ Some item → was ≡ item
same_item key places was item holds there at = two_some was item (sym there ∙ held key places item holds.filled at)

added_part : (b : Bool) (new old k : ℕ) (extra : ℤ) → extra ≡ pos new -ℤ pos old → pos (cond b (k + new) 0) -ℤ pos (cond b (k + old) 0) ≡ cond b extra (pos 0)
added_part true new old k extra is = omega (arith, ints, is)
added_part false new old k extra is = omega (arith, ints)

-- what room is asked for an element
module _ (key : List ℕ) (element : Insertion) (places : Places (Option Stored)) (holds : Holds places) (suits : SuitsOnShelf key element places)
    (item : Stored) (at : item_at key places ≡ Some item) (attrs : Attrs) (contents : Contents) (is : item_of item ≡ collection attrs contents)
    (extra sticky_extra : ℤ) (extra_is : extra ≡ pos (contents_size (inserted element contents)) -ℤ pos (contents_size contents))
    (sticky : Bool) (sticky_is : sticky_extra ≡ cond sticky extra (pos 0)) (told : sticky ≡ is_sticky attrs.expiry) where
  abbrev asked_by : Item → Option (List (List ℕ × Option Stored))
  asked_by was =
      let next = with_element element was in
      room pw places key (pos (size_of key next) -ℤ pos (size_of key was)) (pos (sticky_part next (size_of key next)) -ℤ pos (sticky_part was (size_of key was)))

  asked : room_for_change key suits.was (with_element element (item_of suits.was)) places ≡ room pw places key extra sticky_extra
  asked =
      let part = λ (b : Bool). added_part b (contents_size (inserted element contents)) (contents_size contents) (128 + length key) extra extra_is in
      ap asked_by (ap item_of (same_item key places suits.was item holds suits.held at) ∙ is)
      ∙ (λ i. room pw places key (part true i) ((part (is_sticky attrs.expiry) ∙ ap (λ b. cond b extra (pos 0)) (sym told) ∙ sym sticky_is) i))

  pub no_room_here : Nothing ≡ room_answer (room pw places key extra sticky_extra) → HasNoRoomToChange key (with_element element) places places
  no_room_here h = record { was = suits.was; held = suits.held; none = asked ∙ none_by (room pw places key extra sticky_extra) h; same = refl }

  pub room_here : (n : ℕ) → Fits n ≡ room_answer (room pw places key extra sticky_extra) → HasRoomFor key element places n
  room_here n h = record { was = suits.was; held = suits.held; suits = suits.suits; fits = ap (option_map length) asked ∙ evictions_by (room pw places key extra sticky_extra) n h }

pub collection_by : (a b : Attrs) (x y : Contents) → a ≡ b → x ≡ y → collection a x ≡ collection b y
collection_by a b x y e f = λ i. collection (e i) (f i)

-- A collection is held in the key's place.
pub record IsPlaceOf (key : List ℕ) (places : Places (Option Stored)) (was : Stored) (attrs : Attrs) (contents : Contents) : Type 0 where
  pub holds : Holds places
  pub there : found key places ≡ Some (Some was)
  pub is : item_of was ≡ collection attrs contents

-- so it is where the one that is lifted is this one
pub is_place_of : (key : List ℕ) (places : Places (Option Stored)) (was item : Stored) (attrs : Attrs) (contents : Contents) → Holds places → found key places ≡ Some (Some was)
    → Some item ≡ item_at key places → item_of item ≡ collection attrs contents → IsPlaceOf key places was attrs contents
is_place_of key places was item attrs contents holds there lifted is =
    record { holds = holds; there = there; is = ap item_of (same_item key places was item holds there (sym lifted)) ∙ is }

-- another is laid in its place
module _ {key : List ℕ} {places : Places (Option Stored)} {was : Stored} {attrs : Attrs} {contents : Contents} (place : IsPlaceOf key places was attrs contents)
    (next : Stored) (now : Contents) (next_is : item_of next ≡ collection attrs now) where
  side : sticky_of next ≡ sticky_of was
  side = ap (λ i. is_sticky (expiry_of i)) next_is ∙ sym (ap (λ i. is_sticky (expiry_of i)) place.is)

  -- as many evictions make room as the change asks, and none where it grows no larger
  pub evictions_for : (change : Item → Item) (n : ℕ) → change (collection attrs contents) ≡ collection attrs now
      → option_map length (room_for_change key was (change (item_of was)) places) ≡ Some n → option_map length (room_for_change key was (item_of next) places) ≡ Some n
  evictions_for change n changes h = ap (λ i. option_map length (room_for_change key was i places)) (next_is ∙ sym changes ∙ sym (ap change place.is)) ∙ h

  pub no_evictions : contents_size now ≤ contents_size contents → total_of pw places ≤ places.limit → sticky_total_of pw places ≤ places.share
      → option_map length (room_for_change key was (item_of next) places) ≡ Some 0
  no_evictions small within share =
      let below : weigh key next ≤ weigh key was = omega (arith, small, ap (size_of key) next_is, ap (size_of key) place.is) in
      ap (option_map length) (no_larger key places place.holds was next place.there side below within share)

  module _ (n : ℕ) (fits : option_map length (room_for_change key was (item_of next) places) ≡ Some n) (hollow : Places (Option Stored)) (hollow_is : hollow ≡ refilled key None (evicted key n places)) where
    pub place_for : HasPlaceFor key next hollow
    place_for = record {
      hollow = laid_hollow key places place.holds was next place.there side n fits hollow hollow_is;
      room = laid_free key places place.holds was next place.there side n fits hollow hollow_is;
      share = laid_share key places place.holds was next place.there side n fits hollow hollow_is;
    }

    pub changed_by : (change : Item → Item) → change (collection attrs contents) ≡ collection attrs now → IsItem (item_of next)
        → (new : Places (Option Stored)) → new ≡ refilled key (Some next) hollow → HasChanged key change places new
    changed_by change changes = has_changed key places place.holds was next place.there side n fits hollow hollow_is change (next_is ∙ sym changes ∙ sym (ap change place.is))

  pub has_stayed : now ≡ contents → (hollow new : Places (Option Stored)) → hollow ≡ refilled key None places → new ≡ refilled key (Some next) hollow → HasStayed key places new
  has_stayed same hollow new e f = record {
    was = was;
    is = next;
    held = place.there;
    stays = next_is ∙ ap (collection attrs) same ∙ sym place.is;
    places = f ∙ ap (refilled key (Some next)) e ∙ refilled-refilled key None (Some next) places;
  }

-- the place that is lifted from, and the evictions behind it
pub hollow_first : (key : List ℕ) (places hollow : Places (Option Stored)) → hollow ≡ refilled key None places → hollow ≡ refilled key None (evicted key 0 places)
hollow_first key places hollow e = e ∙ ap (refilled key None) (sym (evicted-none key places))

pub hollow_behind : (key : List ℕ) (places lifted hollow : Places (Option Stored)) (n : ℕ) → lifted ≡ refilled key None places → hollow ≡ evicted key n lifted
    → hollow ≡ refilled key None (evicted key n places)
hollow_behind key places lifted hollow n e f = f ∙ ap (evicted key n) e ∙ evicted-refilled key n None places

-- there are so many places to evict
pub room_count : (key : List ℕ) (element : Insertion) (places : Places (Option Stored)) (n : ℕ) → HasRoomFor key element places n → (lifted : Places (Option Stored))
    → lifted ≡ refilled key None places → n ≤ length (others key lifted.shelf)
room_count key element places n has lifted e =
    subst (λ p. n ≤ length (others key p.shelf)) (sym e) (subst (λ l. n ≤ length l) (sym (others-set_value key None places.shelf))
    (let g = gone_by (room_for_change key has.was (with_element element (item_of has.was)) places) n has.fits in
    (least_answer pw places key _ _ (Fits n) (ap Fits (sym g.2) ∙ ap room_answer (sym g.1))).count))

-- a hollow place that goes
pub cancelled_is : (key : List ℕ) (places hollow : Places (Option Stored)) (was : Stored) → found key places ≡ Some (Some was) → hollow ≡ refilled key None places
    → cancelled key hollow ≡ without key places
cancelled_is key places hollow was there e =
    ap (cancelled key) e ∙ ap (λ o. cancelled_at o key (refilled key None places)) (found-refilled key None (Some was) places there) ∙ without-refilled key None places
