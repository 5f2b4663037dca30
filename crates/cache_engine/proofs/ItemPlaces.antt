-- What the shelf holds after each change, as the machine's items in their places.
use Rattle.std.proofs.Common.{◌≡◌, ℕ, Bool, true, false, cond, List, [], ◌∷◌, length, IsSome, Option, Some, None, option_map, is_some, ℤ, pos, ◌-ℤ◌, bytes_eq, Bor, refl, sym, ap, ◌∙◌, subst, arith}
use Rattle.std.proofs.lemmas.Int.{ints}
use Rattle.std.specs.Option.{option_or, option_flatten, option_copied}
use Rattle.std.specs.Map.{lookup}
use Rattle.std.specs.FinMap as finite
use Rattle.std.proofs.lemmas.List.{length-map}
use Rattle.arc_core.specs.declared.items.Expiry.{Expiry}
use Rattle.arc_core.specs.Item.{Item, key_value, collection, IsItem, size_of, expiry_of, is_sticky, with_expiry}
use Rattle.arc_core.specs.Places.{Places, HasEachKeyOnce, empty_places, found, count_of, total_of, sticky_total_of, brought_to_front, placed, without}
use Rattle.arc_core.specs.Room.{room, evicted}
use Rattle.arc_core.specs.Step.{sticky_size, put_behind}
use Rattle.arc_core.specs.CacheState.{ArePlaced}
use Rattle.byte_account.specs.Sides.{AllOnSides}
use Rattle.byte_account.specs.Weight.{place_weight, weight_under}
use Rattle.byte_account.specs.Filled.{map_places, map_values, map_listed, items_of, IsFilled}
use Rattle.byte_account.proofs.PlacesLaws.{found-shelf, found-sticky, not_on_shelf, HasEachKeyOnce-brought_to_front, HasEachKeyOnce-placed, HasEachKeyOnce-without, HasEachKeyOnce-evicted}
use Rattle.byte_account.proofs.AccountingLaws.{HasEachKeyOnce-empty}
use Rattle.byte_account.proofs.SideLaws.{AllOnSides-empty, AllOnSides-brought_to_front, AllOnSides-without, AllOnSides-placed, AllOnSides-evicted}
use Rattle.byte_account.proofs.FilledLaws.{sticky_total-map, found-map, touched-map, without-map, placed-map, evicted-map, room-map, count-map, total-map, get-map_values}
use Rattle.byte_account.proofs.StickyMaps.{same_map}
use Rattle.byte_account.proofs.MovedLaws.{evicted-none}
use Rattle.std.specs.Ordering.{nat_cmp}
use Rattle.std.specs.Cmp.Lexicographic.{slice_cmp}
use Rattle.cache_engine.specs.declared.stored.Stored.{Stored}
use Rattle.byte_account.specs.declared.put.Put.{Put}
use Rattle.byte_account.specs.declared.put.Put.TheVariants as put
use Rattle.cache_engine.specs.Stored.{item_of, items_in, Holds}
use Rattle.cache_engine.specs.Putting.{weigh, sticky_of, PutsOnShelf}
use Rattle.byte_account.specs.Putting as shelf
use Rattle.byte_account.specs.ShelfWords.{item_at}
use Rattle.cache_engine.specs.SettingExpiry.{sticky_added, room_for_expiry, HasExpiryOnShelf, SetsExpiryOnShelf}
use Rattle.cache_engine.specs.Changes.{evicted_for, Puts, HasExpiry, SetsExpiry}
use Rattle.cache_engine.proofs.Holding.{put_in, HoldsItems, filled_with, found-filled, found-items, held_keeps}

-- an item keeps its rules, on the side where it belongs
abbrev pub Belongs : Bool → Item → Type 0
Belongs side item = IsItem item × (is_sticky (expiry_of item) ≡ side)

some_some : {A : Type 0} (x y : A) → ◌≡◌ {A = Option A} (Some x) (Some y) → x ≡ y
some_some x y h = cc

belong : (places : Places Item) → ArePlaced places → AllOnSides Belongs places
belong places placed = record {
  on_shelf = λ key item h. (placed.items key item (found-shelf key places item h), placed.on_shelf key item h);
  sticky = λ key item h. (placed.items key item (found-sticky key places (not_on_shelf places placed.once key (ap is_some h)) ∙ h), placed.sticky key item h);
}

item_by : (l s : Option Item) (item : Item) → ((x : Item) → l ≡ Some x → IsItem x) → ((x : Item) → s ≡ Some x → IsItem x) → option_or l s ≡ Some item → IsItem item
item_by None s item on off h = off item h
item_by (Some x) s item on off h = on item h

placed_from : (places : Places Item) → AllOnSides Belongs places → HasEachKeyOnce places → ArePlaced places
placed_from places good once = record {
  items = λ key item h. item_by (lookup (bytes_eq key) places.shelf) (finite.get places.sticky key) item (λ x e. (good.on_shelf key x e).0) (λ x e. (good.sticky key x e).0) h;
  on_shelf = λ key item h. (good.on_shelf key item h).1;
  sticky = λ key item h. (good.sticky key item h).1;
  once = once;
}

pub ArePlaced-brought_to_front : (key : List ℕ) (places : Places Item) → ArePlaced places → ArePlaced (brought_to_front key places)
ArePlaced-brought_to_front key places are = placed_from (brought_to_front key places) (AllOnSides-brought_to_front Belongs key places (belong places are)) (HasEachKeyOnce-brought_to_front key places are.once)

pub ArePlaced-without : (key : List ℕ) (places : Places Item) → ArePlaced places → ArePlaced (without key places)
ArePlaced-without key places are = placed_from (without key places) (AllOnSides-without Belongs key places (belong places are)) (HasEachKeyOnce-without key places are.once)

pub ArePlaced-evicted : (key : List ℕ) (n : ℕ) (places : Places Item) → ArePlaced places → ArePlaced (evicted key n places)
ArePlaced-evicted key n places are = placed_from (evicted key n places) (AllOnSides-evicted Belongs key n places are.once (belong places are)) (HasEachKeyOnce-evicted key n places are.once)

pub ArePlaced-placed : (key : List ℕ) (item : Item) (places : Places Item) → IsItem item → ArePlaced places → ArePlaced (placed (is_sticky (expiry_of item)) key item places)
ArePlaced-placed key item places ok are =
    placed_from (placed (is_sticky (expiry_of item)) key item places) (AllOnSides-placed Belongs (is_sticky (expiry_of item)) key item places (ok, refl) (belong places are)) (HasEachKeyOnce-placed (is_sticky (expiry_of item)) key item places are.once)

pub ArePlaced-empty : (limit share : ℕ) → ArePlaced (empty_places limit share)
ArePlaced-empty limit share = placed_from (empty_places limit share) (AllOnSides-empty Belongs limit share) (HasEachKeyOnce-empty size_of limit share)

map-empty : {X Y : Type 0} (f : X → Y) (limit share : ℕ) → map_places f (empty_places limit share) ≡ empty_places limit share
map-empty {X} {Y} f limit share =
    let none = same_map (map_values f (finite.empty {X = X} {R = slice_cmp nat_cmp})) finite.empty (λ q. get-map_values f finite.empty q ∙ ap (option_map f) (finite.get-empty (slice_cmp nat_cmp) q) ∙ sym (finite.get-empty (slice_cmp nat_cmp) q)) in
    λ i. record { shelf = []; sticky = none i; limit = limit; share = share }

pub HoldsItems-brought_to_front : (key : List ℕ) (old new : Places (Option Stored)) → Holds old → new ≡ brought_to_front key old → HoldsItems new (brought_to_front key (items_in old))
HoldsItems-brought_to_front key old new holds e =
    filled_with new (brought_to_front key (items_of old)) (brought_to_front key (items_in old)) (e ∙ ap (brought_to_front key) holds.filled ∙ touched-map put_in key (items_of old)) (sym (touched-map item_of key (items_of old))) (ArePlaced-brought_to_front key (items_in old) holds.placed)

pub HoldsItems-without : (key : List ℕ) (old new : Places (Option Stored)) → Holds old → new ≡ without key old → HoldsItems new (without key (items_in old))
HoldsItems-without key old new holds e =
    filled_with new (without key (items_of old)) (without key (items_in old)) (e ∙ ap (without key) holds.filled ∙ without-map put_in key (items_of old)) (sym (without-map item_of key (items_of old))) (ArePlaced-without key (items_in old) holds.placed)

pub HoldsItems-empty : (limit share : ℕ) (new : Places (Option Stored)) → new ≡ empty_places limit share → HoldsItems new (empty_places limit share)
HoldsItems-empty limit share new e =
    filled_with new (empty_places limit share) (empty_places limit share) (e ∙ sym (map-empty put_in limit share)) (map-empty item_of limit share) (ArePlaced-empty limit share)

pub HoldsItems-placed : (key : List ℕ) (item : Stored) (n : ℕ) (old new : Places (Option Stored)) → IsItem (item_of item) → Holds old → new ≡ placed (sticky_of item) key (Some item) (evicted key n old) → HoldsItems new (put_behind n key (item_of item) (items_in old))
HoldsItems-placed key item n old new ok holds e =
    filled_with new (placed (sticky_of item) key item (evicted key n (items_of old))) (put_behind n key (item_of item) (items_in old))
    (e ∙ ap (λ p. placed (sticky_of item) key (Some item) (evicted key n p)) holds.filled ∙ ap (placed (sticky_of item) key (Some item)) (evicted-map put_in key n (items_of old)) ∙ placed-map put_in (sticky_of item) key item (evicted key n (items_of old)))
    (sym (placed-map item_of (sticky_of item) key item (evicted key n (items_of old))) ∙ ap (placed (sticky_of item) key (item_of item)) (sym (evicted-map item_of key n (items_of old))))
    (ArePlaced-placed key (item_of item) (evicted key n (items_in old)) ok (ArePlaced-evicted key n (items_in old) holds.placed))

-- room, as the items have it

pub none_less : (n : ℕ) → pos n -ℤ pos 0 ≡ pos n
none_less n = omega (arith, ints)

-- whatever is asked of room
module _ (key : List ℕ) (places : Places (Option Stored)) (filled_is : IsFilled places) (extra sticky_extra : ℤ) where
  abbrev stored_room : Option (List (List ℕ × Stored))
  stored_room = room weigh (items_of places) key extra sticky_extra

  room_shelf : room (place_weight weigh) places key extra sticky_extra ≡ option_map (map_listed put_in) stored_room
  room_shelf = ap (λ p. room (place_weight weigh) p key extra sticky_extra) filled_is ∙ room-map put_in (place_weight weigh) (items_of places) key extra sticky_extra

  room_items : room size_of (items_in places) key extra sticky_extra ≡ option_map (map_listed item_of) stored_room
  room_items = room-map item_of size_of (items_of places) key extra sticky_extra

  none_by : (o : Option (List (List ℕ × Stored))) → room (place_weight weigh) places key extra sticky_extra ≡ option_map (map_listed put_in) o → room size_of (items_in places) key extra sticky_extra ≡ option_map (map_listed item_of) o
      → room (place_weight weigh) places key extra sticky_extra ≡ None → room size_of (items_in places) key extra sticky_extra ≡ None
  none_by None e f h = f
  none_by (Some gone) e f h = absurd (let k : ◌≡◌ {A = Option (List (List ℕ × Option Stored))} (Some (map_listed put_in gone)) None = sym e ∙ h in cc)

  pub no_room : room (place_weight weigh) places key extra sticky_extra ≡ None → room size_of (items_in places) key extra sticky_extra ≡ None
  no_room = none_by stored_room room_shelf room_items

  gone_by : (o : Option (List (List ℕ × Stored))) (gone : List (List ℕ × Option Stored)) → room (place_weight weigh) places key extra sticky_extra ≡ option_map (map_listed put_in) o
      → room size_of (items_in places) key extra sticky_extra ≡ option_map (map_listed item_of) o → room (place_weight weigh) places key extra sticky_extra ≡ Some gone
      → (less : List (List ℕ × Item)) × (room size_of (items_in places) key extra sticky_extra ≡ Some less) × (length less ≡ length gone)
  gone_by None gone e f h = absurd (let k : ◌≡◌ {A = Option (List (List ℕ × Option Stored))} None (Some gone) = sym e ∙ h in cc)
  gone_by (Some some) gone e f h =
      let k : ◌≡◌ {A = Option (List (List ℕ × Option Stored))} (Some (map_listed put_in some)) (Some gone) = sym e ∙ h in
      (map_listed item_of some, f, length-map some (λ place. (place.0, item_of place.1)) ∙ sym (length-map some (λ place. (place.0, put_in place.1))) ∙ ap length (some_some (map_listed put_in some) gone k))

  pub some_room : (gone : List (List ℕ × Option Stored)) → room (place_weight weigh) places key extra sticky_extra ≡ Some gone → (less : List (List ℕ × Item)) × (room size_of (items_in places) key extra sticky_extra ≡ Some less) × (length less ≡ length gone)
  some_room gone = gone_by stored_room gone room_shelf room_items

-- what stands under a key weighs as much among the items

held_weight : (key : List ℕ) (o : Option Stored) → weight_under (place_weight weigh) key (option_map put_in o) ≡ weight_under size_of key (option_map item_of o)
held_weight key None = refl
held_weight key (Some item) = refl

weight_same : (key : List ℕ) (places : Places (Option Stored)) → IsFilled places → weight_under (place_weight weigh) key (found key places) ≡ weight_under size_of key (found key (items_in places))
weight_same key places filled_is =
    ap (weight_under (place_weight weigh) key) (found-filled key places filled_is) ∙ held_weight key (found key (items_of places)) ∙ ap (weight_under size_of key) (sym (found-map item_of key (items_of places)))

sticky_weight_same : (key : List ℕ) (places : Places (Option Stored)) → IsFilled places → weight_under (place_weight weigh) key (finite.get places.sticky key) ≡ weight_under size_of key (finite.get (items_in places).sticky key)
sticky_weight_same key places filled_is =
    ap (weight_under (place_weight weigh) key) (ap (λ p. finite.get p.sticky key) filled_is ∙ get-map_values put_in (items_of places).sticky key) ∙ held_weight key (finite.get (items_of places).sticky key)
    ∙ ap (weight_under size_of key) (sym (get-map_values item_of (items_of places).sticky key))

-- what is sticky of the held item is what stands among the sticky ones

sticky_by : (key : List ℕ) (item : Item) (b : Bool) → is_sticky (expiry_of item) ≡ b → sticky_size key item ≡ cond b (size_of key item) 0
sticky_by key item b e = ap (λ s. cond s (size_of key item) 0) e

sides_by : (key : List ℕ) (l s : Option Item) → ((item : Item) → l ≡ Some item → is_sticky (expiry_of item) ≡ false) → ((item : Item) → s ≡ Some item → is_sticky (expiry_of item) ≡ true) → (IsSome l → s ≡ None)
    → weight_under sticky_size key (option_or l s) ≡ weight_under size_of key s
sides_by key None None on off one = refl
sides_by key None (Some item) on off one = sticky_by key item true (off item refl)
sides_by key (Some item) s on off one = sticky_by key item false (on item refl) ∙ sym (ap (weight_under size_of key) (one refl))

pub sticky_held : (key : List ℕ) (places : Places Item) → ArePlaced places → weight_under sticky_size key (found key places) ≡ weight_under size_of key (finite.get places.sticky key)
sticky_held key places placed = sides_by key (lookup (bytes_eq key) places.shelf) (finite.get places.sticky key) (placed.on_shelf key) (placed.sticky key) (placed.once.on_one_side key)

-- what is evicted for an item
evicted_same : (key : List ℕ) (item : Stored) (places : Places (Option Stored)) → Holds places
    → evicted_for key (item_of item) (items_in places) ≡ room size_of (items_in places) key (shelf.added (place_weight weigh) (sticky_of item) key (Some item) places) (shelf.sticky_added (place_weight weigh) (sticky_of item) key (Some item) places)
evicted_same key item places holds =
    let sticky_same = sticky_held key (items_in places) holds.placed ∙ sym (sticky_weight_same key places holds.filled) in
    let same = sym (weight_same key places holds.filled) in
    λ i. room size_of (items_in places) key (pos (weigh key item) -ℤ pos (same i)) (pos (sticky_size key (item_of item)) -ℤ pos (sticky_same i))

-- what putting an item leaves, as the items have it
pub record Leaves (places : Places (Option Stored)) (What : Places Item → Type 0) : Type 0 where
  pub holds : Holds places
  pub what : What (items_in places)

pub put_leaves : (key : List ℕ) (item : Stored) (old new : Places (Option Stored)) (answer : Put) → IsItem (item_of item) → Holds old → PutsOnShelf key item old new answer → Leaves new (λ items. Puts key (item_of item) (items_in old) items answer)
put_leaves key item old new put.Done ok holds h =
    let g = some_room key old holds.filled _ _ h.gone h.fits in
    let after = HoldsItems-placed key item (length h.gone) old new ok holds h.places in
    record { holds = after.holds; what = record { gone = g.0; fits = evicted_same key item old holds ∙ g.1; places = after.are ∙ ap (λ n. put_behind n key (item_of item) (items_in old)) (sym g.2) } }
put_leaves key item old new put.NoRoom ok holds h =
    record { holds = subst (λ p. Holds p) (sym h.1) holds; what = (evicted_same key item old holds ∙ no_room key old holds.filled _ _ h.0, ap items_in h.1) }
put_leaves key item old new put.NoMemory ok holds h =
    record { holds = subst (λ p. Holds p) (sym h) holds; what = ap items_in h }

-- what another expiry leaves

pub stays_item : (expiry : Expiry) (item : Item) → IsItem item → IsItem (with_expiry expiry item)
stays_item expiry (key_value flags old unique value) ok = ok
stays_item expiry (collection attrs contents) ok =
    record { elements = ok.elements; action = ok.action; within = ok.within; least = ok.least; most = ok.most; no_bkeys = ok.no_bkeys }

pub sticky_stays : (expiry : Expiry) (item : Item) → is_sticky (expiry_of (with_expiry expiry item)) ≡ is_sticky expiry
sticky_stays expiry (key_value flags old unique value) = refl
sticky_stays expiry (collection attrs contents) = refl

-- an expiry has no size
size_stays : (key : List ℕ) (expiry : Expiry) (item : Item) → size_of key (with_expiry expiry item) ≡ size_of key item
size_stays key expiry (key_value flags old unique value) = refl
size_stays key expiry (collection attrs contents) = refl

nothing_added : (n : ℕ) → pos n -ℤ pos n ≡ pos 0
nothing_added n = omega (arith, ints)

-- what is evicted for another expiry
expiry_same : (key : List ℕ) (expiry : Expiry) (was : Stored) (places : Places (Option Stored)) → found key (items_in places) ≡ Some (item_of was)
    → evicted_for key (with_expiry expiry (item_of was)) (items_in places) ≡ room size_of (items_in places) key (pos 0) (sticky_added expiry key was)
expiry_same key expiry was places there =
    ap (λ o. room size_of (items_in places) key (pos (size_of key (with_expiry expiry (item_of was))) -ℤ pos (weight_under size_of key o)) (pos (sticky_size key (with_expiry expiry (item_of was))) -ℤ pos (weight_under sticky_size key o))) there
    ∙ (λ i. room size_of (items_in places) key (pos (size_stays key expiry (item_of was) i) -ℤ pos (size_of key (item_of was)))
    (pos (cond (sticky_stays expiry (item_of was) i) (size_stays key expiry (item_of was) i) 0) -ℤ pos (sticky_size key (item_of was))))
    ∙ ap (λ e. room size_of (items_in places) key e (sticky_added expiry key was)) (nothing_added (size_of key (item_of was)))

no_one : {A : Type 0} (xs : List A) → length xs ≡ 0 → xs ≡ []
no_one [] h = refl
no_one (x ∷ xs) h = absurd (omega arith)

pub there_is : (key : List ℕ) (places : Places (Option Stored)) (was : Stored) → Holds places → found key places ≡ Some (Some was) → found key (items_in places) ≡ Some (item_of was)
there_is key places was holds h = found-items key places holds.filled ∙ ap (λ o. option_map item_of (option_flatten o)) h

roomy_items : (key : List ℕ) (expiry : Expiry) (places : Places (Option Stored)) (was : Stored) → Holds places → found key places ≡ Some (Some was) → room_for_expiry expiry key was places ≡ Some [] → evicted_for key (with_expiry expiry (item_of was)) (items_in places) ≡ Some []
roomy_items key expiry places was holds h fits =
    let g = some_room key places holds.filled (pos 0) (sticky_added expiry key was) [] fits in
    expiry_same key expiry was places (there_is key places was holds h) ∙ g.1 ∙ ap (λ l. Some l) (no_one g.0 g.2)

pub same_item : (key : List ℕ) (places : Places (Option Stored)) (was : Stored) (item : Item) → Holds places → found key places ≡ Some (Some was) → found key (items_in places) ≡ Some item → item_of was ≡ item
same_item key places was item holds h there = some_some (item_of was) item (sym (there_is key places was holds h) ∙ there)

expiry_leaves : (key : List ℕ) (expiry : Expiry) (old new : Places (Option Stored)) → Holds old → HasExpiryOnShelf key expiry old new → Leaves new (λ items. HasExpiry key expiry (items_in old) items)
expiry_leaves key expiry old new holds r =
    let side : sticky_of r.is ≡ is_sticky expiry = ap (λ i. is_sticky (expiry_of i)) r.expires ∙ sticky_stays expiry (item_of r.was) in
    let made : new ≡ placed (sticky_of r.is) key (Some r.is) (evicted key 0 old) = r.places ∙ (λ i. placed (sym side i) key (Some r.is) (sym (evicted-none key old) i)) in
    let ok : IsItem (item_of r.is) = subst IsItem (sym r.expires) (stays_item expiry (item_of r.was) (held_keeps key old r.was holds (ap option_flatten r.held))) in
    let after = HoldsItems-placed key r.is 0 old new ok holds made in
    let are : items_in new ≡ placed (is_sticky expiry) key (with_expiry expiry (item_of r.was)) (items_in old) =
    after.are ∙ ap (placed (sticky_of r.is) key (item_of r.is)) (evicted-none key (items_in old)) ∙ (λ i. placed (side i) key (r.expires i) (items_in old)) in
    record { holds = after.holds; what = record { item = item_of r.was; held = there_is key old r.was holds r.held; fits = roomy_items key expiry old r.was holds r.held r.fits; places = are } }

pub set_expiry_leaves : (key : List ℕ) (expiry : Expiry) (old new : Places (Option Stored)) (answer : Put) → Holds old → SetsExpiryOnShelf key expiry old new answer → Leaves new (λ items. SetsExpiry key expiry (items_in old) items answer)
set_expiry_leaves key expiry old new put.Done holds h = expiry_leaves key expiry old new holds h
set_expiry_leaves key expiry old new put.NoRoom holds h = record {
  holds = subst (λ p. Holds p) (sym h.same) holds;
  what = (
    λ item there. ap (λ i. evicted_for key (with_expiry expiry i) (items_in old)) (sym (same_item key old h.was item holds h.held there))
        ∙ expiry_same key expiry h.was old (there_is key old h.was holds h.held) ∙ no_room key old holds.filled (pos 0) (sticky_added expiry key h.was) h.none,
    ap items_in h.same,
  );
}
set_expiry_leaves key expiry old new put.NoMemory holds h = record {
  holds = subst (λ p. Holds p) (sym h.same) holds;
  what = (
    λ item there. let same = same_item key old h.was item holds h.held there in (
      λ side. h.changes (ap (λ i. is_sticky (expiry_of i)) same ∙ side),
      λ none. let k : ◌≡◌ {A = Option (List (List ℕ × Item))} (Some []) None = sym (roomy_items key expiry old h.was holds h.held h.fits) ∙ ap (λ i. evicted_for key (with_expiry expiry i) (items_in old)) same ∙ none in cc,
    ),
    ap items_in h.same,
  );
}

-- what the shelf answers, as the items have it

pub sum_is : (places : Places (Option Stored)) → Holds places → total_of (place_weight weigh) places ≡ total_of size_of (items_in places)
sum_is places holds = ap (total_of (place_weight weigh)) holds.filled ∙ total-map put_in (place_weight weigh) (items_of places) ∙ sym (total-map item_of size_of (items_of places))

pub sticky_sum_is : (places : Places (Option Stored)) → Holds places → sticky_total_of (place_weight weigh) places ≡ sticky_total_of size_of (items_in places)
sticky_sum_is places holds = ap (sticky_total_of (place_weight weigh)) holds.filled ∙ sticky_total-map put_in (place_weight weigh) (items_of places) ∙ sym (sticky_total-map item_of size_of (items_of places))

pub count_is : (places : Places (Option Stored)) → Holds places → count_of places ≡ count_of (items_in places)
count_is places holds = ap count_of holds.filled ∙ count-map put_in (items_of places) ∙ sym (count-map item_of (items_of places))

copied_map : (o : Option (Bor Stored)) → option_map item_of (option_copied o) ≡ option_map (λ stored. item_of stored.now) o
copied_map None = refl
copied_map (Some stored) = refl

pub look_is : (key : List ℕ) (places : Places (Option Stored)) (o : Option (Bor Stored)) → Holds places → option_copied o ≡ item_at key places → found key (items_in places) ≡ option_map (λ stored. item_of stored.now) o
look_is key places o holds h = found-items key places holds.filled ∙ ap (option_map item_of) (sym h) ∙ copied_map o

stored_by : (o : Option Stored) (p : Option (Option Stored)) (item : Item) → p ≡ option_map put_in o → option_map item_of o ≡ Some item → (stored : Stored) × (p ≡ Some (Some stored)) × (item_of stored ≡ item)
stored_by None p item e h = absurd (cc)
stored_by (Some stored) p item e h = (stored, e, some_some (item_of stored) item h)

-- what is held is stored
pub stored_under : (key : List ℕ) (places : Places (Option Stored)) (item : Item) → Holds places → found key (items_in places) ≡ Some item → (stored : Stored) × (found key places ≡ Some (Some stored)) × (item_of stored ≡ item)
stored_under key places item holds h = stored_by (found key (items_of places)) (found key places) item (found-filled key places holds.filled) (sym (found-map item_of key (items_of places)) ∙ h)
