-- What a shelf that holds items has under a key, and what it holds after each change.
use Rattle.std.proofs.Common.{◌≡◌, ℕ, Bool, true, false, List, Option, Some, None, option_map, is_some, bytes_eq, refl, sym, ap, ◌∙◌, subst}
use Rattle.std.specs.Option.{option_or, option_flatten}
use Rattle.std.specs.Map.{lookup}
use Rattle.std.specs.FinMap as finite
use Rattle.arc_core.specs.Item.{Item, IsItem}
use Rattle.arc_core.specs.Places.{Places, HasEachKeyOnce, found}
use Rattle.arc_core.specs.CacheState.{ArePlaced}
use Rattle.byte_account.specs.Filled.{map_places, filled, items_of, IsFilled}
use Rattle.byte_account.specs.ShelfWords.{item_at, on_side}
use Rattle.byte_account.proofs.FilledLaws.{found-map, lookup-map, get-map_values, HasEachKeyOnce-map, HasEachKeyOnce-from_map, items_of-filled, IsFilled-filled}
use Rattle.cache_engine.specs.declared.stored.Stored.{Stored}
use Rattle.cache_engine.specs.Stored.{item_of, items_in, Holds}
use Rattle.cache_engine.specs.Putting.{sticky_of}

abbrev pub put_in : Stored → Option Stored
put_in item = Some item

flattened : {A : Type 0} (o : Option A) → option_flatten (option_map (λ x. Some x) o) ≡ o
flattened None = refl
flattened (Some x) = refl

-- what the shelf has under a key
pub found-filled : (key : List ℕ) (places : Places (Option Stored)) → IsFilled places → found key places ≡ option_map put_in (found key (items_of places))
found-filled key places filled = ap (found key) filled ∙ found-map put_in key (items_of places)

pub item_at-filled : (key : List ℕ) (places : Places (Option Stored)) → IsFilled places → item_at key places ≡ found key (items_of places)
item_at-filled key places filled = ap option_flatten (found-filled key places filled) ∙ flattened (found key (items_of places))

-- is what it holds there
pub found-items : (key : List ℕ) (places : Places (Option Stored)) → IsFilled places → found key (items_in places) ≡ option_map item_of (item_at key places)
found-items key places filled = found-map item_of key (items_of places) ∙ ap (option_map item_of) (sym (item_at-filled key places filled))

absent_by : (o : Option Stored) (p : Option (Option Stored)) → p ≡ option_map put_in o → option_flatten p ≡ None → p ≡ None
absent_by None p e h = e
absent_by (Some x) p e h = absurd (let k : option_flatten p ≡ Some x = ap option_flatten e in cc)

-- a place without an item is none
pub absent : (key : List ℕ) (places : Places (Option Stored)) → IsFilled places → item_at key places ≡ None → found key places ≡ None
absent key places filled h = absent_by (found key (items_of places)) (found key places) (found-filled key places filled) h

-- where nothing is held there is no item, and where something is held there is a place
pub none_held : (o : Option Stored) → is_some o ≡ false → o ≡ None
none_held None e = refl
none_held (Some x) e = absurd cc

pub is_some_map : {A B : Type 0} (f : A → B) (o : Option A) → is_some (option_map f o) ≡ is_some o
is_some_map f None = refl
is_some_map f (Some x) = refl

pub some_held : (p : Option (Option Stored)) → is_some (option_flatten p) ≡ true → is_some p ≡ true
some_held None e = absurd cc
some_held (Some p) e = refl

held_by : (o : Option Stored) (p : Option (Option Stored)) (item : Stored) → p ≡ option_map put_in o → option_flatten p ≡ Some item → p ≡ Some (Some item)
held_by None p item e h = absurd (let k : option_flatten p ≡ None = ap option_flatten e in cc)
held_by (Some x) p item e h = let k : option_flatten p ≡ Some x = ap option_flatten e in cc

pub held : (key : List ℕ) (places : Places (Option Stored)) (item : Stored) → IsFilled places → item_at key places ≡ Some item → found key places ≡ Some (Some item)
held key places item filled h = held_by (found key (items_of places)) (found key places) item (found-filled key places filled) h

-- what is held keeps the rules on items
pub held_keeps : (key : List ℕ) (places : Places (Option Stored)) (item : Stored) → Holds places → item_at key places ≡ Some item → IsItem (item_of item)
held_keeps key places item holds at = holds.placed.items key (item_of item) (found-items key places holds.filled ∙ ap (option_map item_of) at)

-- no key has two places
pub once : (places : Places (Option Stored)) → Holds places → HasEachKeyOnce places
once places holds =
    subst (λ p. HasEachKeyOnce p) (sym holds.filled) (HasEachKeyOnce-map put_in (items_of places) (HasEachKeyOnce-from_map item_of (items_of places) holds.placed.once))

-- an item stands on its side

listed : (key : List ℕ) (places : Places (Option Stored)) → IsFilled places → lookup (bytes_eq key) places.shelf ≡ option_map put_in (lookup (bytes_eq key) (items_of places).shelf)
listed key places filled = ap (λ p. lookup (bytes_eq key) p.shelf) filled ∙ lookup-map put_in key (items_of places).shelf

in_sticky : (key : List ℕ) (places : Places (Option Stored)) → IsFilled places → finite.get places.sticky key ≡ option_map put_in (finite.get (items_of places).sticky key)
in_sticky key places filled = ap (λ p. finite.get p.sticky key) filled ∙ get-map_values put_in (items_of places).sticky key

side_by : (item : Stored) (l s : Option Stored) (L S : Option (Option Stored)) → L ≡ option_map put_in l → S ≡ option_map put_in s → option_or L S ≡ Some (Some item)
    → ((x : Stored) → l ≡ Some x → sticky_of x ≡ false) → ((x : Stored) → s ≡ Some x → sticky_of x ≡ true) → (b : Bool) → sticky_of item ≡ b → elim b as (λ _. Option (Option Stored)) [ true ↦ S | false ↦ L ] ≡ Some (Some item)
side_by item None None L S e f h on off b is = absurd (let k : option_or L S ≡ None = (λ i. option_or (e i) (f i)) in cc)
side_by item None (Some x) L S e f h on off true is = sym (ap (λ o. option_or o S) e) ∙ h
side_by item None (Some x) L S e f h on off false is = absurd (let k : option_or L S ≡ Some (Some x) = (λ i. option_or (e i) (f i)) in let same : sticky_of x ≡ true = off x refl in cc)
side_by item (Some x) s L S e f h on off false is = let k : option_or L S ≡ Some (Some x) = (λ i. option_or (e i) S) in e ∙ sym k ∙ h
side_by item (Some x) s L S e f h on off true is = absurd (let k : option_or L S ≡ Some (Some x) = (λ i. option_or (e i) S) in let same : sticky_of x ≡ false = on x refl in cc)

off_shelf : (key : List ℕ) (places : Places (Option Stored)) (x : Stored) → Holds places → lookup (bytes_eq key) (items_of places).shelf ≡ Some x → sticky_of x ≡ false
off_shelf key places x holds h = holds.placed.on_shelf key (item_of x) (lookup-map item_of key (items_of places).shelf ∙ ap (option_map item_of) h)

off_sticky : (key : List ℕ) (places : Places (Option Stored)) (x : Stored) → Holds places → finite.get (items_of places).sticky key ≡ Some x → sticky_of x ≡ true
off_sticky key places x holds h = holds.placed.sticky key (item_of x) (get-map_values item_of (items_of places).sticky key ∙ ap (option_map item_of) h)

on_side_by : (key : List ℕ) (places : Places (Option Stored)) (item : Stored) (b : Bool) → elim b as (λ _. Option (Option Stored)) [ true ↦ finite.get places.sticky key | false ↦ lookup (bytes_eq key) places.shelf ] ≡ Some (Some item) → on_side b key places ≡ Some (Some item)
on_side_by key places item true h = h
on_side_by key places item false h = h

-- an item stands on its side
pub held_on : (key : List ℕ) (places : Places (Option Stored)) (item : Stored) → Holds places → item_at key places ≡ Some item → on_side (sticky_of item) key places ≡ Some (Some item)
held_on key places item holds h =
    on_side_by key places item (sticky_of item)
    (side_by item (lookup (bytes_eq key) (items_of places).shelf) (finite.get (items_of places).sticky key) (lookup (bytes_eq key) places.shelf) (finite.get places.sticky key)
    (listed key places holds.filled) (in_sticky key places holds.filled) (held key places item holds.filled h)
    (λ x. off_shelf key places x holds) (λ x. off_sticky key places x holds) (sticky_of item) refl)

-- what a shelf holds that is filled with items
pub record HoldsItems (places : Places (Option Stored)) (items : Places Item) : Type 0 where
  pub holds : Holds places
  pub are : items_in places ≡ items

pub filled_with : (places : Places (Option Stored)) (stored : Places Stored) (items : Places Item) → places ≡ filled stored → map_places item_of stored ≡ items → ArePlaced items → HoldsItems places items
filled_with places stored items e f placed =
    let are : items_in places ≡ items = ap (λ p. map_places item_of (items_of p)) e ∙ ap (map_places item_of) (items_of-filled stored) ∙ f in
    record { holds = record { filled = subst (λ p. IsFilled p) (sym e) (IsFilled-filled stored); placed = subst (λ p. ArePlaced p) (sym are) placed }; are = are }
