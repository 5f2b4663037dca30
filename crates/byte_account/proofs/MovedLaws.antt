-- What the calls that put an item in another's place leave together: a place that is used, changes sides, or stands for
-- an item that is gone.
use Rattle.std.proofs.Common.{◌≡◌, ℕ, ◌+◌, ◌≤◌, Bool, true, false, cond, not, ◌||◌, List, [], ◌∷◌, length, nat_le, Option, Some, None, is_some, bytes_eq, ℤ, pos, negsuc, ◌-ℤ◌, refl, sym, ap, ◌∙◌, arith}
use Rattle.std.proofs.lemmas.Int.{ints}
use Rattle.std.proofs.lemmas.Bool.{le-leb, leb-true}
use Rattle.std.specs.Option.{option_map_or}
use Rattle.std.specs.Map.{lookup, set_value}
use Rattle.std.specs.FinMap as finite
use Rattle.arc_core.specs.Places.{Places, HasEachKeyOnce, found, others, to_front, shelved, brought_to_front, placed, refilled, without, weight_of, total_of, sticky_total_of}
use Rattle.arc_core.specs.Room.{shortest_suffix, survivors, evicted, fits, room}
use Rattle.byte_account.specs.ShelfWords.{on_side}
use Rattle.byte_account.specs.Weight.{weight_under}
use Rattle.byte_account.proofs.ShelfLists.{IsAbsent, own_key, others-absent, lookup-others, lookup-set_value, lookup-shelved, shelved-new, shelved-held}
use Rattle.byte_account.proofs.StickySums.{remove-absent, insert-replaces}
use Rattle.byte_account.proofs.EvictionLemmas.{IsAbsent-survivors, others-key, survivors-key}
use Rattle.byte_account.proofs.PlacesLaws.{absent_from_shelf, HasEachKeyOnce-placed, total-without}
use Rattle.byte_account.proofs.ShareLaws.{sticky_under, sticky_total-without}
use Rattle.byte_account.proofs.FoundLaws.{lookup-survivors, on_side-placed}
use Rattle.byte_account.proofs.StoreLaws.{insert-twice, removed_none, set-twice, placed-held}

le_same_by : (a b c d : ℕ) (x y : Bool) → nat_le a b ≡ x → nat_le c d ≡ y → (a ≤ b → c ≤ d) → (c ≤ d → a ≤ b) → x ≡ y
le_same_by a b c d true true e f to from = refl
le_same_by a b c d false false e f to from = refl
le_same_by a b c d true false e f to from = absurd (let k : nat_le c d ≡ true = le-leb c d (to (leb-true a b e)) in cc)
le_same_by a b c d false true e f to from = absurd (let k : nat_le a b ≡ true = le-leb a b (from (leb-true c d f)) in cc)

le_same : (a b c d : ℕ) → (a ≤ b → c ≤ d) → (c ≤ d → a ≤ b) → nat_le a b ≡ nat_le c d
le_same a b c d = le_same_by a b c d (nat_le a b) (nat_le c d) refl refl

fits_less_by : (limit total old new freed : ℕ) (extra : ℤ) → pos new -ℤ pos old ≡ extra → fits limit total (pos new) freed ≡ fits limit (total + old) extra freed
fits_less_by limit total old new freed (pos more) e = le_same _ _ _ _ (λ h. omega (arith, ints)) (λ h. omega (arith, ints))
fits_less_by limit total old new freed (negsuc less) e = le_same _ _ _ _ (λ h. omega (arith, ints)) (λ h. omega (arith, ints))

-- an item instead of one that is gone, or in place of one that is there
fits_less : (limit total old new freed : ℕ) → fits limit total (pos new) freed ≡ fits limit (total + old) (pos new -ℤ pos old) freed
fits_less limit total old new freed = fits_less_by limit total old new freed (pos new -ℤ pos old) refl

module _ {X : Type 0} (key : List ℕ) where
  -- eviction leaves the key where it is
  pub on_side-evicted : (sticky : Bool) (n : ℕ) (places : Places X) → on_side sticky key (evicted key n places) ≡ on_side sticky key places
  on_side-evicted true n places = refl
  on_side-evicted false n places = lookup-survivors key n places.shelf

  survivors-none : (shelf : List (List ℕ × X)) → survivors key 0 shelf ≡ shelf
  survivors-none [] = refl
  survivors-none (place ∷ older) = grind (arith, survivors-none older)

  -- no eviction changes nothing
  pub evicted-none : (places : Places X) → evicted key 0 places ≡ places
  evicted-none places = λ i. record { shelf = survivors-none places.shelf i; sticky = places.sticky; limit = places.limit; share = places.share }

  others_by : (place : List ℕ × X) (older : List (List ℕ × X)) (b : Bool) → bytes_eq key place.0 ≡ b → others key (place ∷ older) ≡ cond (not b) (place ∷ others key older) (others key older)
  others_by place older b e = ap (λ t. cond (not t) (place ∷ others key older) (others key older)) e

  survivors_by : (n : ℕ) (place : List ℕ × X) (older : List (List ℕ × X)) (b c : Bool) → bytes_eq key place.0 ≡ b → nat_le n (length (others key older)) ≡ c → survivors key n (place ∷ older) ≡ cond (b || c) (place ∷ survivors key n older) (survivors key n older)
  survivors_by n place older b c e f = λ i. cond (e i || f i) (place ∷ survivors key n older) (survivors key n older)

  others-others : (shelf : List (List ℕ × X)) → others key (others key shelf) ≡ others key shelf
  others-others shelf = others-absent key (others key shelf) (lookup-others key shelf)

  others_survivors_by : (n : ℕ) (place : List ℕ × X) (older : List (List ℕ × X)) (b c : Bool) → bytes_eq key place.0 ≡ b → nat_le n (length (others key older)) ≡ c → survivors key n (others key older) ≡ others key (survivors key n older)
      → survivors key n (others key (place ∷ older)) ≡ others key (survivors key n (place ∷ older))
  others_survivors_by n place older true c e f same =
      ap (survivors key n) (others_by place older true e) ∙ same ∙ sym (others_by place (survivors key n older) true e) ∙ sym (ap (others key) (survivors_by n place older true c e f))
  others_survivors_by n place older false true e f same =
      ap (survivors key n) (others_by place older false e)
      ∙ survivors_by n place (others key older) false true e (ap (λ l. nat_le n (length l)) (others-others older) ∙ f)
      ∙ ap (λ l. place ∷ l) same ∙ sym (others_by place (survivors key n older) false e) ∙ sym (ap (others key) (survivors_by n place older false true e f))
  others_survivors_by n place older false false e f same =
      ap (survivors key n) (others_by place older false e)
      ∙ survivors_by n place (others key older) false false e (ap (λ l. nat_le n (length l)) (others-others older) ∙ f)
      ∙ same ∙ sym (ap (others key) (survivors_by n place older false false e f))

  others-set_value : (x : X) (shelf : List (List ℕ × X)) → others key (set_value (bytes_eq key) shelf x) ≡ others key shelf
  others-set_value x [] = refl
  others-set_value x (place ∷ older) = grind (arith, others-set_value x older)

  to_front_absent : (shelf : List (List ℕ × X)) → IsAbsent key shelf → to_front key shelf ≡ shelf
  to_front_absent shelf absent = ap (λ o. option_map_or (λ x. (key, x) ∷ others key shelf) o shelf) absent

  pub others-survivors : (n : ℕ) (shelf : List (List ℕ × X)) → survivors key n (others key shelf) ≡ others key (survivors key n shelf)
  others-survivors n [] = refl
  others-survivors n (place ∷ older) = others_survivors_by n place older (bytes_eq key place.0) (nat_le n (length (others key older))) refl refl (others-survivors n older)

  -- the other places do not see what stands under the key
  others_shelved_by : (x : X) (shelf : List (List ℕ × X)) (held : Option X) → lookup (bytes_eq key) shelf ≡ held → others key (shelved key x shelf) ≡ others key shelf
  others_shelved_by x shelf None h = ap (others key) (shelved-new key x shelf h) ∙ others-key key x shelf
  others_shelved_by x shelf (Some old) h = ap (others key) (shelved-held key x old shelf h) ∙ others-set_value x shelf

  others-shelved : (x : X) (shelf : List (List ℕ × X)) → others key (shelved key x shelf) ≡ others key shelf
  others-shelved x shelf = others_shelved_by x shelf (lookup (bytes_eq key) shelf) refl

  shelved_twice_by : (h x : X) (shelf : List (List ℕ × X)) (held : Option X) → lookup (bytes_eq key) shelf ≡ held → shelved key x (shelved key h shelf) ≡ shelved key x shelf
  shelved_twice_by h x shelf None e =
      ap (shelved key x) (shelved-new key h shelf e) ∙ shelved-held key x h ((key, h) ∷ shelf) (ap (λ b. cond b (Some h) (lookup (bytes_eq key) shelf)) (own_key key))
      ∙ ap (λ b. cond b ((key, x) ∷ shelf) ((key, h) ∷ set_value (bytes_eq key) shelf x)) (own_key key) ∙ sym (shelved-new key x shelf e)
  shelved_twice_by h x shelf (Some old) e =
      ap (shelved key x) (shelved-held key h old shelf e) ∙ shelved-held key x h (set_value (bytes_eq key) shelf h) (lookup-set_value key h shelf (ap is_some e))
      ∙ set-twice key h x shelf ∙ sym (shelved-held key x old shelf e)

  evicted-made_sticky : (h : X) (n : ℕ) (places : Places X) → evicted key n (placed true key h places) ≡ placed true key h (evicted key n places)
  evicted-made_sticky h n places = λ i. record { shelf = others-survivors n places.shelf i; sticky = finite.insert places.sticky key h; limit = places.limit; share = places.share }

  to_front_shelved : (x : X) (shelf : List (List ℕ × X)) → to_front key (shelved key x shelf) ≡ (key, x) ∷ others key shelf
  to_front_shelved x shelf =
      ap (λ o. option_map_or (λ y. (key, y) ∷ others key (shelved key x shelf)) o (shelved key x shelf)) (lookup-shelved key x shelf) ∙ ap (λ l. (key, x) ∷ l) (others-shelved x shelf)

  -- what is placed anew stands where the first stood
  pub placed-twice : (sticky : Bool) (h x : X) (places : Places X) → placed sticky key x (placed sticky key h places) ≡ placed sticky key x places
  placed-twice true h x places =
      λ i. record { shelf = others-others places.shelf i; sticky = insert-twice key places.sticky h x i; limit = places.limit; share = places.share }
  placed-twice false h x places =
      λ i. record { shelf = shelved_twice_by h x places.shelf (lookup (bytes_eq key) places.shelf) refl i; sticky = remove-absent (finite.remove places.sticky key) key (removed_none key places.sticky) i; limit = places.limit; share = places.share }

  -- a place that was made or moved is filled
  pub refilled-made : (sticky : Bool) (h x : X) (places : Places X) → HasEachKeyOnce places → refilled key x (placed sticky key h places) ≡ placed sticky key x places
  refilled-made sticky h x places once =
      sym (placed-held key sticky h x (placed sticky key h places) (HasEachKeyOnce-placed sticky key h places once) (on_side-placed key sticky h places)) ∙ placed-twice sticky h x places

  -- the other places of the shelf do not see it
  pub others-made : (sticky : Bool) (h : X) (places : Places X) → others key (placed sticky key h places).shelf ≡ others key places.shelf
  others-made true h places = others-others places.shelf
  others-made false h places = others-shelved h places.shelf

  -- eviction sees no place of the key that it has anew on a side
  pub evicted-moved : (sticky : Bool) (h : X) (n : ℕ) (places : Places X) → on_side sticky key places ≡ None → evicted key n (placed sticky key h places) ≡ placed sticky key h (evicted key n places)
  evicted-moved true h n places absent = evicted-made_sticky h n places
  evicted-moved false h n places absent =
      let on_shelf = ap (survivors key n) (shelved-new key h places.shelf absent) ∙ survivors-key key n h places.shelf ∙ sym (shelved-new key h (survivors key n places.shelf) (IsAbsent-survivors key n key places.shelf absent)) in
      λ i. record { shelf = on_shelf i; sticky = finite.remove places.sticky key; limit = places.limit; share = places.share }

  -- a new place is the front
  pub touched-new : (sticky : Bool) (x : X) (places : Places X) → found key places ≡ None → brought_to_front key (placed sticky key x places) ≡ placed sticky key x places
  touched-new true x places absent =
      let on_shelf = to_front_absent (others key places.shelf) (lookup-others key places.shelf) in
      λ i. record { shelf = on_shelf i; sticky = finite.insert places.sticky key x; limit = places.limit; share = places.share }
  touched-new false x places absent =
      let none : IsAbsent key places.shelf = absent_from_shelf key places absent in
      let on_shelf = to_front_shelved x places.shelf ∙ ap (λ l. (key, x) ∷ l) (others-absent key places.shelf none) ∙ sym (shelved-new key x places.shelf none) in
      λ i. record { shelf = on_shelf i; sticky = finite.remove places.sticky key; limit = places.limit; share = places.share }

  -- what is used after it stands for another that is gone is in front, as what is new
  pub touched-anew : (sticky : Bool) (x : X) (n : ℕ) (places : Places X) → brought_to_front key (placed sticky key x (evicted key n places)) ≡ placed sticky key x (evicted key n (without key places))
  touched-anew true x n places =
      let on_shelf = to_front_absent (others key (survivors key n places.shelf)) (lookup-others key (survivors key n places.shelf)) ∙ sym (others-others (survivors key n places.shelf)) ∙ sym (ap (others key) (others-survivors n places.shelf)) in
      λ i. record { shelf = on_shelf i; sticky = sym (insert-replaces (λ k y. 0) places.sticky key x) i; limit = places.limit; share = places.share }
  touched-anew false x n places =
      let on_shelf = to_front_shelved x (survivors key n places.shelf) ∙ ap (λ l. (key, x) ∷ l) (sym (others-survivors n places.shelf))
      ∙ sym (shelved-new key x (survivors key n (others key places.shelf)) (IsAbsent-survivors key n key (others key places.shelf) (lookup-others key places.shelf))) in
      λ i. record { shelf = on_shelf i; sticky = sym (remove-absent (finite.remove places.sticky key) key (removed_none key places.sticky)) i; limit = places.limit; share = places.share }

  -- where the key's item is gone, another needs as much more room
  pub room-without : (weigh : List ℕ → X → ℕ) (old : X) (new sticky_old sticky_new : ℕ) (places : Places X) → HasEachKeyOnce places → found key places ≡ Some old → sticky_under weigh key places ≡ sticky_old
      → room weigh (without key places) key (pos new) (pos sticky_new) ≡ room weigh places key (pos new -ℤ pos (weigh key old)) (pos sticky_new -ℤ pos sticky_old)
  room-without weigh old new sticky_old sticky_new places once held sticky_held =
      let sum : total_of weigh (without key places) + weigh key old ≡ total_of weigh places = sym (ap (λ o. total_of weigh (without key places) + weight_under weigh key o) held) ∙ total-without weigh key places once in
      let sticky_sum : sticky_total_of weigh (without key places) + sticky_old ≡ sticky_total_of weigh places = sym (ap (λ n. sticky_total_of weigh (without key places) + n) sticky_held) ∙ sticky_total-without weigh key places in
      (λ i. cond (fits_less places.share (sticky_total_of weigh (without key places)) sticky_old sticky_new 0 i)
      (shortest_suffix (λ suffix. fits_less places.limit (total_of weigh (without key places)) (weigh key old) new (weight_of weigh suffix) i) (others-others places.shelf i)) None)
      ∙ (λ i. cond (fits places.share (sticky_sum i) (pos sticky_new -ℤ pos sticky_old) 0)
      (shortest_suffix (λ suffix. fits places.limit (sum i) (pos new -ℤ pos (weigh key old)) (weight_of weigh suffix)) (others key places.shelf)) None)
