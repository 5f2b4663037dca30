-- Each word on places, read at f of what stands in them: so what is said of the items holds of the shelf that holds them.
use Rattle.std.proofs.Common.{◌≡◌, ℕ, ◌+◌, Bool, true, false, cond, ◌&&◌, ◌||◌, T, List, [], ◌∷◌, map, length, Option, Some, None, is_some, option_map, bytes_eq, nat_le, ℤ, refl, sym, ap, ◌∙◌, subst, arith}
use Rattle.std.specs.Option.{option_or, option_map_or}
use Rattle.std.specs.Ordering.{nat_cmp, is_lt}
use Rattle.std.specs.List.{IsDistinct}
use Rattle.std.specs.Map.{keys_of, lookup, set_value}
use Rattle.std.specs.Cmp.Lexicographic.{slice_cmp}
use Rattle.std.specs.FinMap.Entries.{below_all}
use Rattle.std.specs.FinMap.{FinMap, is_sorted, find}
use Rattle.std.specs.FinMap as finite
use Rattle.std.proofs.lemmas.List.{length-map}
use Rattle.arc_core.specs.Places.{Places, HasEachKeyOnce, found, others, count_of, to_front, shelved, brought_to_front, placed, refilled, without, weight_of, total_of, sticky_total_of}
use Rattle.arc_core.specs.Room.{shortest_suffix, survivors, evicted, fits, share_fits, least_eviction, room}
use Rattle.byte_account.specs.declared.room.Room.TheVariants.{Fits}
use Rattle.byte_account.specs.ShelfWords.{room_answer}
use Rattle.byte_account.specs.Filled.{map_listed, map_values, map_places, filled, items_listed, items_of, IsFilled}
use Rattle.byte_account.proofs.ByBytesLemmas.{cond_ap}
use Rattle.byte_account.proofs.ShelfLists.{weight-cons}
use Rattle.byte_account.proofs.StickyMaps.{same_map, get-insert, get-remove}

module _ {X Y : Type 0} (f : X → Y) where
  below_all-map : (x : List ℕ) (es : List (List ℕ × X)) → below_all (slice_cmp nat_cmp) x (map_listed f es) ≡ below_all (slice_cmp nat_cmp) x es
  below_all-map x [] = refl
  below_all-map x (e ∷ es) = ap (λ b. is_lt (slice_cmp nat_cmp x e.0) && b) (below_all-map x es)

  is_sorted-map : (es : List (List ℕ × X)) → is_sorted (slice_cmp nat_cmp) (map_listed f es) ≡ is_sorted (slice_cmp nat_cmp) es
  is_sorted-map [] = refl
  is_sorted-map (e ∷ es) = ap (λ b. b && is_sorted (slice_cmp nat_cmp) (map_listed f es)) (below_all-map e.0 es) ∙ ap (λ b. below_all (slice_cmp nat_cmp) e.0 es && b) (is_sorted-map es)

  pub entries-map_values : (m : FinMap (slice_cmp nat_cmp) X) → finite.entries (map_values f m) ≡ map_listed f (finite.entries m)
  entries-map_values m = finite.entries-from_sorted (slice_cmp nat_cmp) (map_listed f (finite.entries m)) (subst T (sym (is_sorted-map (finite.entries m))) (finite.entries_sorted m))

  find-map : (q : List ℕ) (es : List (List ℕ × X)) → find (slice_cmp nat_cmp) q (map_listed f es) ≡ option_map f (find (slice_cmp nat_cmp) q es)
  find-map q [] = refl
  find-map q (e ∷ es) = grind (arith, find-map q es)

  pub get-map_values : (m : FinMap (slice_cmp nat_cmp) X) (q : List ℕ) → finite.get (map_values f m) q ≡ option_map f (finite.get m q)
  get-map_values m q = finite.get-entries (map_values f m) q ∙ ap (find (slice_cmp nat_cmp) q) (entries-map_values m) ∙ find-map q (finite.entries m) ∙ ap (option_map f) (sym (finite.get-entries m q))

  insert_at : (m : FinMap (slice_cmp nat_cmp) X) (x : X) (q : List ℕ) (b : Bool) → option_map f (cond b (Some x) (finite.get m q)) ≡ cond b (Some (f x)) (option_map f (finite.get m q))
  insert_at m x q true = refl
  insert_at m x q false = refl

  pub map_values-insert : (m : FinMap (slice_cmp nat_cmp) X) (key : List ℕ) (x : X) → map_values f (finite.insert m key x) ≡ finite.insert (map_values f m) key (f x)
  map_values-insert m key x = same_map _ _ (λ q. get-map_values (finite.insert m key x) q ∙ ap (option_map f) (get-insert m key x q) ∙ insert_at m x q (bytes_eq q key)
      ∙ ap (cond (bytes_eq q key) (Some (f x))) (sym (get-map_values m q)) ∙ sym (get-insert (map_values f m) key (f x) q))

  remove_at : (m : FinMap (slice_cmp nat_cmp) X) (q : List ℕ) (b : Bool) → option_map f (cond b None (finite.get m q)) ≡ cond b None (option_map f (finite.get m q))
  remove_at m q true = refl
  remove_at m q false = refl

  pub map_values-remove : (m : FinMap (slice_cmp nat_cmp) X) (key : List ℕ) → map_values f (finite.remove m key) ≡ finite.remove (map_values f m) key
  map_values-remove m key = same_map _ _ (λ q. get-map_values (finite.remove m key) q ∙ ap (option_map f) (get-remove m key q) ∙ remove_at m q (bytes_eq q key)
      ∙ ap (cond (bytes_eq q key) None) (sym (get-map_values m q)) ∙ sym (get-remove (map_values f m) key q))

  pub lookup-map : (key : List ℕ) (shelf : List (List ℕ × X)) → lookup (bytes_eq key) (map_listed f shelf) ≡ option_map f (lookup (bytes_eq key) shelf)
  lookup-map key [] = refl
  lookup-map key (place ∷ older) = grind (arith, lookup-map key older)

  pub others-map : (key : List ℕ) (shelf : List (List ℕ × X)) → others key (map_listed f shelf) ≡ map_listed f (others key shelf)
  others-map key [] = refl
  others-map key (place ∷ older) = grind (arith, others-map key older)

  pub set_value-map : (key : List ℕ) (x : X) (shelf : List (List ℕ × X)) → set_value (bytes_eq key) (map_listed f shelf) (f x) ≡ map_listed f (set_value (bytes_eq key) shelf x)
  set_value-map key x [] = refl
  set_value-map key x (place ∷ older) = grind (arith, set_value-map key x older)

  is_some-map : (o : Option X) → is_some (option_map f o) ≡ is_some o
  is_some-map None = refl
  is_some-map (Some x) = refl

  pub shelved-map : (key : List ℕ) (x : X) (shelf : List (List ℕ × X)) → shelved key (f x) (map_listed f shelf) ≡ map_listed f (shelved key x shelf)
  shelved-map key x shelf =
      ap (λ b. cond b (set_value (bytes_eq key) (map_listed f shelf) (f x)) ((key, f x) ∷ map_listed f shelf)) (ap is_some (lookup-map key shelf) ∙ is_some-map (lookup (bytes_eq key) shelf))
      ∙ ap (λ s. cond (is_some (lookup (bytes_eq key) shelf)) s ((key, f x) ∷ map_listed f shelf)) (set_value-map key x shelf)
      ∙ sym (cond_ap (map_listed f) (is_some (lookup (bytes_eq key) shelf)) (set_value (bytes_eq key) shelf x) ((key, x) ∷ shelf))

  front_by : (key : List ℕ) (shelf : List (List ℕ × X)) (o : Option X) → option_map_or (λ y. (key, y) ∷ others key (map_listed f shelf)) (option_map f o) (map_listed f shelf) ≡ map_listed f (option_map_or (λ x. (key, x) ∷ others key shelf) o shelf)
  front_by key shelf None = refl
  front_by key shelf (Some x) = ap (λ rest. (key, f x) ∷ rest) (others-map key shelf)

  pub to_front-map : (key : List ℕ) (shelf : List (List ℕ × X)) → to_front key (map_listed f shelf) ≡ map_listed f (to_front key shelf)
  to_front-map key shelf = ap (λ o. option_map_or (λ y. (key, y) ∷ others key (map_listed f shelf)) o (map_listed f shelf)) (lookup-map key shelf) ∙ front_by key shelf (lookup (bytes_eq key) shelf)

  length-others_map : (key : List ℕ) (shelf : List (List ℕ × X)) → length (others key (map_listed f shelf)) ≡ length (others key shelf)
  length-others_map key shelf = ap length (others-map key shelf) ∙ length-map (others key shelf) (λ place. (place.0, f place.1))

  pub survivors-map : (key : List ℕ) (n : ℕ) (shelf : List (List ℕ × X)) → survivors key n (map_listed f shelf) ≡ map_listed f (survivors key n shelf)
  survivors-map key n [] = refl
  survivors-map key n (place ∷ older) =
      ap (λ k. cond (bytes_eq key place.0 || nat_le n k) ((place.0, f place.1) ∷ survivors key n (map_listed f older)) (survivors key n (map_listed f older))) (length-others_map key older)
      ∙ ap (λ rest. cond (bytes_eq key place.0 || nat_le n (length (others key older))) ((place.0, f place.1) ∷ rest) rest) (survivors-map key n older)
      ∙ sym (cond_ap (map_listed f) (bytes_eq key place.0 || nat_le n (length (others key older))) (place ∷ survivors key n older) (survivors key n older))

  pub weight-map : (weigh : List ℕ → Y → ℕ) (shelf : List (List ℕ × X)) → weight_of weigh (map_listed f shelf) ≡ weight_of (λ key x. weigh key (f x)) shelf
  weight-map weigh [] = refl
  weight-map weigh (place ∷ older) =
      weight-cons weigh (place.0, f place.1) (map_listed f older) ∙ ap (λ n. weigh place.0 (f place.1) + n) (weight-map weigh older) ∙ sym (weight-cons (λ key x. weigh key (f x)) place older)

  -- the words on places

  found_by : (a b : Option X) → option_or (option_map f a) (option_map f b) ≡ option_map f (option_or a b)
  found_by None b = refl
  found_by (Some x) b = refl

  pub found-map : (key : List ℕ) (places : Places X) → found key (map_places f places) ≡ option_map f (found key places)
  found-map key places =
      ap (λ o. option_or o (finite.get (map_values f places.sticky) key)) (lookup-map key places.shelf) ∙ ap (option_or (option_map f (lookup (bytes_eq key) places.shelf))) (get-map_values places.sticky key)
      ∙ found_by (lookup (bytes_eq key) places.shelf) (finite.get places.sticky key)

  pub sticky_total-map : (weigh : List ℕ → Y → ℕ) (places : Places X) → sticky_total_of weigh (map_places f places) ≡ sticky_total_of (λ key x. weigh key (f x)) places
  sticky_total-map weigh places = ap (weight_of weigh) (entries-map_values places.sticky) ∙ weight-map weigh (finite.entries places.sticky)

  pub total-map : (weigh : List ℕ → Y → ℕ) (places : Places X) → total_of weigh (map_places f places) ≡ total_of (λ key x. weigh key (f x)) places
  total-map weigh places =
      ap (λ n. n + weight_of weigh (finite.entries (map_values f places.sticky))) (weight-map weigh places.shelf)
      ∙ ap (λ n. weight_of (λ key x. weigh key (f x)) places.shelf + n) (sticky_total-map weigh places)

  pub touched-map : (key : List ℕ) (places : Places X) → brought_to_front key (map_places f places) ≡ map_places f (brought_to_front key places)
  touched-map key places = λ i. record { shelf = to_front-map key places.shelf i; sticky = map_values f places.sticky; limit = places.limit; share = places.share }

  pub placed-map : (sticky : Bool) (key : List ℕ) (x : X) (places : Places X) → placed sticky key (f x) (map_places f places) ≡ map_places f (placed sticky key x places)
  placed-map true key x places = λ i. record { shelf = others-map key places.shelf i; sticky = sym (map_values-insert places.sticky key x) i; limit = places.limit; share = places.share }
  placed-map false key x places = λ i. record { shelf = shelved-map key x places.shelf i; sticky = sym (map_values-remove places.sticky key) i; limit = places.limit; share = places.share }

  pub without-map : (key : List ℕ) (places : Places X) → without key (map_places f places) ≡ map_places f (without key places)
  without-map key places = λ i. record { shelf = others-map key places.shelf i; sticky = sym (map_values-remove places.sticky key) i; limit = places.limit; share = places.share }

  pub evicted-map : (key : List ℕ) (n : ℕ) (places : Places X) → evicted key n (map_places f places) ≡ map_places f (evicted key n places)
  evicted-map key n places = λ i. record { shelf = survivors-map key n places.shelf i; sticky = map_values f places.sticky; limit = places.limit; share = places.share }

  refilled_at : (key : List ℕ) (x : X) (m : FinMap (slice_cmp nat_cmp) X) (o : Option X) → cond (is_some (option_map f o)) (finite.insert (map_values f m) key (f x)) (map_values f m) ≡ map_values f (cond (is_some o) (finite.insert m key x) m)
  refilled_at key x m None = refl
  refilled_at key x m (Some y) = sym (map_values-insert m key x)

  pub refilled-map : (key : List ℕ) (x : X) (places : Places X) → refilled key (f x) (map_places f places) ≡ map_places f (refilled key x places)
  refilled-map key x places =
      let in_sticky : cond (finite.contains_key (map_values f places.sticky) key) (finite.insert (map_values f places.sticky) key (f x)) (map_values f places.sticky) ≡ map_values f (cond (finite.contains_key places.sticky key) (finite.insert places.sticky key x) places.sticky) =
      ap (λ o. cond (is_some o) (finite.insert (map_values f places.sticky) key (f x)) (map_values f places.sticky)) (get-map_values places.sticky key) ∙ refilled_at key x places.sticky (finite.get places.sticky key) in
      λ i. record { shelf = set_value-map key x places.shelf i; sticky = in_sticky i; limit = places.limit; share = places.share }

  pub count-map : (places : Places X) → count_of (map_places f places) ≡ count_of places
  count-map places =
      ap (λ n. n + finite.len (map_values f places.sticky)) (length-map places.shelf (λ place. (place.0, f place.1)))
      ∙ ap (λ n. length places.shelf + n) (finite.len-entries (map_values f places.sticky) ∙ ap length (entries-map_values places.sticky) ∙ length-map (finite.entries places.sticky) (λ place. (place.0, f place.1)) ∙ sym (finite.len-entries places.sticky))

  keys_of-map : (shelf : List (List ℕ × X)) → keys_of (map_listed f shelf) ≡ keys_of shelf
  keys_of-map [] = refl
  keys_of-map (place ∷ older) = ap (λ rest. place.0 ∷ rest) (keys_of-map older)

  none_back : (o : Option X) → option_map f o ≡ None → o ≡ None
  none_back None h = refl
  none_back (Some x) h = absurd (cc)

  pub HasEachKeyOnce-map : (places : Places X) → HasEachKeyOnce places → HasEachKeyOnce (map_places f places)
  HasEachKeyOnce-map places once =
      record {
        on_shelf = subst (IsDistinct bytes_eq) (sym (keys_of-map places.shelf)) once.on_shelf;
        on_one_side = λ q there. get-map_values places.sticky q ∙ ap (option_map f) (once.on_one_side q (sym (is_some-map (lookup (bytes_eq q) places.shelf)) ∙ ap is_some (sym (lookup-map q places.shelf)) ∙ there));
      }

  pub HasEachKeyOnce-from_map : (places : Places X) → HasEachKeyOnce (map_places f places) → HasEachKeyOnce places
  HasEachKeyOnce-from_map places once =
      record {
        on_shelf = subst (IsDistinct bytes_eq) (keys_of-map places.shelf) once.on_shelf;
        on_one_side = λ q there. none_back _ (sym (get-map_values places.sticky q) ∙ once.on_one_side q (ap is_some (lookup-map q places.shelf) ∙ is_some-map (lookup (bytes_eq q) places.shelf) ∙ there));
      }

or_map : {A B : Type 0} (g : A → B) (a b : Option A) → option_or (option_map g a) (option_map g b) ≡ option_map g (option_or a b)
or_map g None b = refl
or_map g (Some x) b = refl

suffix_map : {A B : Type 0} (g : A → B) (enough : List B → Bool) (xs : List A) → shortest_suffix enough (map g xs) ≡ option_map (map g) (shortest_suffix (λ suffix. enough (map g suffix)) xs)
suffix_map g enough [] = sym (cond_ap (option_map (map g)) (enough []) (Some []) None)
suffix_map g enough (x ∷ xs) =
    ap (λ o. option_or o (cond (enough (g x ∷ map g xs)) (Some (g x ∷ map g xs)) None)) (suffix_map g enough xs)
    ∙ ap (option_or (option_map (map g) (shortest_suffix (λ suffix. enough (map g suffix)) xs))) (sym (cond_ap (option_map (map g)) (enough (g x ∷ map g xs)) (Some (x ∷ xs)) None))
    ∙ or_map (map g) (shortest_suffix (λ suffix. enough (map g suffix)) xs) (cond (enough (g x ∷ map g xs)) (Some (x ∷ xs)) None)

module _ {X Y : Type 0} (f : X → Y) where
  least_eviction-map : (weigh : List ℕ → Y → ℕ) (places : Places X) (key : List ℕ) (extra : ℤ) → least_eviction weigh (map_places f places) key extra ≡ option_map (map_listed f) (least_eviction (λ k x. weigh k (f x)) places key extra)
  least_eviction-map weigh places key extra =
      let same : (suffix : List (List ℕ × X)) → fits places.limit (total_of weigh (map_places f places)) extra (weight_of weigh (map_listed f suffix)) ≡ fits places.limit (total_of (λ k x. weigh k (f x)) places) extra (weight_of (λ k x. weigh k (f x)) suffix) =
      λ suffix. ap (λ n. fits places.limit n extra (weight_of weigh (map_listed f suffix))) (total-map f weigh places) ∙ ap (fits places.limit (total_of (λ k x. weigh k (f x)) places) extra) (weight-map f weigh suffix) in
      ap (shortest_suffix (λ suffix. fits places.limit (total_of weigh (map_places f places)) extra (weight_of weigh suffix))) (others-map f key places.shelf)
      ∙ suffix_map (λ place. (place.0, f place.1)) (λ suffix. fits places.limit (total_of weigh (map_places f places)) extra (weight_of weigh suffix)) (others key places.shelf)
      ∙ (λ i. option_map (map_listed f) (shortest_suffix (λ suffix. same suffix i) (others key places.shelf)))

  pub room-map : (weigh : List ℕ → Y → ℕ) (places : Places X) (key : List ℕ) (extra sticky_extra : ℤ) → room weigh (map_places f places) key extra sticky_extra ≡ option_map (map_listed f) (room (λ k x. weigh k (f x)) places key extra sticky_extra)
  room-map weigh places key extra sticky_extra =
      (λ i. cond (fits places.share (sticky_total-map f weigh places i) sticky_extra 0) (least_eviction-map weigh places key extra i) None)
      ∙ sym (cond_ap (option_map (map_listed f)) (share_fits (λ k x. weigh k (f x)) places sticky_extra) (least_eviction (λ k x. weigh k (f x)) places key extra) None)

  answer_by : (suffix : Option (List (List ℕ × X))) → room_answer (option_map (map_listed f) suffix) ≡ room_answer suffix
  answer_by None = refl
  answer_by (Some suffix) = ap Fits (length-map suffix (λ place. (place.0, f place.1)))

  -- the shelf's answer on room is that of the items
  pub room_answer-map : (weigh : List ℕ → Y → ℕ) (places : Places X) (key : List ℕ) (extra sticky_extra : ℤ) → room_answer (room weigh (map_places f places) key extra sticky_extra) ≡ room_answer (room (λ k x. weigh k (f x)) places key extra sticky_extra)
  room_answer-map weigh places key extra sticky_extra = ap room_answer (room-map weigh places key extra sticky_extra) ∙ answer_by (room (λ k x. weigh k (f x)) places key extra sticky_extra)

module _ {T : Type 0} where
  listed-filled : (shelf : List (List ℕ × T)) → items_listed (map_listed (λ item. Some item) shelf) ≡ shelf
  listed-filled [] = refl
  listed-filled (place ∷ older) = ap (λ rest. place ∷ rest) (listed-filled older)

  -- the items of places that all have one
  pub items_of-filled : (places : Places T) → items_of (filled places) ≡ places
  items_of-filled places =
      let in_sticky : finite.from_sorted (items_listed (finite.entries (map_values (λ item. Some item) places.sticky))) ≡ places.sticky =
      ap (λ es. finite.from_sorted (items_listed es)) (entries-map_values (λ item. Some item) places.sticky) ∙ ap finite.from_sorted (listed-filled (finite.entries places.sticky))
      ∙ finite.same_entries_map _ places.sticky (finite.entries-from_sorted (slice_cmp nat_cmp) (finite.entries places.sticky) (finite.entries_sorted places.sticky)) in
      λ i. record { shelf = listed-filled places.shelf i; sticky = in_sticky i; limit = places.limit; share = places.share }

  pub IsFilled-filled : (places : Places T) → IsFilled (filled places)
  IsFilled-filled places = ap filled (sym (items_of-filled places))
