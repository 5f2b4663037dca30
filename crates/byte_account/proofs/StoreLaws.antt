-- What the calls of a storing command leave together: a hollow place that is filled, or taken away, or filled anew.
use Rattle.std.proofs.Common.{◌≡◌, ℕ, Bool, true, false, cond, List, [], ◌∷◌, Option, Some, None, is_some, bytes_eq, ℤ, refl, sym, ap, ◌∙◌, arith}
use Rattle.std.specs.Ordering.{nat_cmp}
use Rattle.std.specs.Map.{set_value}
use Rattle.std.specs.Cmp.Lexicographic.{slice_cmp}
use Rattle.std.specs.FinMap.{FinMap}
use Rattle.std.specs.FinMap as finite
use Rattle.arc_core.specs.Places.{Places, HasEachKeyOnce, found, others, shelved, placed, refilled, without, weight_of, total_of, sticky_total_of}
use Rattle.arc_core.specs.Room.{shortest_suffix, survivors, evicted, fits, room}
use Rattle.byte_account.specs.ShelfWords.{on_side, cancelled, cancelled_at}
use Rattle.byte_account.specs.Weight.{weight_under}
use Rattle.byte_account.proofs.ShelfLists.{IsAbsent, own_key, others-absent, lookup-others, shelved-new, shelved-held, set_value-absent}
use Rattle.byte_account.proofs.StickyMaps.{same_map, get-insert, get-remove}
use Rattle.byte_account.proofs.StickySums.{remove-absent}
use Rattle.byte_account.proofs.EvictionLemmas.{IsAbsent-survivors, others-key, survivors-key}
use Rattle.byte_account.proofs.PlacesLaws.{absent_from_shelf, absent_from_sticky, not_on_shelf, total-placed}
use Rattle.byte_account.proofs.ShareLaws.{sticky_total-placed, sticky_total-listed}
use Rattle.byte_account.proofs.FoundLaws.{found-placed}

module _ {X : Type 0} (key : List ℕ) where
  twice_at : (m : FinMap (slice_cmp nat_cmp) X) (h x : X) (q : List ℕ) (b : Bool) → cond b (Some x) (cond b (Some h) (finite.get m q)) ≡ cond b (Some x) (finite.get m q)
  twice_at m h x q true = refl
  twice_at m h x q false = refl

  pub insert-twice : (m : FinMap (slice_cmp nat_cmp) X) (h x : X) → finite.insert (finite.insert m key h) key x ≡ finite.insert m key x
  insert-twice m h x = same_map _ _ (λ q. get-insert (finite.insert m key h) key x q ∙ ap (cond (bytes_eq q key) (Some x)) (get-insert m key h q) ∙ twice_at m h x q (bytes_eq q key) ∙ sym (get-insert m key x q))

  gone_at : (m : FinMap (slice_cmp nat_cmp) X) (h : X) (q : List ℕ) (b : Bool) → cond b None (cond b (Some h) (finite.get m q)) ≡ cond b None (finite.get m q)
  gone_at m h q true = refl
  gone_at m h q false = refl

  remove-inserted : (m : FinMap (slice_cmp nat_cmp) X) (h : X) → finite.remove (finite.insert m key h) key ≡ finite.remove m key
  remove-inserted m h = same_map _ _ (λ q. get-remove (finite.insert m key h) key q ∙ ap (cond (bytes_eq q key) None) (get-insert m key h q) ∙ gone_at m h q (bytes_eq q key) ∙ sym (get-remove m key q))

  insert_has : (m : FinMap (slice_cmp nat_cmp) X) (h : X) → finite.contains_key (finite.insert m key h) key ≡ true
  insert_has m h = ap is_some (get-insert m key h key ∙ ap (λ b. cond b (Some h) (finite.get m key)) (own_key key))

  pub removed_none : (m : FinMap (slice_cmp nat_cmp) X) → finite.get (finite.remove m key) key ≡ None
  removed_none m = get-remove m key key ∙ ap (λ b. cond b None (finite.get m key)) (own_key key)

  -- a new place that is filled afterwards
  pub refilled-placed : (sticky : Bool) (h x : X) (places : Places X) → found key places ≡ None → refilled key x (placed sticky key h places) ≡ placed sticky key x places
  refilled-placed true h x places absent =
      let on_shelf = set_value-absent (bytes_eq key) (others key places.shelf) x (lookup-others key places.shelf) in
      let in_sticky : cond (finite.contains_key (finite.insert places.sticky key h) key) (finite.insert (finite.insert places.sticky key h) key x) (finite.insert places.sticky key h) ≡ finite.insert places.sticky key x =
      ap (λ b. cond b (finite.insert (finite.insert places.sticky key h) key x) (finite.insert places.sticky key h)) (insert_has places.sticky h) ∙ insert-twice places.sticky h x in
      λ i. record { shelf = on_shelf i; sticky = in_sticky i; limit = places.limit; share = places.share }
  refilled-placed false h x places absent =
      let none = absent_from_shelf key places absent in
      let on_shelf : set_value (bytes_eq key) (shelved key h places.shelf) x ≡ shelved key x places.shelf =
      ap (λ s. set_value (bytes_eq key) s x) (shelved-new key h places.shelf none) ∙ ap (λ b. cond b ((key, x) ∷ places.shelf) ((key, h) ∷ set_value (bytes_eq key) places.shelf x)) (own_key key) ∙ sym (shelved-new key x places.shelf none) in
      let in_sticky : cond (finite.contains_key (finite.remove places.sticky key) key) (finite.insert (finite.remove places.sticky key) key x) (finite.remove places.sticky key) ≡ finite.remove places.sticky key =
      ap (λ o. cond (is_some o) (finite.insert (finite.remove places.sticky key) key x) (finite.remove places.sticky key)) (removed_none places.sticky) in
      λ i. record { shelf = on_shelf i; sticky = in_sticky i; limit = places.limit; share = places.share }

  -- a new place that is taken away again
  pub without-placed : (sticky : Bool) (h : X) (places : Places X) → found key places ≡ None → without key (placed sticky key h places) ≡ places
  without-placed true h places absent =
      let none = absent_from_shelf key places absent in
      let on_shelf = ap (others key) (others-absent key places.shelf none) ∙ others-absent key places.shelf none in
      let in_sticky = remove-inserted places.sticky h ∙ remove-absent places.sticky key (absent_from_sticky key places absent) in
      λ i. record { shelf = on_shelf i; sticky = in_sticky i; limit = places.limit; share = places.share }
  without-placed false h places absent =
      let none = absent_from_shelf key places absent in
      let on_shelf = ap (others key) (shelved-new key h places.shelf none) ∙ others-key key h places.shelf ∙ others-absent key places.shelf none in
      let gone = remove-absent places.sticky key (absent_from_sticky key places absent) in
      let in_sticky = ap (λ m. finite.remove m key) gone ∙ gone in
      λ i. record { shelf = on_shelf i; sticky = in_sticky i; limit = places.limit; share = places.share }

  -- eviction does not see a new place of the key
  pub evicted-placed : (sticky : Bool) (h : X) (n : ℕ) (places : Places X) → found key places ≡ None → evicted key n (placed sticky key h places) ≡ placed sticky key h (evicted key n places)
  evicted-placed true h n places absent =
      let none = absent_from_shelf key places absent in
      let on_shelf = ap (survivors key n) (others-absent key places.shelf none) ∙ sym (others-absent key (survivors key n places.shelf) (IsAbsent-survivors key n key places.shelf none)) in
      λ i. record { shelf = on_shelf i; sticky = finite.insert places.sticky key h; limit = places.limit; share = places.share }
  evicted-placed false h n places absent =
      let none = absent_from_shelf key places absent in
      let on_shelf = ap (survivors key n) (shelved-new key h places.shelf none) ∙ survivors-key key n h places.shelf ∙ sym (shelved-new key h (survivors key n places.shelf) (IsAbsent-survivors key n key places.shelf none)) in
      λ i. record { shelf = on_shelf i; sticky = finite.remove places.sticky key; limit = places.limit; share = places.share }

  others_placed : (sticky : Bool) (h : X) (places : Places X) → found key places ≡ None → others key (placed sticky key h places).shelf ≡ others key places.shelf
  others_placed true h places absent = ap (others key) (others-absent key places.shelf (absent_from_shelf key places absent))
  others_placed false h places absent = ap (others key) (shelved-new key h places.shelf (absent_from_shelf key places absent)) ∙ others-key key h places.shelf

  same_limit : (sticky : Bool) (h : X) (places : Places X) → (placed sticky key h places).limit ≡ places.limit
  same_limit true h places = refl
  same_limit false h places = refl

  same_share : (sticky : Bool) (h : X) (places : Places X) → (placed sticky key h places).share ≡ places.share
  same_share true h places = refl
  same_share false h places = refl

  sticky_total_placed : (weigh : List ℕ → X → ℕ) (sticky : Bool) (h : X) (places : Places X) → finite.get places.sticky key ≡ None → weigh key h ≡ 0 → sticky_total_of weigh (placed sticky key h places) ≡ sticky_total_of weigh places
  sticky_total_placed weigh true h places absent none =
      let before : weight_under weigh key (finite.get places.sticky key) ≡ 0 = ap (weight_under weigh key) absent in
      omega (arith, sticky_total-placed weigh key h places)
  sticky_total_placed weigh false h places absent none =
      let before : weight_under weigh key (finite.get places.sticky key) ≡ 0 = ap (weight_under weigh key) absent in
      omega (arith, sticky_total-listed weigh key h places)

  -- nor does room, where that place weighs nothing
  pub room-placed : (weigh : List ℕ → X → ℕ) (sticky : Bool) (h : X) (places : Places X) (extra sticky_extra : ℤ) → HasEachKeyOnce places → found key places ≡ None → weigh key h ≡ 0 → room weigh (placed sticky key h places) key extra sticky_extra ≡ room weigh places key extra sticky_extra
  room-placed weigh sticky h places extra sticky_extra once absent none =
      let before : weight_under weigh key (found key places) ≡ 0 = ap (weight_under weigh key) absent in
      let total : total_of weigh (placed sticky key h places) ≡ total_of weigh places = omega (arith, total-placed weigh sticky key h places once) in
      let sticky_total = sticky_total_placed weigh sticky h places (absent_from_sticky key places absent) none in
      (λ i. cond (fits (same_share sticky h places i) (sticky_total i) sticky_extra 0)
      (shortest_suffix (λ suffix. fits (same_limit sticky h places i) (total i) extra (weight_of weigh suffix)) (others_placed sticky h places absent i)) None)

  pub set-twice : (h x : X) (shelf : List (List ℕ × X)) → set_value (bytes_eq key) (set_value (bytes_eq key) shelf h) x ≡ set_value (bytes_eq key) shelf x
  set-twice h x [] = refl
  set-twice h x (place ∷ older) = grind (arith, set-twice h x older)

  twice_by : (m : FinMap (slice_cmp nat_cmp) X) (h x : X) (o : Option X) → finite.get m key ≡ o
      → cond (finite.contains_key (cond (is_some o) (finite.insert m key h) m) key) (finite.insert (cond (is_some o) (finite.insert m key h) m) key x) (cond (is_some o) (finite.insert m key h) m) ≡ cond (is_some o) (finite.insert m key x) m
  twice_by m h x None e = ap (λ o. cond (is_some o) (finite.insert m key x) m) e
  twice_by m h x (Some y) e = ap (λ b. cond b (finite.insert (finite.insert m key h) key x) (finite.insert m key h)) (insert_has m h) ∙ insert-twice m h x

  -- a place that is made hollow and filled anew
  pub refilled-refilled : (h x : X) (places : Places X) → refilled key x (refilled key h places) ≡ refilled key x places
  refilled-refilled h x places =
      λ i. record { shelf = set-twice h x places.shelf i; sticky = twice_by places.sticky h x (finite.get places.sticky key) refl i; limit = places.limit; share = places.share }

  contains_by : (x : X) (m : FinMap (slice_cmp nat_cmp) X) (o : Option X) → finite.get m key ≡ o → finite.contains_key (cond (is_some o) (finite.insert m key x) m) key ≡ is_some o
  contains_by x m None e = ap is_some e
  contains_by x m (Some y) e = insert_has m x

  -- and stays on its side
  pub contains-refilled : (x : X) (places : Places X) → finite.contains_key (refilled key x places).sticky key ≡ finite.contains_key places.sticky key
  contains-refilled x places = contains_by x places.sticky (finite.get places.sticky key) refl

  -- an item put on the side where the key has its place keeps that place
  pub placed-held : (sticky : Bool) (old x : X) (places : Places X) → HasEachKeyOnce places → on_side sticky key places ≡ Some old → placed sticky key x places ≡ refilled key x places
  placed-held true old x places once held =
      let absent : IsAbsent key places.shelf = not_on_shelf places once key (ap is_some held) in
      let on_shelf = others-absent key places.shelf absent ∙ sym (set_value-absent (bytes_eq key) places.shelf x absent) in
      let in_sticky : finite.insert places.sticky key x ≡ cond (finite.contains_key places.sticky key) (finite.insert places.sticky key x) places.sticky =
      sym (ap (λ o. cond (is_some o) (finite.insert places.sticky key x) places.sticky) held) in
      λ i. record { shelf = on_shelf i; sticky = in_sticky i; limit = places.limit; share = places.share }
  placed-held false old x places once held =
      let none : finite.get places.sticky key ≡ None = once.on_one_side key (ap is_some held) in
      let in_sticky : finite.remove places.sticky key ≡ cond (finite.contains_key places.sticky key) (finite.insert places.sticky key x) places.sticky =
      remove-absent places.sticky key none ∙ sym (ap (λ o. cond (is_some o) (finite.insert places.sticky key x) places.sticky) none) in
      λ i. record { shelf = shelved-held key x old places.shelf held i; sticky = in_sticky i; limit = places.limit; share = places.share }

module _ {T : Type 0} (key : List ℕ) where
  -- a hollow place that is cancelled leaves all as it was
  pub cancelled-placed : (sticky : Bool) (places : Places (Option T)) → found key places ≡ None → cancelled key (placed sticky key None places) ≡ places
  cancelled-placed sticky places absent =
      ap (λ o. cancelled_at o key (placed sticky key None places)) (found-placed key sticky None places) ∙ without-placed key sticky None places absent
