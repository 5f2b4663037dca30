-- The laws of places: what stands under a key, that each key has one place at most, and the total, after each change.
use Rattle.std.proofs.Common.{◌≡◌, ℕ, ◌+◌, Bool, true, false, cond, List, ◌∷◌, Option, Some, None, IsSome, is_some, bytes_eq, refl, sym, ap, ◌∙◌, subst, arith}
use Rattle.std.specs.Option.{option_or}
use Rattle.std.specs.Map.{lookup, set_value}
use Rattle.std.specs.FinMap as finite
use Rattle.arc_core.specs.Places.{Places, HasEachKeyOnce, found, others, shelved, brought_to_front, placed, refilled, without, weight_of, total_of}
use Rattle.byte_account.specs.ShelfWords.{listed_at, stuck_at}
use Rattle.byte_account.specs.Weight.{weight_under}
use Rattle.byte_account.proofs.ShelfLists.{IsAbsent, same_key, others-absent, lookup-others, lookup-others_apart, AreApart-others, AreApart-to_front, AreApart-set_value, AreApart-shelved, lookup-to_front, is_some-set_value, lookup-shelved_apart, shelved-new, set_value-absent, weight-others, weight-to_front, weight-set_value, weight-shelved}
use Rattle.arc_core.specs.Room.{evicted}
use Rattle.byte_account.proofs.EvictionLemmas.{AreApart-survivors, is_some-survivors}
use Rattle.byte_account.proofs.StickyMaps.{get-insert, get-remove}
use Rattle.byte_account.proofs.StickySums.{weight-insert_new, weight-insert, weight-remove, remove-absent}

module _ {X : Type 0} where
  none_first : (a b : Option X) → option_or a b ≡ None → a ≡ None
  none_first None b h = refl
  none_first (Some x) b h = h

  none_second : (a b : Option X) → option_or a b ≡ None → b ≡ None
  none_second None b h = h
  none_second (Some x) b h = absurd (cc)

  -- under a key that has no place, neither side has one
  pub absent_from_shelf : (key : List ℕ) (places : Places X) → found key places ≡ None → IsAbsent key places.shelf
  absent_from_shelf key places = none_first (lookup (bytes_eq key) places.shelf) (finite.get places.sticky key)

  pub absent_from_sticky : (key : List ℕ) (places : Places X) → found key places ≡ None → finite.get places.sticky key ≡ None
  absent_from_sticky key places = none_second (lookup (bytes_eq key) places.shelf) (finite.get places.sticky key)

  -- where the shelf has the key, that is what is found, and the sticky items do not have it
  pub found-shelf : (key : List ℕ) (places : Places X) (x : X) → lookup (bytes_eq key) places.shelf ≡ Some x → found key places ≡ Some x
  found-shelf key places x h = ap (λ o. option_or o (finite.get places.sticky key)) h

  pub found-sticky : (key : List ℕ) (places : Places X) → IsAbsent key places.shelf → found key places ≡ finite.get places.sticky key
  found-sticky key places h = ap (λ o. option_or o (finite.get places.sticky key)) h

  pub some_of : (o : Option X) → IsSome o → (x : X) × (o ≡ Some x)
  some_of None there = absurd (cc)
  some_of (Some x) there = (x, refl)

  not_on_shelf_at : (places : Places X) → HasEachKeyOnce places → (key : List ℕ) (on_shelf : Option X) → lookup (bytes_eq key) places.shelf ≡ on_shelf → IsSome (finite.get places.sticky key) → on_shelf ≡ None
  not_on_shelf_at places once key None h there = refl
  not_on_shelf_at places once key (Some x) h there = absurd (let none : finite.get places.sticky key ≡ None = once.on_one_side key (ap is_some h) in cc)

  -- what is among the sticky items is not on the shelf
  pub not_on_shelf : (places : Places X) → HasEachKeyOnce places → (key : List ℕ) → IsSome (finite.get places.sticky key) → IsAbsent key places.shelf
  not_on_shelf places once key there = not_on_shelf_at places once key (lookup (bytes_eq key) places.shelf) refl there

  -- a new place on the side that is named, told by its parts
  pub placed-new : (sticky : Bool) (key : List ℕ) (x : X) (places new : Places X) → found key places ≡ None → new.shelf ≡ listed_at sticky key x places.shelf → new.sticky ≡ stuck_at sticky key x places.sticky
      → new.limit ≡ places.limit → new.share ≡ places.share → new ≡ placed sticky key x places
  placed-new true key x places new absent shelf sticky limit share = λ i. record { shelf = shelf i; sticky = sticky i; limit = limit i; share = share i }
  placed-new false key x places new absent shelf sticky limit share =
      let first = shelf ∙ sym (shelved-new key x places.shelf (absent_from_shelf key places absent)) in
      λ i. record { shelf = first i; sticky = sticky i; limit = limit i; share = share i }

  -- a place that moves to the other side
  pub placed-moved_sticky : (key : List ℕ) (x : X) (places new : Places X) → new.shelf ≡ others key places.shelf → new.sticky ≡ finite.insert places.sticky key x → new.limit ≡ places.limit → new.share ≡ places.share → new ≡ placed true key x places
  placed-moved_sticky key x places new shelf sticky limit share = λ i. record { shelf = shelf i; sticky = sticky i; limit = limit i; share = share i }

  pub placed-moved_listed : (key : List ℕ) (x : X) (places new : Places X) → IsAbsent key places.shelf → new.shelf ≡ (key, x) ∷ places.shelf → new.sticky ≡ finite.remove places.sticky key → new.limit ≡ places.limit → new.share ≡ places.share → new ≡ placed false key x places
  placed-moved_listed key x places new absent shelf sticky limit share =
      let first = shelf ∙ sym (shelved-new key x places.shelf absent) in
      λ i. record { shelf = first i; sticky = sticky i; limit = limit i; share = share i }

  -- each key has one place at most, after each change

  pub HasEachKeyOnce-brought_to_front : (key : List ℕ) (places : Places X) → HasEachKeyOnce places → HasEachKeyOnce (brought_to_front key places)
  HasEachKeyOnce-brought_to_front key places once =
      record { on_shelf = AreApart-to_front key places.shelf once.on_shelf; on_one_side = λ q there. once.on_one_side q (ap is_some (sym (lookup-to_front key q places.shelf)) ∙ there) }

  sticky_placed : (key : List ℕ) (x : X) (places : Places X) → HasEachKeyOnce places → (q : List ℕ) (b : Bool) → bytes_eq q key ≡ b → IsSome (lookup (bytes_eq q) (others key places.shelf)) → cond b (Some x) (finite.get places.sticky q) ≡ None
  sticky_placed key x places once q true e there = absurd (let none : IsAbsent q (others key places.shelf) = subst (λ k. IsAbsent k (others key places.shelf)) (sym (same_key q key e)) (lookup-others key places.shelf) in cc)
  sticky_placed key x places once q false e there = once.on_one_side q (ap is_some (sym (lookup-others_apart key q places.shelf e)) ∙ there)

  shelf_placed : (key : List ℕ) (x : X) (places : Places X) → HasEachKeyOnce places → (q : List ℕ) (b : Bool) → bytes_eq q key ≡ b → (shelf : List (List ℕ × X)) → (bytes_eq q key ≡ false → lookup (bytes_eq q) shelf ≡ lookup (bytes_eq q) places.shelf)
      → IsSome (lookup (bytes_eq q) shelf) → cond b None (finite.get places.sticky q) ≡ None
  shelf_placed key x places once q true e shelf same there = refl
  shelf_placed key x places once q false e shelf same there = once.on_one_side q (ap is_some (sym (same e)) ∙ there)

  pub HasEachKeyOnce-placed : (sticky : Bool) (key : List ℕ) (x : X) (places : Places X) → HasEachKeyOnce places → HasEachKeyOnce (placed sticky key x places)
  HasEachKeyOnce-placed true key x places once =
      record {
        on_shelf = AreApart-others key places.shelf once.on_shelf;
        on_one_side = λ q there. get-insert places.sticky key x q ∙ sticky_placed key x places once q (bytes_eq q key) refl there;
      }
  HasEachKeyOnce-placed false key x places once =
      record {
        on_shelf = AreApart-shelved key x places.shelf once.on_shelf;
        on_one_side = λ q there. get-remove places.sticky key q ∙ shelf_placed key x places once q (bytes_eq q key) refl _ (lookup-shelved_apart key q x places.shelf) there;
      }

  without_at : (key : List ℕ) (places : Places X) → HasEachKeyOnce places → (q : List ℕ) (b : Bool) → bytes_eq q key ≡ b → IsSome (lookup (bytes_eq q) (others key places.shelf)) → cond b None (finite.get places.sticky q) ≡ None
  without_at key places once q true e there = refl
  without_at key places once q false e there = once.on_one_side q (ap is_some (sym (lookup-others_apart key q places.shelf e)) ∙ there)

  pub HasEachKeyOnce-without : (key : List ℕ) (places : Places X) → HasEachKeyOnce places → HasEachKeyOnce (without key places)
  HasEachKeyOnce-without key places once =
      record {
        on_shelf = AreApart-others key places.shelf once.on_shelf;
        on_one_side = λ q there. get-remove places.sticky key q ∙ without_at key places once q (bytes_eq q key) refl there;
      }

  sticky_refilled : (key : List ℕ) (x : X) (places : Places X) (y : X) → HasEachKeyOnce places → finite.get places.sticky key ≡ Some y → (q : List ℕ) (b : Bool) → bytes_eq q key ≡ b → IsSome (lookup (bytes_eq q) places.shelf)
      → cond b (Some x) (finite.get places.sticky q) ≡ None
  sticky_refilled key x places y once held q true e there = absurd (let none : finite.get places.sticky key ≡ None = ap (finite.get places.sticky) (sym (same_key q key e)) ∙ once.on_one_side q there in cc)
  sticky_refilled key x places y once held q false e there = once.on_one_side q there

  refilled_at : (key : List ℕ) (x : X) (places : Places X) (held : Option X) → finite.get places.sticky key ≡ held → HasEachKeyOnce places → (q : List ℕ) → IsSome (lookup (bytes_eq q) places.shelf)
      → finite.get (cond (is_some held) (finite.insert places.sticky key x) places.sticky) q ≡ None
  refilled_at key x places None h once q there = once.on_one_side q there
  refilled_at key x places (Some y) h once q there = get-insert places.sticky key x q ∙ sticky_refilled key x places y once h q (bytes_eq q key) refl there

  pub HasEachKeyOnce-refilled : (key : List ℕ) (x : X) (places : Places X) → HasEachKeyOnce places → HasEachKeyOnce (refilled key x places)
  HasEachKeyOnce-refilled key x places once =
      record {
        on_shelf = AreApart-set_value key x places.shelf once.on_shelf;
        on_one_side = λ q there. refilled_at key x places (finite.get places.sticky key) refl once q (sym (is_some-set_value key q x places.shelf) ∙ there);
      }

  pub HasEachKeyOnce-evicted : (key : List ℕ) (n : ℕ) (places : Places X) → HasEachKeyOnce places → HasEachKeyOnce (evicted key n places)
  HasEachKeyOnce-evicted key n places once =
      record { on_shelf = AreApart-survivors key n places.shelf once.on_shelf; on_one_side = λ q there. once.on_one_side q (is_some-survivors key n q places.shelf there) }

module _ {X : Type 0} (weigh : List ℕ → X → ℕ) where
  pub total-brought_to_front : (key : List ℕ) (places : Places X) → HasEachKeyOnce places → total_of weigh (brought_to_front key places) ≡ total_of weigh places
  total-brought_to_front key places once = ap (λ n. n + weight_of weigh (finite.entries places.sticky)) (weight-to_front weigh key places.shelf once.on_shelf)

  -- an item that is put under a key adds its weight, less that of what stood there
  placed_by : (sticky : Bool) (key : List ℕ) (x : X) (places : Places X) (on_shelf in_sticky : Option X) → lookup (bytes_eq key) places.shelf ≡ on_shelf → finite.get places.sticky key ≡ in_sticky → (IsSome on_shelf → in_sticky ≡ None)
      → HasEachKeyOnce places → total_of weigh (placed sticky key x places) + weight_under weigh key (option_or on_shelf in_sticky) ≡ total_of weigh places + weigh key x
  placed_by true key x places None None a b one once =
      omega (arith, weight-insert_new weigh places.sticky key x b, ap (weight_of weigh) (others-absent key places.shelf a))
  placed_by true key x places None (Some old) a b one once =
      omega (arith, weight-insert weigh places.sticky key old x b, ap (weight_of weigh) (others-absent key places.shelf a))
  placed_by true key x places (Some old) None a b one once =
      let gone : weight_of weigh (others key places.shelf) + weigh key old ≡ weight_of weigh places.shelf = subst (λ o. weight_of weigh (others key places.shelf) + weight_under weigh key o ≡ weight_of weigh places.shelf) a (weight-others weigh key places.shelf once.on_shelf) in
      omega (arith, gone, weight-insert_new weigh places.sticky key x b)
  placed_by true key x places (Some old) (Some other) a b one once = absurd (let none : ◌≡◌ {A = Option X} (Some other) None = one refl in cc)
  placed_by false key x places None None a b one once =
      let new : weight_of weigh (shelved key x places.shelf) + 0 ≡ weight_of weigh places.shelf + weigh key x = subst (λ o. weight_of weigh (shelved key x places.shelf) + weight_under weigh key o ≡ weight_of weigh places.shelf + weigh key x) a (weight-shelved weigh key x places.shelf) in
      omega (arith, new, ap (λ m. weight_of weigh (finite.entries m)) (remove-absent places.sticky key b))
  placed_by false key x places None (Some old) a b one once =
      let new : weight_of weigh (shelved key x places.shelf) + 0 ≡ weight_of weigh places.shelf + weigh key x = subst (λ o. weight_of weigh (shelved key x places.shelf) + weight_under weigh key o ≡ weight_of weigh places.shelf + weigh key x) a (weight-shelved weigh key x places.shelf) in
      omega (arith, new, weight-remove weigh places.sticky key old b)
  placed_by false key x places (Some old) None a b one once =
      let new : weight_of weigh (shelved key x places.shelf) + weigh key old ≡ weight_of weigh places.shelf + weigh key x = subst (λ o. weight_of weigh (shelved key x places.shelf) + weight_under weigh key o ≡ weight_of weigh places.shelf + weigh key x) a (weight-shelved weigh key x places.shelf) in
      omega (arith, new, ap (λ m. weight_of weigh (finite.entries m)) (remove-absent places.sticky key b))
  placed_by false key x places (Some old) (Some other) a b one once = absurd (let none : ◌≡◌ {A = Option X} (Some other) None = one refl in cc)

  pub total-placed : (sticky : Bool) (key : List ℕ) (x : X) (places : Places X) → HasEachKeyOnce places → total_of weigh (placed sticky key x places) + weight_under weigh key (found key places) ≡ total_of weigh places + weigh key x
  total-placed sticky key x places once = placed_by sticky key x places (lookup (bytes_eq key) places.shelf) (finite.get places.sticky key) refl refl (once.on_one_side key) once

  -- without a key's place the total is lower by what stood there
  without_by : (key : List ℕ) (places : Places X) (on_shelf in_sticky : Option X) → lookup (bytes_eq key) places.shelf ≡ on_shelf → finite.get places.sticky key ≡ in_sticky → (IsSome on_shelf → in_sticky ≡ None)
      → HasEachKeyOnce places → total_of weigh (without key places) + weight_under weigh key (option_or on_shelf in_sticky) ≡ total_of weigh places
  without_by key places None None a b one once =
      omega (arith, ap (weight_of weigh) (others-absent key places.shelf a), ap (λ m. weight_of weigh (finite.entries m)) (remove-absent places.sticky key b))
  without_by key places None (Some old) a b one once =
      omega (arith, ap (weight_of weigh) (others-absent key places.shelf a), weight-remove weigh places.sticky key old b)
  without_by key places (Some old) None a b one once =
      let gone : weight_of weigh (others key places.shelf) + weigh key old ≡ weight_of weigh places.shelf = subst (λ o. weight_of weigh (others key places.shelf) + weight_under weigh key o ≡ weight_of weigh places.shelf) a (weight-others weigh key places.shelf once.on_shelf) in
      omega (arith, gone, ap (λ m. weight_of weigh (finite.entries m)) (remove-absent places.sticky key b))
  without_by key places (Some old) (Some other) a b one once = absurd (let none : ◌≡◌ {A = Option X} (Some other) None = one refl in cc)

  pub total-without : (key : List ℕ) (places : Places X) → HasEachKeyOnce places → total_of weigh (without key places) + weight_under weigh key (found key places) ≡ total_of weigh places
  total-without key places once = without_by key places (lookup (bytes_eq key) places.shelf) (finite.get places.sticky key) refl refl (once.on_one_side key) once

  -- an item that takes the place of another adds its weight, less that of the other
  refilled_by : (key : List ℕ) (old x : X) (places : Places X) (on_shelf in_sticky : Option X) → lookup (bytes_eq key) places.shelf ≡ on_shelf → finite.get places.sticky key ≡ in_sticky → (IsSome on_shelf → in_sticky ≡ None) → option_or on_shelf in_sticky ≡ Some old
      → weight_of weigh (set_value (bytes_eq key) places.shelf x) + weight_of weigh (finite.entries (cond (is_some in_sticky) (finite.insert places.sticky key x) places.sticky)) + weigh key old ≡ total_of weigh places + weigh key x
  refilled_by key old x places None None a b one is = absurd (cc)
  refilled_by key old x places None (Some other) a b one is =
      omega (arith, weight-insert weigh places.sticky key old x (b ∙ is), ap (weight_of weigh) (set_value-absent (bytes_eq key) places.shelf x a))
  refilled_by key old x places (Some other) None a b one is = omega (arith, weight-set_value weigh key old x places.shelf (a ∙ is))
  refilled_by key old x places (Some other) (Some another) a b one is = absurd (let none : ◌≡◌ {A = Option X} (Some another) None = one refl in cc)

  pub total-refilled : (key : List ℕ) (old x : X) (places : Places X) → HasEachKeyOnce places → found key places ≡ Some old → total_of weigh (refilled key x places) + weigh key old ≡ total_of weigh places + weigh key x
  total-refilled key old x places once held = refilled_by key old x places (lookup (bytes_eq key) places.shelf) (finite.get places.sticky key) refl refl (once.on_one_side key) held
