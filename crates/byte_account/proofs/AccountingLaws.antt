-- What each change of the places does to the accounting.
use Rattle.std.proofs.Common.{◌≡◌, ℕ, ◌+◌, ◌-◌, ◌≤◌, Bool, true, false, cond, List, [], ◌∷◌, Option, Some, None, is_some, bytes_eq, refl, sym, ap, ◌∙◌, subst, arith}
use Rattle.std.specs.Option.{option_flatten}
use Rattle.std.specs.Map.{lookup}
use Rattle.std.specs.Ordering.{nat_cmp}
use Rattle.std.specs.Cmp.Lexicographic.{slice_cmp}
use Rattle.std.specs.FinMap as finite
use Rattle.std.proofs.lemmas.List.{nil_from_length}
use Rattle.arc_core.specs.Places.{Places, HasEachKeyOnce, empty_places, found, others, brought_to_front, placed, refilled, without, weight_of, total_of}
use Rattle.arc_core.specs.Room.{evicted, survivors}
use Rattle.byte_account.specs.Accounting.{IsAccounted}
use Rattle.byte_account.specs.ShelfWords.{listed_at, stuck_at}
use Rattle.byte_account.specs.Weight.{place_weight, weight_under}
use Rattle.byte_account.proofs.ShelfLists.{IsDistinct-nil, set_value-absent}
use Rattle.byte_account.proofs.PlacesLaws.{absent_from_shelf, absent_from_sticky, found-shelf, found-sticky, not_on_shelf, placed-new, placed-moved_sticky, placed-moved_listed, HasEachKeyOnce-brought_to_front, HasEachKeyOnce-placed, HasEachKeyOnce-refilled, HasEachKeyOnce-without, HasEachKeyOnce-evicted, total-brought_to_front, total-placed, total-refilled, total-without}

module _ {X : Type 0} where
  -- where the key has no place, there is none to refill
  pub refilled-absent : (key : List ℕ) (x : X) (places : Places X) → found key places ≡ None → refilled key x places ≡ places
  refilled-absent key x places absent =
      let on_shelf = set_value-absent (bytes_eq key) places.shelf x (absent_from_shelf key places absent) in
      let in_sticky : cond (finite.contains_key places.sticky key) (finite.insert places.sticky key x) places.sticky ≡ places.sticky =
      ap (λ o. cond (is_some o) (finite.insert places.sticky key x) places.sticky) (absent_from_sticky key places absent) in
      λ i. record { shelf = on_shelf i; sticky = in_sticky i; limit = places.limit; share = places.share }

  same_limit : (sticky : Bool) (key : List ℕ) (x : X) (places : Places X) → (placed sticky key x places).limit ≡ places.limit
  same_limit true key x places = refl
  same_limit false key x places = refl

module _ {X : Type 0} (weigh : List ℕ → X → ℕ) where
  entries-empty : finite.entries (finite.empty {X = X} {R = slice_cmp nat_cmp}) ≡ []
  entries-empty = nil_from_length (finite.entries (finite.empty {X = X} {R = slice_cmp nat_cmp})) (sym (finite.len-entries finite.empty) ∙ finite.len-empty (slice_cmp nat_cmp) X)

  pub weight-empty : weight_of weigh (finite.entries (finite.empty {X = X} {R = slice_cmp nat_cmp})) ≡ 0
  weight-empty = ap (weight_of weigh) entries-empty

  pub HasEachKeyOnce-empty : (limit share : ℕ) → HasEachKeyOnce {X = X} (empty_places limit share)
  HasEachKeyOnce-empty limit share = record { on_shelf = IsDistinct-nil bytes_eq; on_one_side = λ key there. absurd (cc) }

  pub IsAccounted-empty : (limit share : ℕ) → IsAccounted weigh (empty_places limit share) 0
  IsAccounted-empty limit share =
      let none : weight_of weigh (finite.entries (finite.empty {X = X} {R = slice_cmp nat_cmp})) ≡ 0 = weight-empty in
      let sum : 0 ≡ total_of weigh (empty_places limit share) = omega arith in
      record { sum = sum; within = omega arith; once = HasEachKeyOnce-empty limit share }

  module _ (places new : Places X) (total : ℕ) (accounted : IsAccounted weigh places total) (once : HasEachKeyOnce new) (same_limit : new.limit ≡ places.limit) where
    -- the total stays
    pub IsAccounted-same : total_of weigh new ≡ total_of weigh places → IsAccounted weigh new total
    IsAccounted-same sum = record { sum = accounted.sum ∙ sym sum; within = (let was : total ≤ places.limit = accounted.within in omega arith); once = once }

    -- the total falls by what is freed
    pub freed-le : (freed : ℕ) → total_of weigh new + freed ≡ total_of weigh places → freed ≤ total
    freed-le freed sum = let was : total ≡ total_of weigh places = accounted.sum in omega arith

    pub IsAccounted-less : (freed : ℕ) → total_of weigh new + freed ≡ total_of weigh places → IsAccounted weigh new (total - freed)
    IsAccounted-less freed sum =
        let was : total ≡ total_of weigh places = accounted.sum in
        let below : total ≤ places.limit = accounted.within in
        record { sum = omega arith; within = omega arith; once = once }

    -- the total rises, where there is room
    pub IsAccounted-more : (more : ℕ) → total_of weigh new ≡ total_of weigh places + more → total_of weigh places + more ≤ places.limit → IsAccounted weigh new (total + more)
    IsAccounted-more more sum room =
        let was : total ≡ total_of weigh places = accounted.sum in
        record { sum = omega arith; within = omega arith; once = once }

  pub IsAccounted-brought_to_front : (key : List ℕ) (places : Places X) (total : ℕ) → IsAccounted weigh places total → IsAccounted weigh (brought_to_front key places) total
  IsAccounted-brought_to_front key places total accounted =
      IsAccounted-same places (brought_to_front key places) total accounted (HasEachKeyOnce-brought_to_front key places accounted.once) refl (total-brought_to_front weigh key places accounted.once)

  -- a new place that weighs nothing
  pub IsAccounted-reserved : (sticky : Bool) (key : List ℕ) (x : X) (places : Places X) (total : ℕ) → IsAccounted weigh places total → found key places ≡ None → weigh key x ≡ 0 → IsAccounted weigh (placed sticky key x places) total
  IsAccounted-reserved sticky key x places total accounted absent none =
      let sum = total-placed weigh sticky key x places accounted.once in
      let before : weight_under weigh key (found key places) ≡ 0 = ap (weight_under weigh key) absent in
      IsAccounted-same places (placed sticky key x places) total accounted (HasEachKeyOnce-placed sticky key x places accounted.once) (same_limit sticky key x places) (omega (arith, sum))

  -- a place that changes sides
  pub IsAccounted-restuck : (sticky : Bool) (key : List ℕ) (x : X) (places : Places X) (total : ℕ) → IsAccounted weigh places total → found key places ≡ Some x → IsAccounted weigh (placed sticky key x places) total
  IsAccounted-restuck sticky key x places total accounted held =
      let sum = total-placed weigh sticky key x places accounted.once in
      let before : weight_under weigh key (found key places) ≡ weigh key x = ap (weight_under weigh key) held in
      IsAccounted-same places (placed sticky key x places) total accounted (HasEachKeyOnce-placed sticky key x places accounted.once) (same_limit sticky key x places) (omega (arith, sum))

  pub IsAccounted-evicted : (key : List ℕ) (n : ℕ) (places : Places X) (total freed : ℕ) → IsAccounted weigh places total → weight_of weigh (survivors key n places.shelf) + freed ≡ weight_of weigh places.shelf → IsAccounted weigh (evicted key n places) (total - freed)
  IsAccounted-evicted key n places total freed accounted sum =
      IsAccounted-less places (evicted key n places) total accounted (HasEachKeyOnce-evicted key n places accounted.once) refl freed (omega arith)

  pub IsAccounted-without : (key : List ℕ) (places : Places X) (total freed : ℕ) → IsAccounted weigh places total → weight_under weigh key (found key places) ≡ freed → IsAccounted weigh (without key places) (total - freed)
  IsAccounted-without key places total freed accounted is =
      IsAccounted-less places (without key places) total accounted (HasEachKeyOnce-without key places accounted.once) refl freed (ap (λ n. total_of weigh (without key places) + n) (sym is) ∙ total-without weigh key places accounted.once)

  -- a place that weighs nothing goes
  pub IsAccounted-without_none : (key : List ℕ) (places : Places X) (total : ℕ) → IsAccounted weigh places total → weight_under weigh key (found key places) ≡ 0 → IsAccounted weigh (without key places) total
  IsAccounted-without_none key places total accounted is =
      let sum = total-without weigh key places accounted.once in
      IsAccounted-same places (without key places) total accounted (HasEachKeyOnce-without key places accounted.once) refl (omega (arith, sum))

  hollowed_at : (key : List ℕ) (x : X) (places : Places X) (held : Option X) → found key places ≡ held → weigh key x ≡ 0 → HasEachKeyOnce places → total_of weigh (refilled key x places) + weight_under weigh key held ≡ total_of weigh places
  hollowed_at key x places None h none once = omega (arith, ap (total_of weigh) (refilled-absent key x places h))
  hollowed_at key x places (Some old) h none once = omega (arith, total-refilled weigh key old x places once h)

  -- what weighs nothing takes the place of what stood there
  pub total-hollowed : (key : List ℕ) (x : X) (places : Places X) → weigh key x ≡ 0 → HasEachKeyOnce places → total_of weigh (refilled key x places) + weight_under weigh key (found key places) ≡ total_of weigh places
  total-hollowed key x places none once = hollowed_at key x places (found key places) refl none once

  pub IsAccounted-hollowed : (key : List ℕ) (x : X) (places : Places X) (total freed : ℕ) → IsAccounted weigh places total → weigh key x ≡ 0 → weight_under weigh key (found key places) ≡ freed → IsAccounted weigh (refilled key x places) (total - freed)
  IsAccounted-hollowed key x places total freed accounted none is =
      IsAccounted-less places (refilled key x places) total accounted (HasEachKeyOnce-refilled key x places accounted.once) refl freed (ap (λ n. total_of weigh (refilled key x places) + n) (sym is) ∙ total-hollowed key x places none accounted.once)

  pub IsAccounted-hollowed_none : (key : List ℕ) (x : X) (places : Places X) (total : ℕ) → IsAccounted weigh places total → weigh key x ≡ 0 → weight_under weigh key (found key places) ≡ 0 → IsAccounted weigh (refilled key x places) total
  IsAccounted-hollowed_none key x places total accounted none is =
      let sum = total-hollowed key x places none accounted.once in
      IsAccounted-same places (refilled key x places) total accounted (HasEachKeyOnce-refilled key x places accounted.once) refl (omega (arith, sum))

  pub weight_under-le : (key : List ℕ) (places : Places X) (total freed : ℕ) → IsAccounted weigh places total → weight_under weigh key (found key places) ≡ freed → freed ≤ total
  weight_under-le key places total freed accounted is = let was : total ≡ total_of weigh places = accounted.sum in omega (arith, total-without weigh key places accounted.once)

  -- what is laid into a place that weighs nothing
  pub IsAccounted-laid : (key : List ℕ) (old x : X) (places : Places X) (total : ℕ) → IsAccounted weigh places total → found key places ≡ Some old → weigh key old ≡ 0 → total_of weigh places + weigh key x ≤ places.limit
      → IsAccounted weigh (refilled key x places) (total + weigh key x)
  IsAccounted-laid key old x places total accounted held none room =
      let sum = total-refilled weigh key old x places accounted.once held in
      IsAccounted-more places (refilled key x places) total accounted (HasEachKeyOnce-refilled key x places accounted.once) refl (weigh key x) (omega (arith, sum)) room

module _ {X : Type 0} (weigh : List ℕ → X → ℕ) (key : List ℕ) (x : X) (places new : Places X) (total : ℕ) where
  -- the new places, told by their parts
  pub IsAccounted-new : (sticky : Bool) → IsAccounted weigh places total → found key places ≡ None → weigh key x ≡ 0 → new.shelf ≡ listed_at sticky key x places.shelf → new.sticky ≡ stuck_at sticky key x places.sticky
      → new.limit ≡ places.limit → new.share ≡ places.share → IsAccounted weigh new total
  IsAccounted-new sticky accounted absent none shelf table limit share =
      subst (λ p. IsAccounted weigh p total) (sym (placed-new sticky key x places new absent shelf table limit share)) (IsAccounted-reserved weigh sticky key x places total accounted absent none)

  pub IsAccounted-moved_sticky : IsAccounted weigh places total → lookup (bytes_eq key) places.shelf ≡ Some x → new.shelf ≡ others key places.shelf → new.sticky ≡ finite.insert places.sticky key x → new.limit ≡ places.limit → new.share ≡ places.share → IsAccounted weigh new total
  IsAccounted-moved_sticky accounted held shelf sticky limit share =
      subst (λ p. IsAccounted weigh p total) (sym (placed-moved_sticky key x places new shelf sticky limit share)) (IsAccounted-restuck weigh true key x places total accounted (found-shelf key places x held))

  pub IsAccounted-moved_listed : IsAccounted weigh places total → finite.get places.sticky key ≡ Some x → new.shelf ≡ (key, x) ∷ places.shelf → new.sticky ≡ finite.remove places.sticky key → new.limit ≡ places.limit → new.share ≡ places.share → IsAccounted weigh new total
  IsAccounted-moved_listed accounted held shelf sticky limit share =
      let absent = not_on_shelf places accounted.once key (ap is_some held) in
      subst (λ p. IsAccounted weigh p total) (sym (placed-moved_listed key x places new absent shelf sticky limit share)) (IsAccounted-restuck weigh false key x places total accounted (found-sticky key places absent ∙ held))

-- a place's weight by its item
pub weight_of_item : {T : Type 0} (weigh : List ℕ → T → ℕ) (key : List ℕ) (place : Option (Option T)) (item : T) → Some item ≡ option_flatten place → weight_under (place_weight weigh) key place ≡ weigh key item
weight_of_item weigh key None item h = absurd (cc)
weight_of_item weigh key (Some None) item h = absurd (cc)
weight_of_item weigh key (Some (Some other)) item h = ap (place_weight weigh key) (sym h)

pub weight_of_none : {T : Type 0} (weigh : List ℕ → T → ℕ) (key : List ℕ) (place : Option (Option T)) → None ≡ option_flatten place → weight_under (place_weight weigh) key place ≡ 0
weight_of_none weigh key None h = refl
weight_of_none weigh key (Some None) h = refl
weight_of_none weigh key (Some (Some item)) h = absurd (cc)
