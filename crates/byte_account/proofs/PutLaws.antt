-- What putting an item does to the places and the totals.
use Rattle.std.proofs.Common.{◌≡◌, ℕ, suc, ◌+◌, ◌-◌, ◌≤◌, Bool, true, false, cond, not, List, ◌∷◌, length, take, drop, Option, Some, None, IsSome, is_some, option_map, bytes_eq, ℤ, pos, negsuc, ◌-ℤ◌, refl, sym, ap, ◌∙◌, subst, arith}
use Rattle.std.proofs.lemmas.Bool.{leb-true}
use Rattle.std.proofs.lemmas.Int.{ints}
use Rattle.std.proofs.lemmas.List.{take-append-drop, length-drop}
use Rattle.std.proofs.lemmas.List.Sums.{sum_by-take-drop}
use Rattle.std.specs.Bool.{beq}
use Rattle.std.specs.Map.{lookup}
use Rattle.std.specs.Ordering.{nat_cmp}
use Rattle.std.specs.Cmp.Lexicographic.{slice_cmp}
use Rattle.std.specs.FinMap.{FinMap}
use Rattle.std.specs.FinMap as finite
use Rattle.arc_core.specs.Places.{Places, HasEachKeyOnce, found, others, placed, refilled, weight_of, total_of, sticky_total_of}
use Rattle.arc_core.specs.Room.{fits, room, survivors, evicted}
use Rattle.byte_account.specs.declared.room.Room.TheVariants.{Fits}
use Rattle.byte_account.specs.Accounting.{IsAccounted, IsWithinShare}
use Rattle.byte_account.specs.LeastEviction.{last_of, IsLeastEviction}
use Rattle.byte_account.specs.Putting.{sticky_weight_at, added, sticky_added, room_for, IsPut}
use Rattle.byte_account.specs.ShelfWords.{added_by, room_answer, weight_at, IsHeld, on_side, listed_at, stuck_at}
use Rattle.byte_account.specs.declared.shelf.Held.{Held}
use Rattle.byte_account.specs.Weight.{weight_under}
use Rattle.byte_account.proofs.ShelfLists.{IsAbsent, IsAbsent-back, others-absent, lookup-others, weight-cons, weight-others, shelved-new}
use Rattle.byte_account.proofs.EvictionLemmas.{IsAbsent-survivors, survivors-front, AreApart-survivors}
use Rattle.byte_account.proofs.PlacesLaws.{absent_from_shelf, absent_from_sticky, total-placed, total-without, some_of, not_on_shelf, HasEachKeyOnce-placed, HasEachKeyOnce-evicted}
use Rattle.byte_account.proofs.ShareLaws.{sticky_total-placed, sticky_total-listed, sticky_total-without, sticky_under-is}
use Rattle.byte_account.proofs.FoundLaws.{found-evicted, lookup-survivors}
use Rattle.byte_account.proofs.RoomLaws.{least_answer, last_of-cons}
use Rattle.byte_account.proofs.EvictionLaws.{evicted_makes_room}
use Rattle.byte_account.proofs.StoreLaws.{placed-held}
use Rattle.byte_account.proofs.MovedLaws.{on_side-evicted, others-survivors}

-- what fits is within the limit
pub fits_within : (limit total size less : ℕ) (extra : ℤ) → extra ≡ pos size -ℤ pos less → fits limit total extra 0 ≡ true → total + size ≤ limit + less
fits_within limit total size less (pos more) is kept = let up = leb-true (total + more) (limit + 0) kept in omega (arith, ints, up)
fits_within limit total size less (negsuc fewer) is kept = let up = leb-true total (limit + 0 + suc fewer) kept in omega (arith, ints, up)

counted : {A : Type 0} (n : ℕ) (suffix : Option (List A)) → Some n ≡ option_map length suffix → (gone : List A) × (suffix ≡ Some gone) × (length gone ≡ n)
counted n None h = absurd (cc)
counted n (Some gone) h = (gone, refl, (let same : n ≡ length gone = cc in sym same))

pub none_counted : {A : Type 0} (suffix : Option (List A)) → None ≡ option_map (length {A = A}) suffix → suffix ≡ None
none_counted None h = refl
none_counted (Some gone) h = absurd (cc)

rise_by : (new old : ℕ) (extra : ℤ) → extra ≡ pos new -ℤ pos old → new - old ≡ added_by extra
rise_by new old (pos more) is = omega (arith, ints)
rise_by new old (negsuc less) is = omega (arith, ints)

-- what was asked of room is room for what is put
module _ {X : Type 0} (weigh : List ℕ → X → ℕ) (sticky : Bool) (key : List ℕ) (x : X) (places : Places X) (more sticky_more : ℕ) (answer : Option ℕ) where
  -- under a key that has no place
  pub new_room : (name : List ℕ) → name ≡ key → found key places ≡ None → more ≡ weigh name x → sticky_more ≡ cond sticky more 0
      → ((extra sticky_extra : ℤ) → more ≡ added_by extra → sticky_more ≡ added_by sticky_extra → answer ≡ option_map length (room weigh places name extra sticky_extra)) → answer ≡ option_map length (room_for weigh sticky key x places)
  new_room name same absent more_is sticky_more_is asked =
      let none : weight_at weigh key places ≡ 0 = ap (weight_under weigh key) absent in
      let sticky_none : sticky_weight_at weigh key places ≡ 0 = ap (weight_under weigh key) (absent_from_sticky key places absent) in
      let weight : more ≡ weigh key x = more_is ∙ ap (λ k. weigh k x) same in
      asked (added weigh sticky key x places) (sticky_added weigh sticky key x places)
      (omega (arith, rise_by (weigh key x) (weight_at weigh key places) _ refl))
      (sticky_more_is ∙ ap (λ n. cond sticky n 0) weight ∙ (let up = rise_by (cond sticky (weigh key x) 0) (sticky_weight_at weigh key places) _ refl in omega arith))
      ∙ ap (λ k. option_map length (room weigh places k (added weigh sticky key x places) (sticky_added weigh sticky key x places))) same

  -- under a key that has one
  pub held_room : (held sticky_held weight sticky_weight : ℕ) → held ≡ weight_at weigh key places → sticky_held ≡ sticky_weight_at weigh key places → weight ≡ weigh key x → sticky_weight ≡ cond sticky weight 0
      → more ≡ weight - held → sticky_more ≡ sticky_weight - sticky_held
      → ((extra sticky_extra : ℤ) → more ≡ added_by extra → sticky_more ≡ added_by sticky_extra → answer ≡ option_map length (room weigh places key extra sticky_extra)) → answer ≡ option_map length (room_for weigh sticky key x places)
  held_room held sticky_held weight sticky_weight held_is sticky_held_is weight_is sticky_weight_is more_is sticky_more_is asked =
      asked (added weigh sticky key x places) (sticky_added weigh sticky key x places)
      (more_is ∙ (λ i. weight_is i - held_is i) ∙ rise_by (weigh key x) (weight_at weigh key places) _ refl)
      (sticky_more_is ∙ (λ i. (sticky_weight_is ∙ ap (λ n. cond sticky n 0) weight_is) i - sticky_held_is i) ∙ rise_by (cond sticky (weigh key x) 0) (sticky_weight_at weigh key places) _ refl)

pub off_absent : {X : Type 0} (sticky : Bool) (key : List ℕ) (places : Places X) → found key places ≡ None → on_side sticky key places ≡ None
off_absent true key places absent = absent_from_sticky key places absent
off_absent false key places absent = absent_from_shelf key places absent

module _ {X : Type 0} (weigh : List ℕ → X → ℕ) (sticky : Bool) (key : List ℕ) (x : X) (places : Places X) (n : ℕ) (room : Some n ≡ option_map length (room_for weigh sticky key x places)) (once : HasEachKeyOnce places) where
  gone : (gone : List (List ℕ × X)) × (room_for weigh sticky key x places ≡ Some gone) × (length gone ≡ n)
  gone = counted n (room_for weigh sticky key x places) room

  pub is_put : (new : Places X) → new ≡ placed sticky key x (evicted key n places) → IsPut weigh sticky key x places new
  is_put new e = record { gone = gone.0; fits = gone.1; places = e ∙ ap (λ k. placed sticky key x (evicted key k places)) (sym gone.2) }

  least : IsLeastEviction weigh places key (added weigh sticky key x places) (sticky_added weigh sticky key x places) (Fits n)
  least =
      least_answer weigh places key (added weigh sticky key x places) (sticky_added weigh sticky key x places) (Fits n)
      (ap Fits (sym gone.2) ∙ ap room_answer (sym gone.1))

  pub put_count : n ≤ length (others key places.shelf)
  put_count = least.count

  abbrev after : Places X
  after = placed sticky key x (evicted key n places)

  -- the sums

  pub total_put : total_of weigh after + weight_at weigh key places ≡ total_of weigh (evicted key n places) + weigh key x
  total_put =
      let same : weight_at weigh key (evicted key n places) ≡ weight_at weigh key places = ap (weight_under weigh key) (found-evicted key n places) in
      omega (arith, same, total-placed weigh sticky key x (evicted key n places) (HasEachKeyOnce-evicted key n places once))

  pub put_within : total_of weigh (evicted key n places) + weigh key x ≤ places.limit + weight_at weigh key places
  put_within = fits_within places.limit (total_of weigh (evicted key n places)) (weigh key x) (weight_at weigh key places) (added weigh sticky key x places) refl (evicted_makes_room weigh key n places _ _ least)

  pub share_within : sticky_total_of weigh places + cond sticky (weigh key x) 0 ≤ places.share + sticky_weight_at weigh key places
  share_within = fits_within places.share (sticky_total_of weigh places) (cond sticky (weigh key x) 0) (sticky_weight_at weigh key places) (sticky_added weigh sticky key x places) refl least.share

  sticky_put_by : (b : Bool) → sticky_total_of weigh (placed b key x (evicted key n places)) + sticky_weight_at weigh key places ≡ sticky_total_of weigh places + cond b (weigh key x) 0
  sticky_put_by true = sticky_total-placed weigh key x (evicted key n places)
  sticky_put_by false = omega (arith, sticky_total-listed weigh key x (evicted key n places))

  pub sticky_total_put : sticky_total_of weigh after + sticky_weight_at weigh key places ≡ sticky_total_of weigh places + cond sticky (weigh key x) 0
  sticky_total_put = sticky_put_by sticky

  same_limit : (b : Bool) → (placed b key x (evicted key n places)).limit ≡ places.limit
  same_limit true = refl
  same_limit false = refl

  same_share : (b : Bool) → (placed b key x (evicted key n places)).share ≡ places.share
  same_share true = refl
  same_share false = refl

-- the item is put where the key has its place
put_there_is : {X : Type 0} (key : List ℕ) (x : X) (places : Places X) (sticky : Bool) (n : ℕ) → HasEachKeyOnce places → (old : X) (new : Places X) → on_side sticky key places ≡ Some old → new ≡ refilled key x (evicted key n places) → new ≡ placed sticky key x (evicted key n places)
put_there_is key x places sticky n once old new on e =
    e ∙ sym (placed-held key sticky old x (evicted key n places) (HasEachKeyOnce-evicted key n places once) (on_side-evicted key sticky n places ∙ on))

-- the key's place, as it was told

module _ {X : Type 0} (weigh : List ℕ → X → ℕ) (key : List ℕ) (places : Places X) (held : Held) (is : IsHeld weigh key places held) (once : HasEachKeyOnce places) where
  side_by : (b : Bool) → IsSome (on_side b key places) → finite.contains_key places.sticky key ≡ b
  side_by true there = there
  side_by false there = ap is_some (once.on_one_side key there)

  pub held_side : finite.contains_key places.sticky key ≡ held.sticky
  held_side = side_by held.sticky is.there

  -- what of it is sticky
  pub held_part : (part : ℕ) → part ≡ cond held.sticky held.weight 0 → part ≡ sticky_weight_at weigh key places
  held_part part part_is =
      part_is ∙ ap (λ b. cond b held.weight 0) (sym held_side) ∙ sym (sticky_under-is weigh key places held.weight once (sym is.weight))

  off_by : (b : Bool) → IsSome (on_side b key places) → on_side (not b) key places ≡ None
  off_by true there = not_on_shelf places once key there
  off_by false there = once.on_one_side key there

  pub held_off : on_side (not held.sticky) key places ≡ None
  held_off = off_by held.sticky is.there

  pub held_on : (x : X) × (on_side held.sticky key places ≡ Some x)
  held_on = some_of (on_side held.sticky key places) is.there

  listed_by : (b : Bool) → IsSome (on_side b key places) → is_some (lookup (bytes_eq key) places.shelf) ≡ not b
  listed_by true there = ap is_some (not_on_shelf places once key there)
  listed_by false there = there

  pub held_listed : is_some (lookup (bytes_eq key) places.shelf) ≡ not held.sticky
  held_listed = listed_by held.sticky is.there

-- the last places go where the key is none of them

module _ {X : Type 0} (weigh : List ℕ → X → ℕ) (key : List ℕ) where
  survivors-take : (n : ℕ) (shelf : List (List ℕ × X)) → IsAbsent key shelf → n ≤ length shelf → survivors key n shelf ≡ take (length shelf - n) shelf
  survivors-take n shelf absent few =
      let k = length shelf - n in
      let parts = take-append-drop k shelf in
      let count : length (drop k shelf) ≡ n = length-drop k shelf ∙ (let last : length shelf - k ≡ n = omega arith in last) in
      ap (survivors key n) (sym parts) ∙ survivors-front key n (take k shelf) (drop k shelf) (IsAbsent-back key (take k shelf) (drop k shelf) (subst (IsAbsent key) (sym parts) absent)) count

  take-later : (n k : ℕ) (place : List ℕ × X) (shelf : List (List ℕ × X)) → n ≡ suc k → take n (place ∷ shelf) ≡ place ∷ take k shelf
  take-later n k place shelf e = ap (λ m. take m (place ∷ shelf)) e

  pub last_of-le : (n : ℕ) (shelf : List (List ℕ × X)) → weight_of weigh (last_of n shelf) ≤ weight_of weigh shelf
  last_of-le n shelf = omega (arith, sum_by-take-drop (λ (p : List ℕ × X). weigh p.0 p.1) shelf (length shelf - n))

  listed_shelf : (sticky : Bool) (x : X) (n : ℕ) (places : Places X) → on_side sticky key places ≡ None → n ≤ length (others key places.shelf)
      → take (length (listed_at sticky key x places.shelf) - n) (listed_at sticky key x places.shelf) ≡ (placed sticky key x (evicted key n places)).shelf
  listed_shelf true x n places off few =
      sym (survivors-take n (others key places.shelf) (lookup-others key places.shelf) few) ∙ others-survivors key n places.shelf
  listed_shelf false x n places off few =
      let absent : IsAbsent key places.shelf = off in
      let short : n ≤ length places.shelf = subst (λ l. n ≤ length l) (others-absent key places.shelf absent) few in
      take-later (length ((key, x) ∷ places.shelf) - n) (length places.shelf - n) (key, x) places.shelf (omega arith)
      ∙ ap (λ l. (key, x) ∷ l) (sym (survivors-take n places.shelf absent short))
      ∙ sym (shelved-new key x (survivors key n places.shelf) (IsAbsent-survivors key n key places.shelf absent))

  same_parts : (sticky : Bool) (x : X) (places new : Places X) → new.shelf ≡ (placed sticky key x places).shelf → new.sticky ≡ stuck_at sticky key x places.sticky → new.limit ≡ places.limit → new.share ≡ places.share → new ≡ placed sticky key x places
  same_parts true x places new shelf table limit share = λ i. record { shelf = shelf i; sticky = table i; limit = limit i; share = share i }
  same_parts false x places new shelf table limit share = λ i. record { shelf = shelf i; sticky = table i; limit = limit i; share = share i }

  -- the item is put where the key has no place, told by its parts
  pub put_apart_is : (sticky : Bool) (x : X) (n : ℕ) (places new : Places X) (list : List (List ℕ × X)) → on_side sticky key places ≡ None → n ≤ length (others key places.shelf)
      → list ≡ listed_at sticky key x places.shelf → new.shelf ≡ take (length list - n) list → new.sticky ≡ stuck_at sticky key x places.sticky → new.limit ≡ places.limit → new.share ≡ places.share
      → new ≡ placed sticky key x (evicted key n places)
  put_apart_is sticky x n places new list off few made shelf table limit share =
      same_parts sticky x (evicted key n places) new (shelf ∙ ap (λ l. take (length l - n) l) made ∙ listed_shelf sticky x n places off few) table limit share

  apart_freed_by : (sticky : Bool) (x : X) (n : ℕ) (places : Places X) (freed : ℕ) → HasEachKeyOnce places → on_side sticky key places ≡ None
      → weight_of weigh (placed sticky key x (evicted key n places)).shelf + freed ≡ weight_of weigh (listed_at sticky key x places.shelf) → total_of weigh (evicted key n places) + freed ≡ total_of weigh places
  apart_freed_by true x n places freed once off sum =
      let kept = weight-others weigh key (survivors key n places.shelf) (AreApart-survivors key n places.shelf once.on_shelf) in
      let all = weight-others weigh key places.shelf once.on_shelf in
      let same : weight_under weigh key (lookup (bytes_eq key) (survivors key n places.shelf)) ≡ weight_under weigh key (lookup (bytes_eq key) places.shelf) = ap (weight_under weigh key) (lookup-survivors key n places.shelf) in
      omega (arith, kept, all, same, sum)
  apart_freed_by false x n places freed once off sum =
      let front : weight_of weigh (placed false key x (evicted key n places)).shelf ≡ weigh key x + weight_of weigh (survivors key n places.shelf) =
      ap (weight_of weigh) (shelved-new key x (survivors key n places.shelf) (IsAbsent-survivors key n key places.shelf off)) ∙ weight-cons weigh (key, x) (survivors key n places.shelf) in
      omega (arith, front, sum, weight-cons weigh (key, x) places.shelf)

  pub apart_freed : (sticky : Bool) (x : X) (n : ℕ) (places : Places X) (list new : List (List ℕ × X)) (freed : ℕ) → HasEachKeyOnce places → on_side sticky key places ≡ None → n ≤ length (others key places.shelf)
      → list ≡ listed_at sticky key x places.shelf → new ≡ take (length list - n) list → weight_of weigh new + freed ≡ weight_of weigh list → total_of weigh (evicted key n places) + freed ≡ total_of weigh places
  apart_freed sticky x n places list new freed once off few made taken sum =
      let is : new ≡ (placed sticky key x (evicted key n places)).shelf = taken ∙ ap (λ l. take (length l - n) l) made ∙ listed_shelf sticky x n places off few in
      apart_freed_by sticky x n places freed once off
      (sym (λ i. weight_of weigh (is i) + freed) ∙ sum ∙ ap (weight_of weigh) made)

  apart_small_by : (sticky : Bool) (x : X) (n : ℕ) (places : Places X) → HasEachKeyOnce places → on_side sticky key places ≡ None → n ≤ length (others key places.shelf) → weight_of weigh (last_of n (listed_at sticky key x places.shelf)) ≤ weight_of weigh places.shelf
  apart_small_by true x n places once off few = omega (arith, last_of-le n (others key places.shelf), weight-others weigh key places.shelf once.on_shelf)
  apart_small_by false x n places once off few =
      let short : n ≤ length places.shelf = subst (λ l. n ≤ length l) (others-absent key places.shelf off) few in
      omega (arith, ap (weight_of weigh) (last_of-cons n (key, x) places.shelf short), last_of-le n places.shelf)

  pub apart_small : (sticky : Bool) (x : X) (n total : ℕ) (places : Places X) (list : List (List ℕ × X)) → IsAccounted weigh places total → on_side sticky key places ≡ None → n ≤ length (others key places.shelf) → list ≡ listed_at sticky key x places.shelf
      → weight_of weigh (last_of n list) ≤ total
  apart_small sticky x n total places list accounted off few made =
      let sum : total ≡ total_of weigh places = accounted.sum in
      omega (arith, ap (λ l. weight_of weigh (last_of n l)) made, apart_small_by sticky x n places accounted.once off few)

-- What a put does to the running totals: `held` and `sticky_held` are what stood under the key, `more` and `sticky_more` what stands there now.
pub record PutSums {X : Type 0} (weigh : List ℕ → X → ℕ) (places : Places X) (total sticky_total freed held sticky_held more sticky_more : ℕ) : Type 0 where
  pub less : freed ≤ total
  pub held-le : held ≤ total - freed
  pub sticky_held-le : sticky_held ≤ sticky_total
  pub total-le : total - freed - held + more ≤ places.limit
  pub sticky_total-le : sticky_total - sticky_held + sticky_more ≤ places.share

module _ {X : Type 0} (weigh : List ℕ → X → ℕ) (sticky : Bool) (key : List ℕ) (x : X) (places now : Places X) (n total sticky_total : ℕ) (same : places ≡ now) (accounted : IsAccounted weigh places total) (shared : IsWithinShare weigh places sticky_total)
    (room : Some n ≡ option_map length (room_for weigh sticky key x now)) where
  roomy : Some n ≡ option_map length (room_for weigh sticky key x places)
  roomy = subst (λ p. Some n ≡ option_map length (room_for weigh sticky key x p)) (sym same) room

  pub put_few : n ≤ length (others key places.shelf)
  put_few = put_count weigh sticky key x places n roomy accounted.once

  module _ (freed held sticky_held more sticky_more : ℕ) (freed_is : total_of weigh (evicted key n places) + freed ≡ total_of weigh places) (held_is : held ≡ weight_at weigh key places) (sticky_held_is : sticky_held ≡ sticky_weight_at weigh key places)
      (more_is : more ≡ weigh key x) (sticky_more_is : sticky_more ≡ cond sticky more 0) where
    sticky_size : sticky_more ≡ cond sticky (weigh key x) 0
    sticky_size = sticky_more_is ∙ ap (λ m. cond sticky m 0) more_is

    pub put_sums : PutSums weigh places total sticky_total freed held sticky_held more sticky_more
    put_sums =
        let sum : total ≡ total_of weigh places = accounted.sum in
        let sticky_sum : sticky_total ≡ sticky_total_of weigh places = shared.sum in
        let kept : weight_at weigh key (evicted key n places) ≡ weight_at weigh key places = ap (weight_under weigh key) (found-evicted key n places) in
        let there : weight_at weigh key places ≤ total_of weigh (evicted key n places) = omega (arith, kept, total-without weigh key (evicted key n places) (HasEachKeyOnce-evicted key n places accounted.once)) in
        let sticky_there : sticky_weight_at weigh key places ≤ sticky_total_of weigh places = omega (arith, sticky_total-without weigh key places) in
        let within = put_within weigh sticky key x places n roomy accounted.once in
        let sticky_within = share_within weigh sticky key x places n roomy accounted.once in
        record {
          less = omega arith;
          held-le = omega arith;
          sticky_held-le = omega arith;
          total-le = omega (arith, within);
          sticky_total-le = omega (arith, sticky_within, sticky_size);
        }

    module _ (new : Places X) (new_is : new ≡ placed sticky key x (evicted key n places)) where
      pub put_is : new ≡ placed sticky key x (evicted key n now)
      put_is = new_is ∙ ap (λ p. placed sticky key x (evicted key n p)) same

      pub IsPut-now : IsPut weigh sticky key x now new
      IsPut-now = is_put weigh sticky key x now n room (subst (λ p. HasEachKeyOnce p) same accounted.once) new put_is

      pub IsAccounted-put : (total_now : ℕ) → total_now ≡ total - freed - held + more → IsAccounted weigh new total_now
      IsAccounted-put total_now is =
          let sums = put_sums in
          let sum : total ≡ total_of weigh places = accounted.sum in
          let put = total_put weigh sticky key x places n roomy accounted.once in
          let limit = same_limit weigh sticky key x places n roomy accounted.once sticky in
          subst (λ p. IsAccounted weigh p total_now) (sym new_is) (record {
            sum = omega (arith, put, sums.less, sums.held-le);
            within = omega (arith, sums.total-le, limit);
            once = HasEachKeyOnce-placed sticky key x (evicted key n places) (HasEachKeyOnce-evicted key n places accounted.once);
          })

      pub IsWithinShare-put : (sticky_now : ℕ) → sticky_now ≡ sticky_total - sticky_held + sticky_more → IsWithinShare weigh new sticky_now
      IsWithinShare-put sticky_now is =
          let sums = put_sums in
          let sum : sticky_total ≡ sticky_total_of weigh places = shared.sum in
          let put = sticky_total_put weigh sticky key x places n roomy accounted.once in
          let share = same_share weigh sticky key x places n roomy accounted.once sticky in
          subst (λ p. IsWithinShare weigh p sticky_now) (sym new_is) (record { sum = omega (arith, put, sums.sticky_held-le, sticky_size); within = omega (arith, sums.sticky_total-le, share) })

-- Under a key that has no place.
module _ {X : Type 0} (weigh : List ℕ → X → ℕ) (sticky : Bool) (key name copy : List ℕ) (x : X) (places now : Places X) (n total sticky_total weight part : ℕ) (list : List (List ℕ × X)) (table : FinMap (slice_cmp nat_cmp) X) (same : places ≡ now)
    (accounted : IsAccounted weigh places total) (shared : IsWithinShare weigh places sticky_total) (absent : found key now ≡ None) (same_name : name ≡ key) (same_copy : copy ≡ name) (weight_is : weight ≡ weigh name x) (part_is : part ≡ cond sticky weight 0)
    (asked : (extra sticky_extra : ℤ) → weight ≡ added_by extra → part ≡ added_by sticky_extra → Some n ≡ option_map length (room weigh now name extra sticky_extra))
    (made : list ≡ listed_at sticky copy x places.shelf) (stuck : table ≡ stuck_at sticky copy x places.sticky) where
  new_roomy : Some n ≡ option_map length (room_for weigh sticky key x now)
  new_roomy = new_room weigh sticky key x now weight part (Some n) name same_name absent weight_is part_is asked

  absent_here : found key places ≡ None
  absent_here = subst (λ p. found key p ≡ None) (sym same) absent

  new_off : on_side sticky key places ≡ None
  new_off = off_absent sticky key places absent_here

  new_few : n ≤ length (others key places.shelf)
  new_few = put_few weigh sticky key x places now n total sticky_total same accounted shared new_roomy

  list_is : list ≡ listed_at sticky key x places.shelf
  list_is = made ∙ ap (λ k. listed_at sticky k x places.shelf) (same_copy ∙ same_name)

  pub new_small : weight_of weigh (last_of n list) ≤ total
  new_small = apart_small weigh key sticky x n total places list accounted new_off new_few list_is

  module _ (left : List (List ℕ × X)) (freed : ℕ) (taken : left ≡ take (length list - n) list) (freed_is : weight_of weigh left + freed ≡ weight_of weigh list) where
    freed_total : total_of weigh (evicted key n places) + freed ≡ total_of weigh places
    freed_total = apart_freed weigh key sticky x n places list left freed accounted.once new_off new_few list_is taken freed_is

    none : 0 ≡ weight_at weigh key places
    none = sym (ap (weight_under weigh key) absent_here)

    sticky_none : 0 ≡ sticky_weight_at weigh key places
    sticky_none = sym (ap (weight_under weigh key) (absent_from_sticky key places absent_here))

    more_is : weight ≡ weigh key x
    more_is = weight_is ∙ ap (λ k. weigh k x) same_name

    pub new_sums : PutSums weigh places total sticky_total freed 0 0 weight part
    new_sums = put_sums weigh sticky key x places now n total sticky_total same accounted shared new_roomy freed 0 0 weight part freed_total none sticky_none more_is part_is

    module _ (new : Places X) (shelf : new.shelf ≡ left) (sides : new.sticky ≡ table) (limit : new.limit ≡ places.limit) (share : new.share ≡ places.share) where
      new_is : new ≡ placed sticky key x (evicted key n places)
      new_is =
          put_apart_is weigh key sticky x n places new list new_off new_few list_is (shelf ∙ taken) (sides ∙ stuck ∙ ap (λ k. stuck_at sticky k x places.sticky) (same_copy ∙ same_name)) limit share

      pub IsPut-new : IsPut weigh sticky key x now new
      IsPut-new = IsPut-now weigh sticky key x places now n total sticky_total same accounted shared new_roomy freed 0 0 weight part freed_total none sticky_none more_is part_is new new_is

      pub put_new-keeps : IsAccounted weigh new (total - freed + weight) × IsWithinShare weigh new (sticky_total + part)
      put_new-keeps = (
        IsAccounted-put weigh sticky key x places now n total sticky_total same accounted shared new_roomy freed 0 0 weight part freed_total none sticky_none more_is part_is new new_is (total - freed + weight) (omega arith),
        IsWithinShare-put weigh sticky key x places now n total sticky_total same accounted shared new_roomy freed 0 0 weight part freed_total none sticky_none more_is part_is new new_is (sticky_total + part) (omega arith),
      )

-- Under a key that has one, on that side or on the other.
module _ {X : Type 0} (weigh : List ℕ → X → ℕ) (key : List ℕ) (x : X) (places now : Places X) (held : Held) (n total sticky_total weight : ℕ) (same : places ≡ now) (accounted : IsAccounted weigh places total) (shared : IsWithinShare weigh places sticky_total)
    (is_now : IsHeld weigh key now held) (weight_is : weight ≡ weigh key x) where
  is : IsHeld weigh key places held
  is = subst (λ p. IsHeld weigh key p held) (sym same) is_now

  part_of : (part : ℕ) → part ≡ cond held.sticky held.weight 0 → part ≡ sticky_weight_at weigh key places
  part_of part part_is = held_part weigh key places held is accounted.once part part_is

  module _ (room : Some n ≡ option_map length (room_for weigh held.sticky key x now)) where
    pub there_few : n ≤ length (others key places.shelf)
    there_few = put_few weigh held.sticky key x places now n total sticky_total same accounted shared room

    module _ (freed part more : ℕ) (freed_is : weight_of weigh (survivors key n places.shelf) + freed ≡ weight_of weigh places.shelf) (part_is : part ≡ cond held.sticky held.weight 0) (more_is : more ≡ cond held.sticky weight 0) where
      freed_there : total_of weigh (evicted key n places) + freed ≡ total_of weigh places
      freed_there = omega (arith, freed_is)

      pub there_sums : PutSums weigh places total sticky_total freed held.weight part weight more
      there_sums = put_sums weigh held.sticky key x places now n total sticky_total same accounted shared room freed held.weight part weight more freed_there is.weight (part_of part part_is) weight_is more_is

      module _ (new : Places X) (e : new ≡ refilled key x (evicted key n places)) where
        there_is : new ≡ placed held.sticky key x (evicted key n places)
        there_is = let on = held_on weigh key places held is accounted.once in put_there_is key x places held.sticky n accounted.once on.0 new on.1 e

        pub put_there-is : new ≡ placed held.sticky key x (evicted key n now)
        put_there-is = there_is ∙ ap (λ p. placed held.sticky key x (evicted key n p)) same

        pub put_there-keeps : IsAccounted weigh new (total - freed - held.weight + weight) × IsWithinShare weigh new (sticky_total - part + more)
        put_there-keeps = (
          IsAccounted-put weigh held.sticky key x places now n total sticky_total same accounted shared room freed held.weight part weight more freed_there is.weight (part_of part part_is) weight_is more_is new there_is _ refl,
          IsWithinShare-put weigh held.sticky key x places now n total sticky_total same accounted shared room freed held.weight part weight more freed_there is.weight (part_of part part_is) weight_is more_is new there_is _ refl,
        )

  module _ (list : List (List ℕ × X)) (table : FinMap (slice_cmp nat_cmp) X) (room : Some n ≡ option_map length (room_for weigh (not held.sticky) key x now)) (made : list ≡ listed_at (not held.sticky) key x places.shelf) (stuck : table ≡ stuck_at (not held.sticky) key x places.sticky) where
    across_few : n ≤ length (others key places.shelf)
    across_few = put_few weigh (not held.sticky) key x places now n total sticky_total same accounted shared room

    across_off : on_side (not held.sticky) key places ≡ None
    across_off = held_off weigh key places held is accounted.once

    pub across_small : weight_of weigh (last_of n list) ≤ total
    across_small = apart_small weigh key (not held.sticky) x n total places list accounted across_off across_few made

    module _ (left : List (List ℕ × X)) (freed part more : ℕ) (taken : left ≡ take (length list - n) list) (freed_is : weight_of weigh left + freed ≡ weight_of weigh list) (part_is : part ≡ cond held.sticky held.weight 0) (more_is : more ≡ cond (not held.sticky) weight 0) where
      freed_across : total_of weigh (evicted key n places) + freed ≡ total_of weigh places
      freed_across = apart_freed weigh key (not held.sticky) x n places list left freed accounted.once across_off across_few made taken freed_is

      pub across_sums : PutSums weigh places total sticky_total freed held.weight part weight more
      across_sums = put_sums weigh (not held.sticky) key x places now n total sticky_total same accounted shared room freed held.weight part weight more freed_across is.weight (part_of part part_is) weight_is more_is

      module _ (new : Places X) (shelf : new.shelf ≡ left) (sides : new.sticky ≡ table) (limit : new.limit ≡ places.limit) (share : new.share ≡ places.share) where
        across_is : new ≡ placed (not held.sticky) key x (evicted key n places)
        across_is = put_apart_is weigh key (not held.sticky) x n places new list across_off across_few made (shelf ∙ taken) (sides ∙ stuck) limit share

        pub put_across-is : new ≡ placed (not held.sticky) key x (evicted key n now)
        put_across-is = across_is ∙ ap (λ p. placed (not held.sticky) key x (evicted key n p)) same

        pub put_across-keeps : IsAccounted weigh new (total - freed - held.weight + weight) × IsWithinShare weigh new (sticky_total - part + more)
        put_across-keeps = (
          IsAccounted-put weigh (not held.sticky) key x places now n total sticky_total same accounted shared room freed held.weight part weight more freed_across is.weight (part_of part part_is) weight_is more_is new across_is _ refl,
          IsWithinShare-put weigh (not held.sticky) key x places now n total sticky_total same accounted shared room freed held.weight part weight more freed_across is.weight (part_of part part_is) weight_is more_is new across_is _ refl,
        )

-- Whether the key's place is on the side that is named.

pub same_side : (a b : Bool) → beq a b ≡ true → a ≡ b
same_side true true h = refl
same_side false false h = refl
same_side true false h = absurd (cc)
same_side false true h = absurd (cc)

pub other_side : (a b : Bool) → beq a b ≡ false → not a ≡ b
other_side true false h = refl
other_side false true h = refl
other_side true true h = absurd (cc)
other_side false false h = absurd (cc)

module _ {X : Type 0} (weigh : List ℕ → X → ℕ) (sticky : Bool) (key : List ℕ) (x : X) (places : Places X) (held : Held) (weight part held_part_is more sticky_more : ℕ) (answer : Option ℕ) (is : IsHeld weigh key places held) (once : HasEachKeyOnce places)
    (weight_is : weight ≡ weigh key x) (part_is : part ≡ cond sticky weight 0) (held_is : held_part_is ≡ cond held.sticky held.weight 0) (more_is : more ≡ weight - held.weight) (sticky_more_is : sticky_more ≡ part - held_part_is)
    (asked : (extra sticky_extra : ℤ) → more ≡ added_by extra → sticky_more ≡ added_by sticky_extra → answer ≡ option_map length (room weigh places key extra sticky_extra)) where
  pub replace_room : answer ≡ option_map length (room_for weigh sticky key x places)
  replace_room = held_room weigh sticky key x places more sticky_more answer held.weight held_part_is weight part is.weight (held_part weigh key places held is once held_part_is held_is) weight_is part_is more_is sticky_more_is asked

-- what a put leaves is within the limit and the share
pub put_totals : {X : Type 0} (weigh : List ℕ → X → ℕ) (sticky : Bool) (key : List ℕ) (x : X) (places : Places X) (n : ℕ) → Some n ≡ option_map length (room_for weigh sticky key x places) → IsAccounted weigh places (total_of weigh places) → IsWithinShare weigh places (sticky_total_of weigh places)
    → (total_of weigh (placed sticky key x (evicted key n places)) ≤ (placed sticky key x (evicted key n places)).limit) × (sticky_total_of weigh (placed sticky key x (evicted key n places)) ≤ (placed sticky key x (evicted key n places)).share)
put_totals weigh sticky key x places n room accounted shared =
    let limit = same_limit weigh sticky key x places n room accounted.once sticky in
    let share = same_share weigh sticky key x places n room accounted.once sticky in (
      omega (arith, limit, total_put weigh sticky key x places n room accounted.once, put_within weigh sticky key x places n room accounted.once),
      omega (arith, share, sticky_total_put weigh sticky key x places n room accounted.once, share_within weigh sticky key x places n room accounted.once),
    )
