-- What each change of the places does to the sticky total.
use Rattle.std.proofs.Common.{◌≡◌, ℕ, ◌+◌, ◌-◌, ◌≤◌, Bool, true, false, cond, List, Option, Some, None, is_some, bytes_eq, pos, refl, sym, ap, ◌∙◌, subst, arith}
use Rattle.std.proofs.lemmas.Bool.{leb-true}
use Rattle.std.specs.Option.{option_or}
use Rattle.std.specs.Map.{lookup}
use Rattle.std.specs.FinMap as finite
use Rattle.arc_core.specs.Places.{Places, HasEachKeyOnce, empty_places, found, placed, refilled, without, weight_of, sticky_total_of}
use Rattle.arc_core.specs.Room.{share_fits}
use Rattle.byte_account.specs.Accounting.{IsWithinShare, HasShareFor}
use Rattle.byte_account.specs.ShelfWords.{weight_at, listed_at, stuck_at}
use Rattle.byte_account.specs.Weight.{weight_under}
use Rattle.byte_account.proofs.PlacesLaws.{absent_from_sticky, found-shelf, not_on_shelf, placed-new}
use Rattle.byte_account.proofs.StickySums.{weight-insert_new, weight-insert, weight-remove, remove-absent}
use Rattle.byte_account.proofs.AccountingLaws.{weight-empty}

-- what of a weight is sticky, by the side that was told
pub part_of : (told is : Bool) (n m part : ℕ) → told ≡ is → n ≡ m → part ≡ cond told n 0 → part ≡ cond is m 0
part_of told is n m part side same h = h ∙ (λ i. cond (side i) (same i) 0)

module _ {X : Type 0} (weigh : List ℕ → X → ℕ) where
  pub IsWithinShare-empty : (limit share : ℕ) → IsWithinShare weigh (empty_places limit share) 0
  IsWithinShare-empty limit share = record { sum = sym (weight-empty weigh); within = omega arith }

  module _ (places new : Places X) (sticky_total : ℕ) (shared : IsWithinShare weigh places sticky_total) (same_share : new.share ≡ places.share) where
    -- the sticky total stays
    pub IsWithinShare-same : sticky_total_of weigh new ≡ sticky_total_of weigh places → IsWithinShare weigh new sticky_total
    IsWithinShare-same sum = record { sum = shared.sum ∙ sym sum; within = (let was : sticky_total ≤ places.share = shared.within in omega arith) }

    -- it falls by what is freed
    pub sticky_freed-le : (freed : ℕ) → sticky_total_of weigh new + freed ≡ sticky_total_of weigh places → freed ≤ sticky_total
    sticky_freed-le freed sum = let was : sticky_total ≡ sticky_total_of weigh places = shared.sum in omega arith

    pub IsWithinShare-less : (freed : ℕ) → sticky_total_of weigh new + freed ≡ sticky_total_of weigh places → IsWithinShare weigh new (sticky_total - freed)
    IsWithinShare-less freed sum =
        let was : sticky_total ≡ sticky_total_of weigh places = shared.sum in
        let below : sticky_total ≤ places.share = shared.within in
        record { sum = omega arith; within = omega arith }

    -- it rises, where the share has so much left
    pub IsWithinShare-more : (more : ℕ) → sticky_total_of weigh new ≡ sticky_total_of weigh places + more → sticky_total_of weigh places + more ≤ places.share → IsWithinShare weigh new (sticky_total + more)
    IsWithinShare-more more sum room =
        let was : sticky_total ≡ sticky_total_of weigh places = shared.sum in
        record { sum = omega arith; within = omega arith }

  -- what a sticky place weighs under the key; 0 where it has none
  abbrev pub sticky_under : List ℕ → Places X → ℕ
  sticky_under key places = weight_under weigh key (finite.get places.sticky key)

  placed_sticky_by : (key : List ℕ) (x : X) (places : Places X) (o : Option X) → finite.get places.sticky key ≡ o → sticky_total_of weigh (placed true key x places) + weight_under weigh key o ≡ sticky_total_of weigh places + weigh key x
  placed_sticky_by key x places None h = omega (arith, weight-insert_new weigh places.sticky key x h)
  placed_sticky_by key x places (Some old) h = omega (arith, weight-insert weigh places.sticky key old x h)

  -- an item that is put among the sticky ones
  pub sticky_total-placed : (key : List ℕ) (x : X) (places : Places X) → sticky_total_of weigh (placed true key x places) + sticky_under key places ≡ sticky_total_of weigh places + weigh key x
  sticky_total-placed key x places = placed_sticky_by key x places (finite.get places.sticky key) refl

  without_by : (key : List ℕ) (places : Places X) (o : Option X) → finite.get places.sticky key ≡ o → sticky_total_of weigh (without key places) + weight_under weigh key o ≡ sticky_total_of weigh places
  without_by key places None h = omega (arith, ap (λ m. sticky_total_of weigh (record places { sticky = m })) (remove-absent places.sticky key h))
  without_by key places (Some old) h = omega (arith, weight-remove weigh places.sticky key old h)

  -- a place that goes
  pub sticky_total-without : (key : List ℕ) (places : Places X) → sticky_total_of weigh (without key places) + sticky_under key places ≡ sticky_total_of weigh places
  sticky_total-without key places = without_by key places (finite.get places.sticky key) refl

  -- an item that is put on the list
  pub sticky_total-listed : (key : List ℕ) (x : X) (places : Places X) → sticky_total_of weigh (placed false key x places) + sticky_under key places ≡ sticky_total_of weigh places
  sticky_total-listed key x places = sticky_total-without key places

  refilled_by : (key : List ℕ) (x : X) (places : Places X) (o : Option X) → finite.get places.sticky key ≡ o
      → sticky_total_of weigh (record places { sticky = cond (is_some o) (finite.insert places.sticky key x) places.sticky }) + weight_under weigh key o ≡ sticky_total_of weigh places + cond (is_some o) (weigh key x) 0
  refilled_by key x places None h = omega arith
  refilled_by key x places (Some old) h = omega (arith, weight-insert weigh places.sticky key old x h)

  -- an item that takes the place of another, whichever side that is on
  pub sticky_total-refilled : (key : List ℕ) (x : X) (places : Places X) → sticky_total_of weigh (refilled key x places) + sticky_under key places ≡ sticky_total_of weigh places + cond (finite.contains_key places.sticky key) (weigh key x) 0
  sticky_total-refilled key x places = refilled_by key x places (finite.get places.sticky key) refl

  -- nothing is sticky under a key where nothing there weighs
  under_none_by : (key : List ℕ) (places : Places X) (o : Option X) → finite.get places.sticky key ≡ o → HasEachKeyOnce places → weight_under weigh key (found key places) ≡ 0 → weight_under weigh key o ≡ 0
  under_none_by key places None h once none = refl
  under_none_by key places (Some x) h once none =
      sym (ap (weight_under weigh key) ((λ i. option_or (not_on_shelf places once key (ap is_some h) i) (h i)))) ∙ none

  pub sticky_under-none : (key : List ℕ) (places : Places X) → HasEachKeyOnce places → weight_under weigh key (found key places) ≡ 0 → sticky_under key places ≡ 0
  sticky_under-none key places once none = under_none_by key places (finite.get places.sticky key) refl once none

  under_by : (key : List ℕ) (places : Places X) (n : ℕ) (o : Option X) → finite.get places.sticky key ≡ o → HasEachKeyOnce places → weight_under weigh key (found key places) ≡ n → weight_under weigh key o ≡ cond (is_some o) n 0
  under_by key places n None h once is = refl
  under_by key places n (Some x) h once is =
      sym (ap (weight_under weigh key) ((λ i. option_or (not_on_shelf places once key (ap is_some h) i) (h i)))) ∙ is

  -- what a place weighs is sticky where the place is
  pub sticky_under-is : (key : List ℕ) (places : Places X) (n : ℕ) → HasEachKeyOnce places → weight_under weigh key (found key places) ≡ n → sticky_under key places ≡ cond (finite.contains_key places.sticky key) n 0
  sticky_under-is key places n once is = under_by key places n (finite.get places.sticky key) refl once is

  none_either : (b : Bool) (n : ℕ) → n ≡ 0 → cond b n 0 ≡ 0
  none_either true n none = none
  none_either false n none = refl

  -- what fits the share is within it
  pub share-within : (places : Places X) (more : ℕ) → share_fits weigh places (pos more) ≡ true → sticky_total_of weigh places + more ≤ places.share
  share-within places more fit = let up = leb-true (sticky_total_of weigh places + more) (places.share + 0) fit in omega (arith, up)

  pub share-for_any : (sticky : Bool) (places : Places X) (more : ℕ) → sticky_total_of weigh places + more ≤ places.share → HasShareFor sticky weigh places more
  share-for_any true places more room = room
  share-for_any false places more room = tt

  -- what weighs nothing is within it
  pub share-for_none : (sticky : Bool) (places : Places X) (sticky_total more : ℕ) → sticky_total ≡ sticky_total_of weigh places → sticky_total ≤ places.share → more ≡ 0 → HasShareFor sticky weigh places more
  share-for_none sticky places sticky_total more sum within none = share-for_any sticky places more (omega arith)

  share_for_by : (places : Places X) (b : Bool) (more : ℕ) → HasShareFor b weigh places more → sticky_total_of weigh places ≤ places.share → sticky_total_of weigh places + cond b more 0 ≤ places.share
  share_for_by places true more room within = room
  share_for_by places false more room within = omega (arith, within)

  pub share_for : (places : Places X) (b : Bool) (more sticky_total : ℕ) → HasShareFor b weigh places more → IsWithinShare weigh places sticky_total → sticky_total_of weigh places + cond b more 0 ≤ places.share
  share_for places b more sticky_total room shared =
      share_for_by places b more room (let sum : sticky_total ≡ sticky_total_of weigh places = shared.sum in let within : sticky_total ≤ places.share = shared.within in omega arith)

  -- the share after each change of the places

  pub IsWithinShare-without_none : (key : List ℕ) (places : Places X) (sticky_total : ℕ) → IsWithinShare weigh places sticky_total → HasEachKeyOnce places → weight_under weigh key (found key places) ≡ 0 → IsWithinShare weigh (without key places) sticky_total
  IsWithinShare-without_none key places sticky_total shared once none =
      IsWithinShare-same places (without key places) sticky_total shared refl (omega (arith, sticky_total-without key places, sticky_under-none key places once none))

  module _ (key : List ℕ) (places : Places X) (sticky_total n part : ℕ) (shared : IsWithinShare weigh places sticky_total) (once : HasEachKeyOnce places) (is : weight_under weigh key (found key places) ≡ n) (part_is : part ≡ cond (finite.contains_key places.sticky key) n 0) where
    without_sum : sticky_total_of weigh (without key places) + part ≡ sticky_total_of weigh places
    without_sum = omega (arith, sticky_total-without key places, sticky_under-is key places n once is)

    pub sticky_part-le : part ≤ sticky_total
    sticky_part-le = sticky_freed-le places (without key places) sticky_total shared refl part without_sum

    pub IsWithinShare-without : IsWithinShare weigh (without key places) (sticky_total - part)
    IsWithinShare-without = IsWithinShare-less places (without key places) sticky_total shared refl part without_sum

    hollowed_sum : (x : X) → weigh key x ≡ 0 → sticky_total_of weigh (refilled key x places) + part ≡ sticky_total_of weigh places
    hollowed_sum x hollow = omega (arith, sticky_total-refilled key x places, sticky_under-is key places n once is, none_either (finite.contains_key places.sticky key) (weigh key x) hollow)

    pub IsWithinShare-hollowed : (x : X) → weigh key x ≡ 0 → IsWithinShare weigh (refilled key x places) (sticky_total - part)
    IsWithinShare-hollowed x hollow = IsWithinShare-less places (refilled key x places) sticky_total shared refl part (hollowed_sum x hollow)

  pub IsWithinShare-hollowed_none : (key : List ℕ) (x : X) (places : Places X) (sticky_total : ℕ) → IsWithinShare weigh places sticky_total → HasEachKeyOnce places → weigh key x ≡ 0 → weight_under weigh key (found key places) ≡ 0 → IsWithinShare weigh (refilled key x places) sticky_total
  IsWithinShare-hollowed_none key x places sticky_total shared once hollow none =
      IsWithinShare-same places (refilled key x places) sticky_total shared refl
      (omega (arith, sticky_total-refilled key x places, sticky_under-none key places once none, none_either (finite.contains_key places.sticky key) (weigh key x) hollow))

  -- what is laid into a place that weighs nothing
  module _ (key : List ℕ) (old x : X) (places : Places X) (sticky_total part : ℕ) (shared : IsWithinShare weigh places sticky_total) (once : HasEachKeyOnce places) (held : found key places ≡ Some old) (hollow : weigh key old ≡ 0)
      (room : HasShareFor (finite.contains_key places.sticky key) weigh places (weigh key x)) (part_is : part ≡ cond (finite.contains_key places.sticky key) (weigh key x) 0) where
    laid_room : sticky_total_of weigh places + part ≤ places.share
    laid_room = omega (arith, part_is, share_for places (finite.contains_key places.sticky key) (weigh key x) sticky_total room shared)

    pub laid-le : sticky_total + part ≤ places.share
    laid-le = let sum : sticky_total ≡ sticky_total_of weigh places = shared.sum in omega (arith, laid_room)

    pub IsWithinShare-laid : IsWithinShare weigh (refilled key x places) (sticky_total + part)
    IsWithinShare-laid =
        let none : weight_under weigh key (found key places) ≡ 0 = ap (weight_under weigh key) held ∙ hollow in
        IsWithinShare-more places (refilled key x places) sticky_total shared refl part
        (omega (arith, part_is, sticky_total-refilled key x places, sticky_under-none key places once none)) laid_room

  -- a new place that weighs nothing, told by its parts
  reserved_by : (sticky : Bool) (key : List ℕ) (x : X) (places : Places X) → finite.get places.sticky key ≡ None → weigh key x ≡ 0 → sticky_total_of weigh (placed sticky key x places) ≡ sticky_total_of weigh places
  reserved_by true key x places absent hollow =
      let before : sticky_under key places ≡ 0 = ap (weight_under weigh key) absent in
      omega (arith, sticky_total-placed key x places)
  reserved_by false key x places absent hollow =
      let before : sticky_under key places ≡ 0 = ap (weight_under weigh key) absent in
      omega (arith, sticky_total-listed key x places)

  pub IsWithinShare-new : (sticky : Bool) (key : List ℕ) (x : X) (places new : Places X) (sticky_total : ℕ) → IsWithinShare weigh places sticky_total → found key places ≡ None → weigh key x ≡ 0 → new.shelf ≡ listed_at sticky key x places.shelf
      → new.sticky ≡ stuck_at sticky key x places.sticky → new.limit ≡ places.limit → new.share ≡ places.share → IsWithinShare weigh new sticky_total
  IsWithinShare-new sticky key x places new sticky_total shared absent hollow shelf table limit share =
      IsWithinShare-same places new sticky_total shared share
      (ap (sticky_total_of weigh) (placed-new sticky key x places new absent shelf table limit share) ∙ reserved_by sticky key x places (absent_from_sticky key places absent) hollow)

  -- a place that changes sides, told by its parts
  pub IsWithinShare-stuck : (key : List ℕ) (x : X) (places now new : Places X) (sticky_total more : ℕ) → IsWithinShare weigh places sticky_total → HasEachKeyOnce places → lookup (bytes_eq key) places.shelf ≡ Some x
      → more ≡ weight_under weigh key (lookup (bytes_eq key) places.shelf) → places ≡ now → HasShareFor true weigh now (weight_at weigh key now)
      → new.sticky ≡ finite.insert places.sticky key x → new.share ≡ places.share → IsWithinShare weigh new (sticky_total + more)
  IsWithinShare-stuck key x places now new sticky_total more shared once held is same_places room sticky share =
      let before : sticky_under key places ≡ 0 = ap (weight_under weigh key) (once.on_one_side key (ap is_some held)) in
      let more_is : more ≡ weigh key x = is ∙ ap (weight_under weigh key) held in
      let at : weight_at weigh key places ≡ weigh key x = ap (weight_under weigh key) (found-shelf key places x held) in
      let free : sticky_total_of weigh places + weight_at weigh key places ≤ places.share = subst (λ p. sticky_total_of weigh p + weight_at weigh key p ≤ p.share) (sym same_places) room in
      let same : sticky_total_of weigh new ≡ sticky_total_of weigh (placed true key x places) = ap (λ m. weight_of weigh (finite.entries m)) sticky in
      IsWithinShare-more places new sticky_total shared share more (omega (arith, more_is, same, sticky_total-placed key x places)) (omega (arith, free, at, more_is))

  module _ (key : List ℕ) (places : Places X) (sticky_total less : ℕ) (shared : IsWithinShare weigh places sticky_total) (is : less ≡ sticky_under key places) where
    pub unstuck-le : less ≤ sticky_total
    unstuck-le = sticky_freed-le places (without key places) sticky_total shared refl less (omega (arith, is, sticky_total-without key places))

    pub IsWithinShare-unstuck : (new : Places X) → new.sticky ≡ finite.remove places.sticky key → new.share ≡ places.share → IsWithinShare weigh new (sticky_total - less)
    IsWithinShare-unstuck new sticky share =
        let same : sticky_total_of weigh new ≡ sticky_total_of weigh (without key places) = ap (λ m. weight_of weigh (finite.entries m)) sticky in
        IsWithinShare-less places new sticky_total shared share less (omega (arith, is, same, sticky_total-without key places))
