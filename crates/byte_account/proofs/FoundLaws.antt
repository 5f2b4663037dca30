-- What is found under a key after each change of the places.
use Rattle.std.proofs.Common.{◌≡◌, ℕ, Bool, true, false, cond, ◌||◌, List, [], ◌∷◌, length, nat_le, Option, Some, None, is_some, bytes_eq, refl, sym, ap, ◌∙◌}
use Rattle.std.specs.Option.{option_or, option_map_or, option_flatten}
use Rattle.std.specs.Map.{lookup, set_value}
use Rattle.std.specs.Ordering.{nat_cmp}
use Rattle.std.specs.Cmp.Lexicographic.{slice_cmp}
use Rattle.std.specs.FinMap.{FinMap}
use Rattle.std.specs.FinMap as finite
use Rattle.arc_core.specs.Places.{Places, found, others, to_front, brought_to_front, placed, refilled, without}
use Rattle.arc_core.specs.Room.{survivors, evicted}
use Rattle.byte_account.specs.ShelfWords.{on_side, restuck}
use Rattle.byte_account.proofs.ShelfLists.{own_key, others-absent, lookup-others, lookup-others_apart, lookup-to_front, lookup-set_value, lookup-shelved, lookup-shelved_apart, set_value-absent}
use Rattle.byte_account.proofs.StickyMaps.{get-insert, get-remove}
use Rattle.byte_account.proofs.StickySums.{remove-absent}
use Rattle.byte_account.proofs.PlacesLaws.{absent_from_shelf, absent_from_sticky}

module _ {X : Type 0} (key : List ℕ) where
  get-insert_own : (m : FinMap (slice_cmp nat_cmp) X) (x : X) → finite.get (finite.insert m key x) key ≡ Some x
  get-insert_own m x = get-insert m key x key ∙ ap (λ b. cond b (Some x) (finite.get m key)) (own_key key)

  pub on_side-placed : (sticky : Bool) (x : X) (places : Places X) → on_side sticky key (placed sticky key x places) ≡ Some x
  on_side-placed true x places = get-insert_own places.sticky x
  on_side-placed false x places = lookup-shelved key x places.shelf

  pub found-placed : (sticky : Bool) (x : X) (places : Places X) → found key (placed sticky key x places) ≡ Some x
  found-placed true x places =
      ap (λ o. option_or o (finite.get (finite.insert places.sticky key x) key)) (lookup-others key places.shelf) ∙ get-insert_own places.sticky x
  found-placed false x places = ap (λ o. option_or o (finite.get (finite.remove places.sticky key) key)) (lookup-shelved key x places.shelf)

  pub found-without : (places : Places X) → found key (without key places) ≡ None
  found-without places =
      ap (λ o. option_or o (finite.get (finite.remove places.sticky key) key)) (lookup-others key places.shelf)
      ∙ get-remove places.sticky key key ∙ ap (λ b. cond b None (finite.get places.sticky key)) (own_key key)

  -- a place that moved holds what it held
  pub found-restuck : (sticky : Bool) (x : X) (places : Places X) → found key places ≡ Some x → found key (restuck sticky key places) ≡ Some x
  found-restuck sticky x places held =
      ap (λ o. found key (option_map_or (λ y. placed sticky key y places) o places)) held ∙ found-placed sticky x places

  refilled_by : (x old : X) (places : Places X) (on_shelf in_sticky : Option X) → lookup (bytes_eq key) places.shelf ≡ on_shelf → finite.get places.sticky key ≡ in_sticky → option_or on_shelf in_sticky ≡ Some old
      → option_or (lookup (bytes_eq key) (set_value (bytes_eq key) places.shelf x)) (finite.get (cond (is_some in_sticky) (finite.insert places.sticky key x) places.sticky) key) ≡ Some x
  refilled_by x old places None None a b held = absurd (cc)
  refilled_by x old places None (Some other) a b held =
      ap (λ o. option_or o (finite.get (finite.insert places.sticky key x) key)) (ap (lookup (bytes_eq key)) (set_value-absent (bytes_eq key) places.shelf x a) ∙ a) ∙ get-insert_own places.sticky x
  refilled_by x old places (Some other) in_sticky a b held =
      ap (λ o. option_or o (finite.get (cond (is_some in_sticky) (finite.insert places.sticky key x) places.sticky) key)) (lookup-set_value key x places.shelf (ap is_some a))

  pub found-refilled : (x old : X) (places : Places X) → found key places ≡ Some old → found key (refilled key x places) ≡ Some x
  found-refilled x old places held = refilled_by x old places (lookup (bytes_eq key) places.shelf) (finite.get places.sticky key) refl refl held

  pub found-brought_to_front : (q : List ℕ) (places : Places X) → found q (brought_to_front key places) ≡ found q places
  found-brought_to_front q places = ap (λ o. option_or o (finite.get places.sticky q)) (lookup-to_front key q places.shelf)

  -- the key's own place survives
  survivors-own : (n : ℕ) (place : List ℕ × X) (older : List (List ℕ × X)) (b : Bool) → bytes_eq key place.0 ≡ b → lookup (bytes_eq key) (survivors key n older) ≡ lookup (bytes_eq key) older
      → lookup (bytes_eq key) (survivors key n (place ∷ older)) ≡ lookup (bytes_eq key) (place ∷ older)
  survivors-own n place older true e same = ap (λ b. lookup (bytes_eq key) (cond (b || nat_le n (length (others key older))) (place ∷ survivors key n older) (survivors key n older))) e
      ∙ ap (λ b. cond b (Some place.1) (lookup (bytes_eq key) (survivors key n older))) e ∙ sym (ap (λ b. cond b (Some place.1) (lookup (bytes_eq key) older)) e)
  survivors-own n place older false e same =
      elim (bytes_eq key place.0 || nat_le n (length (others key older))) as (λ b. lookup (bytes_eq key) (cond b (place ∷ survivors key n older) (survivors key n older)) ≡ lookup (bytes_eq key) (place ∷ older)) [
        | true ↦ ap (cond (bytes_eq key place.0) (Some place.1)) same
        | false ↦ same ∙ sym (ap (λ b. cond b (Some place.1) (lookup (bytes_eq key) older)) e)
      ]

  pub lookup-survivors : (n : ℕ) (shelf : List (List ℕ × X)) → lookup (bytes_eq key) (survivors key n shelf) ≡ lookup (bytes_eq key) shelf
  lookup-survivors n [] = refl
  lookup-survivors n (place ∷ older) = survivors-own n place older (bytes_eq key place.0) refl (lookup-survivors n older)

  pub found-evicted : (n : ℕ) (places : Places X) → found key (evicted key n places) ≡ found key places
  found-evicted n places = ap (λ o. option_or o (finite.get places.sticky key)) (lookup-survivors n places.shelf)

  -- other keys keep what they have

  pub found-placed_apart : (sticky : Bool) (x : X) (places : Places X) (q : List ℕ) → bytes_eq q key ≡ false → found q (placed sticky key x places) ≡ found q places
  found-placed_apart true x places q apart =
      ap (λ o. option_or o (finite.get (finite.insert places.sticky key x) q)) (lookup-others_apart key q places.shelf apart)
      ∙ ap (option_or (lookup (bytes_eq q) places.shelf)) (get-insert places.sticky key x q ∙ ap (λ b. cond b (Some x) (finite.get places.sticky q)) apart)
  found-placed_apart false x places q apart =
      ap (λ o. option_or o (finite.get (finite.remove places.sticky key) q)) (lookup-shelved_apart key q x places.shelf apart)
      ∙ ap (option_or (lookup (bytes_eq q) places.shelf)) (get-remove places.sticky key q ∙ ap (λ b. cond b None (finite.get places.sticky q)) apart)

  pub found-without_apart : (places : Places X) (q : List ℕ) → bytes_eq q key ≡ false → found q (without key places) ≡ found q places
  found-without_apart places q apart =
      ap (λ o. option_or o (finite.get (finite.remove places.sticky key) q)) (lookup-others_apart key q places.shelf apart)
      ∙ ap (option_or (lookup (bytes_eq q) places.shelf)) (get-remove places.sticky key q ∙ ap (λ b. cond b None (finite.get places.sticky q)) apart)

-- nothing changes under a key that has no place
pub touched-absent : {X : Type 0} (key : List ℕ) (places : Places X) → found key places ≡ None → brought_to_front key places ≡ places
touched-absent key places absent =
    let same : to_front key places.shelf ≡ places.shelf = ap (λ o. option_map_or (λ x. (key, x) ∷ others key places.shelf) o places.shelf) (absent_from_shelf key places absent) in
    λ i. record { shelf = same i; sticky = places.sticky; limit = places.limit; share = places.share }

pub without-absent : {X : Type 0} (key : List ℕ) (places : Places X) → found key places ≡ None → without key places ≡ places
without-absent key places absent =
    let on_shelf = others-absent key places.shelf (absent_from_shelf key places absent) in
    let in_sticky = remove-absent places.sticky key (absent_from_sticky key places absent) in
    λ i. record { shelf = on_shelf i; sticky = in_sticky i; limit = places.limit; share = places.share }

-- where a key has an item, it has a place with that item
pub found_item : {T : Type 0} (place : Option (Option T)) (item : T) → Some item ≡ option_flatten place → place ≡ Some (Some item)
found_item None item h = absurd (cc)
found_item (Some None) item h = absurd (cc)
found_item (Some (Some other)) item h = ap (λ o. Some o) (sym h)
