-- What holds of all that stands on a side holds after each change of the places.
use Rattle.std.proofs.Common.{◌≡◌, ℕ, Bool, true, false, cond, ◌||◌, List, [], ◌∷◌, length, nat_le, Option, Some, None, bytes_eq, refl, sym, ap, ◌∙◌, subst}
use Rattle.std.specs.Map.{lookup}
use Rattle.std.specs.Ordering.{nat_cmp}
use Rattle.std.specs.Cmp.Lexicographic.{slice_cmp}
use Rattle.std.specs.FinMap.{FinMap}
use Rattle.std.specs.FinMap as finite
use Rattle.arc_core.specs.Places.{Places, HasEachKeyOnce, empty_places, others, shelved, brought_to_front, placed, without}
use Rattle.arc_core.specs.Room.{survivors, evicted}
use Rattle.byte_account.specs.Sides.{AllOnSides}
use Rattle.byte_account.proofs.ShelfLists.{IsAbsent, AreApart, IsAbsent-head, AreApart-tail, same_key, lookup-others, lookup-others_apart, lookup-to_front, lookup-shelved, lookup-shelved_apart}
use Rattle.byte_account.proofs.StickyMaps.{get-insert, get-remove}
use Rattle.byte_account.proofs.EvictionLemmas.{IsAbsent-survivors}

Some-same : {A : Type 0} (x y : A) → ◌≡◌ {A = Option A} (Some x) (Some y) → x ≡ y
Some-same x y h = cc

none_there : {A : Type 0} (x : A) (o : Option A) → o ≡ None → o ≡ Some x → ⊥
none_there x o h k = cc

module _ {X : Type 0} (Good : Bool → X → Type 0) where
  pub AllOnSides-empty : (limit share : ℕ) → AllOnSides Good (empty_places limit share)
  AllOnSides-empty limit share = record {
    on_shelf = λ q x h. absurd (cc);
    sticky = λ q x h. absurd (none_there x (finite.get finite.empty q) (finite.get-empty (slice_cmp nat_cmp) q) h);
  }

  pub AllOnSides-brought_to_front : (key : List ℕ) (places : Places X) → AllOnSides Good places → AllOnSides Good (brought_to_front key places)
  AllOnSides-brought_to_front key places good = record {
    on_shelf = λ q x h. good.on_shelf q x (sym (lookup-to_front key q places.shelf) ∙ h);
    sticky = good.sticky;
  }

  kept_by : (m : FinMap (slice_cmp nat_cmp) X) (q : List ℕ) (x : X) (b : Bool) → ((x : X) → finite.get m q ≡ Some x → Good true x) → cond b None (finite.get m q) ≡ Some x → Good true x
  kept_by m q x true good h = absurd (cc)
  kept_by m q x false good h = good x h

  others_by : (key q : List ℕ) (shelf : List (List ℕ × X)) (x : X) (b : Bool) → bytes_eq q key ≡ b → ((x : X) → lookup (bytes_eq q) shelf ≡ Some x → Good false x) → lookup (bytes_eq q) (others key shelf) ≡ Some x → Good false x
  others_by key q shelf x true e good h =
      absurd (none_there x (lookup (bytes_eq q) (others key shelf)) (subst (λ k. lookup (bytes_eq k) (others key shelf) ≡ None) (sym (same_key q key e)) (lookup-others key shelf)) h)
  others_by key q shelf x false e good h = good x (sym (lookup-others_apart key q shelf e) ∙ h)

  pub AllOnSides-without : (key : List ℕ) (places : Places X) → AllOnSides Good places → AllOnSides Good (without key places)
  AllOnSides-without key places good = record {
    on_shelf = λ q x h. others_by key q places.shelf x (bytes_eq q key) refl (good.on_shelf q) h;
    sticky = λ q x h. kept_by places.sticky q x (bytes_eq q key) (good.sticky q) (sym (get-remove places.sticky key q) ∙ h);
  }

  insert_by : (m : FinMap (slice_cmp nat_cmp) X) (q : List ℕ) (y x : X) (b : Bool) → Good true y → ((x : X) → finite.get m q ≡ Some x → Good true x) → cond b (Some y) (finite.get m q) ≡ Some x → Good true x
  insert_by m q y x true new good h = subst (Good true) (Some-same y x h) new
  insert_by m q y x false new good h = good x h

  shelved_by : (key q : List ℕ) (shelf : List (List ℕ × X)) (y x : X) (b : Bool) → bytes_eq q key ≡ b → Good false y → ((x : X) → lookup (bytes_eq q) shelf ≡ Some x → Good false x) → lookup (bytes_eq q) (shelved key y shelf) ≡ Some x → Good false x
  shelved_by key q shelf y x true e new good h =
      subst (Good false) (Some-same y x (sym (subst (λ k. lookup (bytes_eq k) (shelved key y shelf) ≡ Some y) (sym (same_key q key e)) (lookup-shelved key y shelf)) ∙ h)) new
  shelved_by key q shelf y x false e new good h = good x (sym (lookup-shelved_apart key q y shelf e) ∙ h)

  pub AllOnSides-placed : (sticky : Bool) (key : List ℕ) (y : X) (places : Places X) → Good sticky y → AllOnSides Good places → AllOnSides Good (placed sticky key y places)
  AllOnSides-placed true key y places new good = record {
    on_shelf = λ q x h. others_by key q places.shelf x (bytes_eq q key) refl (good.on_shelf q) h;
    sticky = λ q x h. insert_by places.sticky q y x (bytes_eq q key) new (good.sticky q) (sym (get-insert places.sticky key y q) ∙ h);
  }
  AllOnSides-placed false key y places new good = record {
    on_shelf = λ q x h. shelved_by key q places.shelf y x (bytes_eq q key) refl new (good.on_shelf q) h;
    sticky = λ q x h. kept_by places.sticky q x (bytes_eq q key) (good.sticky q) (sym (get-remove places.sticky key q) ∙ h);
  }

  survivor_head : (key : List ℕ) (n : ℕ) (q : List ℕ) (place : List ℕ × X) (older : List (List ℕ × X)) (x : X) (b own : Bool) → bytes_eq q place.0 ≡ own → IsAbsent place.0 older
      → (lookup (bytes_eq q) (survivors key n older) ≡ Some x → lookup (bytes_eq q) older ≡ Some x)
      → lookup (bytes_eq q) (cond b (place ∷ survivors key n older) (survivors key n older)) ≡ Some x → cond own (Some place.1) (lookup (bytes_eq q) older) ≡ Some x
  survivor_head key n q place older x true true e absent rest h = sym (ap (λ t. cond t (Some place.1) (lookup (bytes_eq q) (survivors key n older))) e) ∙ h
  survivor_head key n q place older x true false e absent rest h = rest (sym (ap (λ t. cond t (Some place.1) (lookup (bytes_eq q) (survivors key n older))) e) ∙ h)
  survivor_head key n q place older x false true e absent rest h =
      absurd (none_there x (lookup (bytes_eq q) (survivors key n older)) (subst (λ k. lookup (bytes_eq k) (survivors key n older) ≡ None) (sym (same_key q place.0 e)) (IsAbsent-survivors key n place.0 older absent)) h)
  survivor_head key n q place older x false false e absent rest h = rest h

  survivor_was : (key : List ℕ) (n : ℕ) (q : List ℕ) (shelf : List (List ℕ × X)) (x : X) → AreApart shelf → lookup (bytes_eq q) (survivors key n shelf) ≡ Some x → lookup (bytes_eq q) shelf ≡ Some x
  survivor_was key n q [] x apart h = h
  survivor_was key n q (place ∷ older) x apart h =
      survivor_head key n q place older x (bytes_eq key place.0 || nat_le n (length (others key older))) (bytes_eq q place.0) refl (IsAbsent-head place older apart) (survivor_was key n q older x (AreApart-tail place older apart)) h

  pub AllOnSides-evicted : (key : List ℕ) (n : ℕ) (places : Places X) → HasEachKeyOnce places → AllOnSides Good places → AllOnSides Good (evicted key n places)
  AllOnSides-evicted key n places once good = record {
    on_shelf = λ q x h. good.on_shelf q x (survivor_was key n q places.shelf x once.on_shelf h);
    sticky = good.sticky;
  }
