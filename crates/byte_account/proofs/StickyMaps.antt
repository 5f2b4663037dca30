-- A hashed table as the finite map that it is, by the bytes of its keys.
use Rattle.std.proofs.Common.{◌≡◌, ℕ, ◌+◌, Bool, true, false, cond, List, [], ◌∷◌, map, length, Option, Some, None, IsSome, is_some, bytes_eq, refl, sym, ap, ◌∙◌, subst, arith}
use Rattle.std.specs.Ordering.{nat_cmp}
use Rattle.std.specs.Map.{keys_of, lookup, set_value, KeepsOthers}
use Rattle.std.specs.Cmp.Lexicographic.{slice_cmp, nat_list_cmp_total, nat_list_eq_equiv}
use Rattle.std.specs.List.{IsDistinct, AllByRecursion}
use Rattle.std.proofs.lemmas.List.{length-map}
use Rattle.std.proofs.lemmas.Map.Keys.{IsDistinct-head, IsDistinct-tail, IsDistinct-cons}
use Rattle.std.proofs.lemmas.Map.Entries.{place_from_lookup}
use Rattle.std.specs.FinMap.{FinMap, IsAntisymmetric, slice_cmp-IsAntisymmetric, nat_cmp-IsAntisymmetric, find}
use Rattle.std.specs.FinMap as finite
use Rattle.std.proofs.lemmas.Map.Text.{is_eq-slice_cmp}
use Rattle.byte_account.specs.ByBytes.{by_bytes, entry_by_bytes, map_by_bytes}
use Rattle.byte_account.proofs.ByBytesLemmas.{has_bytes, lookup-by_bytes, set_value-by_bytes}
use Rattle.byte_account.proofs.ShelfLists.{AreApart, AreApart-tail, IsAbsent-head, IsDistinct-nil, same_key, lookup-set_value, lookup-set_value_apart, set_value-absent}

pub key_cmp-IsAntisymmetric : IsAntisymmetric (slice_cmp nat_cmp)
key_cmp-IsAntisymmetric = slice_cmp-IsAntisymmetric nat_cmp-IsAntisymmetric

module _ {X : Type 0} where
  -- maps that answer alike are one map
  pub same_map : (m n : FinMap (slice_cmp nat_cmp) X) → ((q : List ℕ) → finite.get m q ≡ finite.get n q) → m ≡ n
  same_map = finite.same_map nat_list_cmp_total key_cmp-IsAntisymmetric

  find-lookup : (q : List ℕ) (es : List (List ℕ × X)) → find (slice_cmp nat_cmp) q es ≡ lookup (bytes_eq q) es
  find-lookup q [] = refl
  find-lookup q (e ∷ es) = ap (λ b. cond b (Some e.1) (find (slice_cmp nat_cmp) q es)) (is_eq-slice_cmp q e.0) ∙ ap (cond (bytes_eq q e.0) (Some e.1)) (find-lookup q es)

  pub get-insert : (m : FinMap (slice_cmp nat_cmp) X) (key : List ℕ) (x : X) (q : List ℕ) → finite.get (finite.insert m key x) q ≡ cond (bytes_eq q key) (Some x) (finite.get m q)
  get-insert m key x q = finite.get-insert nat_list_cmp_total m key x q ∙ ap (λ b. cond b (Some x) (finite.get m q)) (is_eq-slice_cmp q key)

  pub get-remove : (m : FinMap (slice_cmp nat_cmp) X) (key q : List ℕ) → finite.get (finite.remove m key) q ≡ cond (bytes_eq q key) None (finite.get m q)
  get-remove m key q = finite.get-remove nat_list_cmp_total m key q ∙ ap (λ b. cond b None (finite.get m q)) (is_eq-slice_cmp q key)

  back_at : (m : FinMap (slice_cmp nat_cmp) X) (key : List ℕ) (x : X) → finite.get m key ≡ Some x → (q : List ℕ) (b : Bool) → bytes_eq q key ≡ b → cond b (Some x) (cond b None (finite.get m q)) ≡ finite.get m q
  back_at m key x found q true e = sym (ap (finite.get m) (same_key q key e) ∙ found)
  back_at m key x found q false e = refl

  -- an entry that was taken out and is put back
  pub put_back : (m : FinMap (slice_cmp nat_cmp) X) (key : List ℕ) (x : X) → finite.get m key ≡ Some x → finite.insert (finite.remove m key) key x ≡ m
  put_back m key x found = same_map _ _ (λ q. get-insert (finite.remove m key) key x q ∙ ap (cond (bytes_eq q key) (Some x)) (get-remove m key q) ∙ back_at m key x found q (bytes_eq q key) refl)

  pub not_found : (x : X) → ¬ (◌≡◌ {A = Option X} None (Some x))
  not_found x e = cc

  -- what was put into one map is put into an equal one
  pub insert_same : (m n r : FinMap (slice_cmp nat_cmp) X) (q k : List ℕ) (x y : X) → r ≡ finite.insert n k x → k ≡ q → n ≡ m → Some x ≡ Some y → r ≡ finite.insert m q y
  insert_same m n r q k x y put key map item = put ∙ (let same : x ≡ y = cc in λ i. finite.insert (map i) (key i) (same i))

  -- a place by its own key
  pub place_of : (q k : List ℕ) (x y : X) → bytes_eq q k ≡ true → Some x ≡ Some y → ◌≡◌ {A = List ℕ × X} (k, x) (q, y)
  place_of q k x y same e = let key : q ≡ k = same_key q k same in let item : x ≡ y = cc in cc

-- whether two keys have the same bytes
abbrev pub same_bytes : {K : Type 0} → (K → List ℕ) → K → K → Bool
same_bytes bytes a b = bytes_eq (bytes a) (bytes b)

module _ {K X : Type 0} (bytes : K → List ℕ) where
  pub get-map_by_bytes : (es : List (K × X)) (q : List ℕ) → finite.get (map_by_bytes bytes es) q ≡ lookup (has_bytes bytes q) es
  get-map_by_bytes es q = finite.get-from_entries nat_list_cmp_total (by_bytes bytes es) q ∙ find-lookup q (by_bytes bytes es) ∙ lookup-by_bytes bytes q es

  kept : (key : List ℕ) (es fs : List (K × X)) → KeepsOthers (same_bytes bytes) (has_bytes bytes key) es fs → (q : List ℕ) → bytes_eq q key ≡ false → lookup (has_bytes bytes q) fs ≡ lookup (has_bytes bytes q) es
  unfolding KeepsOthers
  kept key es fs keeps q apart =
      keeps (has_bytes bytes q) (λ x y e. nat_list_eq_equiv.congr q (bytes x) (bytes y) e) (λ k e. subst (λ b. bytes_eq q b ≡ false) (same_key key (bytes k) e) apart)

  -- what a look-up finds after a change at the key
  changed_at : (key : List ℕ) (es fs : List (K × X)) (w : Option X) → lookup (has_bytes bytes key) fs ≡ w → KeepsOthers (same_bytes bytes) (has_bytes bytes key) es fs
      → (q : List ℕ) (b : Bool) → bytes_eq q key ≡ b → lookup (has_bytes bytes q) fs ≡ cond b w (lookup (has_bytes bytes q) es)
  changed_at key es fs w found keeps q true e = subst (λ k. lookup (has_bytes bytes k) fs ≡ w) (sym (same_key q key e)) found
  changed_at key es fs w found keeps q false e = kept key es fs keeps q e

  changed : (key : List ℕ) (es fs : List (K × X)) (w : Option X) → lookup (has_bytes bytes key) fs ≡ w → KeepsOthers (same_bytes bytes) (has_bytes bytes key) es fs
      → (q : List ℕ) → finite.get (map_by_bytes bytes fs) q ≡ cond (bytes_eq q key) w (finite.get (map_by_bytes bytes es) q)
  changed key es fs w found keeps q =
      get-map_by_bytes fs q ∙ changed_at key es fs w found keeps q (bytes_eq q key) refl ∙ ap (cond (bytes_eq q key) w) (sym (get-map_by_bytes es q))

  pub inserted : (key : List ℕ) (x : X) (es fs : List (K × X)) → lookup (has_bytes bytes key) fs ≡ Some x → KeepsOthers (same_bytes bytes) (has_bytes bytes key) es fs → map_by_bytes bytes fs ≡ finite.insert (map_by_bytes bytes es) key x
  inserted key x es fs found keeps = same_map _ _ (λ q. changed key es fs (Some x) found keeps q ∙ sym (get-insert (map_by_bytes bytes es) key x q))

  pub removed : (key : List ℕ) (es fs : List (K × X)) → lookup (has_bytes bytes key) fs ≡ None → KeepsOthers (same_bytes bytes) (has_bytes bytes key) es fs → map_by_bytes bytes fs ≡ finite.remove (map_by_bytes bytes es) key
  removed key es fs found keeps = same_map _ _ (λ q. changed key es fs None found keeps q ∙ sym (get-remove (map_by_bytes bytes es) key q))

  module _ (es fs : List (K × X)) (alike : (k : K) → lookup (same_bytes bytes k) fs ≡ lookup (same_bytes bytes k) es) where
    -- the two find the same at the bytes of a key that one of them has
    alike_at : (q : List ℕ) (k : K) → has_bytes bytes q k ≡ true → lookup (has_bytes bytes q) fs ≡ lookup (has_bytes bytes q) es
    alike_at q k e = subst (λ b. lookup (has_bytes bytes b) fs ≡ lookup (has_bytes bytes b) es) (sym (same_key q (bytes k) e)) (alike k)

    alike_by : (q : List ℕ) (a b : Option X) → lookup (has_bytes bytes q) es ≡ a → lookup (has_bytes bytes q) fs ≡ b → lookup (has_bytes bytes q) fs ≡ lookup (has_bytes bytes q) es
    alike_by q (Some x) b e f = let place = place_from_lookup (has_bytes bytes q) es x e in alike_at q place.1 place.3
    alike_by q None (Some y) e f = let place = place_from_lookup (has_bytes bytes q) fs y f in alike_at q place.1 place.3
    alike_by q None None e f = f ∙ sym e

    pub reordered : map_by_bytes bytes fs ≡ map_by_bytes bytes es
    reordered = same_map _ _ (λ q. get-map_by_bytes fs q ∙ alike_by q _ _ refl refl ∙ sym (get-map_by_bytes es q))

  abbrev refilled_by : List ℕ → X → FinMap (slice_cmp nat_cmp) X → Option X → FinMap (slice_cmp nat_cmp) X
  refilled_by key x m found = cond (is_some found) (finite.insert m key x) m

  set_at : (key : List ℕ) (x : X) (es : List (List ℕ × X)) → IsSome (lookup (bytes_eq key) es) → (q : List ℕ) (b : Bool) → bytes_eq q key ≡ b → lookup (bytes_eq q) (set_value (bytes_eq key) es x) ≡ cond b (Some x) (lookup (bytes_eq q) es)
  set_at key x es there q true e = subst (λ k. lookup (bytes_eq k) (set_value (bytes_eq key) es x) ≡ Some x) (sym (same_key q key e)) (lookup-set_value key x es there)
  set_at key x es there q false e = lookup-set_value_apart key q x es e

  get-of : (es : List (List ℕ × X)) (q : List ℕ) → finite.get (finite.from_entries {R = slice_cmp nat_cmp} es) q ≡ lookup (bytes_eq q) es
  get-of es q = finite.get-from_entries nat_list_cmp_total es q ∙ find-lookup q es

  set_by : (key : List ℕ) (x : X) (es : List (List ℕ × X)) (found : Option X) → lookup (bytes_eq key) es ≡ found → finite.from_entries {R = slice_cmp nat_cmp} (set_value (bytes_eq key) es x) ≡ refilled_by key x (finite.from_entries es) found
  set_by key x es None e = ap (finite.from_entries {R = slice_cmp nat_cmp}) (set_value-absent (bytes_eq key) es x e)
  set_by key x es (Some old) e =
      same_map _ _ (λ q. get-of (set_value (bytes_eq key) es x) q ∙ set_at key x es (ap is_some e) q (bytes_eq q key) refl
      ∙ ap (cond (bytes_eq q key) (Some x)) (sym (get-of es q)) ∙ sym (get-insert (finite.from_entries es) key x q))

  pub replaced : (key : List ℕ) (x : X) (es : List (K × X)) → map_by_bytes bytes (set_value (has_bytes bytes key) es x) ≡ refilled_by key x (map_by_bytes bytes es) (finite.get (map_by_bytes bytes es) key)
  replaced key x es =
      ap (finite.from_entries {R = slice_cmp nat_cmp}) (set_value-by_bytes bytes key es x) ∙ set_by key x (by_bytes bytes es) _ refl
      ∙ ap (refilled_by key x (map_by_bytes bytes es)) (sym (get-of (by_bytes bytes es) key))

  -- distinct keys have distinct bytes
  apart_bytes : (k : K) (es : List (K × X)) → AllByRecursion (λ other. same_bytes bytes k other ≡ false) (keys_of es) → AllByRecursion (λ other. bytes_eq (bytes k) other ≡ false) (keys_of (by_bytes bytes es))
  apart_bytes k [] all = tt
  apart_bytes k (e ∷ es) all = (all.0, apart_bytes k es all.1)

  AreApart-by_bytes : (es : List (K × X)) → IsDistinct (same_bytes bytes) (keys_of es) → AreApart (by_bytes bytes es)
  AreApart-by_bytes [] apart = IsDistinct-nil bytes_eq
  AreApart-by_bytes (e ∷ es) apart =
      IsDistinct-cons bytes_eq (bytes e.0) (keys_of (by_bytes bytes es)) (apart_bytes e.0 es (IsDistinct-head (same_bytes bytes) e.0 (keys_of es) apart)) (AreApart-by_bytes es (IsDistinct-tail (same_bytes bytes) e.0 (keys_of es) apart))

  len-of : (es : List (List ℕ × X)) → AreApart es → finite.len (finite.from_entries {R = slice_cmp nat_cmp} es) ≡ length es
  len-of [] apart = finite.len-empty (slice_cmp nat_cmp) X
  len-of (e ∷ es) apart =
      let rest = len-of es (AreApart-tail e es apart) in
      let m = finite.from_entries {R = slice_cmp nat_cmp} es in
      let none : finite.get m e.0 ≡ None = get-of es e.0 ∙ IsAbsent-head e es apart in
      let more : finite.len m + 1 ≡ length (e ∷ es) = omega (arith, rest) in
      finite.len-insert nat_list_cmp_total m e.0 e.1 ∙ ap (λ o. cond (is_some o) (finite.len m) (finite.len m + 1)) none ∙ more

  pub len-map_by_bytes : (es : List (K × X)) → IsDistinct (same_bytes bytes) (keys_of es) → finite.len (map_by_bytes bytes es) ≡ length es
  len-map_by_bytes es apart = len-of (by_bytes bytes es) (AreApart-by_bytes es apart) ∙ length-map es (entry_by_bytes bytes)
