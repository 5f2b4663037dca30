-- What the sticky items weigh together, after one comes, goes or is replaced.
use Rattle.std.proofs.Common.{◌≡◌, ℕ, ◌+◌, Bool, true, false, cond, List, [], ◌∷◌, Some, None, Ordering, bytes_eq, refl, sym, ap, ◌∙◌, arith}
use Rattle.std.specs.declared.cmp.Ordering.TheVariants.{Less, Equal, Greater}
use Rattle.std.specs.Ordering.{nat_cmp, is_eq}
use Rattle.std.specs.Cmp.Lexicographic.{slice_cmp, nat_list_cmp_total}
use Rattle.std.specs.FinMap.Entries.{by_order}
use Rattle.std.specs.FinMap.{FinMap, find, put}
use Rattle.std.specs.FinMap as finite
use Rattle.arc_core.specs.Places.{weight_of}
use Rattle.byte_account.proofs.ShelfLists.{weight-cons, same_key, own_key}
use Rattle.byte_account.proofs.StickyMaps.{same_map, get-insert, get-remove, put_back}

module _ {X : Type 0} (weigh : List ℕ → X → ℕ) where
  weight_put_at : (key : List ℕ) (x : X) (e : List ℕ × X) (es rest : List (List ℕ × X)) (order : Ordering) → cond (is_eq order) (Some e.1) (find (slice_cmp nat_cmp) key es) ≡ None
      → (find (slice_cmp nat_cmp) key es ≡ None → weight_of weigh rest ≡ weigh key x + weight_of weigh es)
      → weight_of weigh (by_order order ((key, x) ∷ e ∷ es) ((e.0, x) ∷ es) (e ∷ rest)) ≡ weigh key x + weight_of weigh (e ∷ es)
  weight_put_at key x e es rest Less absent h = weight-cons weigh (key, x) (e ∷ es)
  weight_put_at key x e es rest Equal absent h = absurd (cc)
  weight_put_at key x e es rest Greater absent h = omega (arith, h absent, weight-cons weigh e rest, weight-cons weigh e es)

  weight_put : (key : List ℕ) (x : X) (es : List (List ℕ × X)) → find (slice_cmp nat_cmp) key es ≡ None → weight_of weigh (put (slice_cmp nat_cmp) key x es) ≡ weigh key x + weight_of weigh es
  weight_put key x [] absent = weight-cons weigh (key, x) []
  weight_put key x (e ∷ es) absent = weight_put_at key x e es (put (slice_cmp nat_cmp) key x es) (slice_cmp nat_cmp key e.0) absent (weight_put key x es)

  pub weight-insert_new : (m : FinMap (slice_cmp nat_cmp) X) (key : List ℕ) (x : X) → finite.get m key ≡ None → weight_of weigh (finite.entries (finite.insert m key x)) ≡ weigh key x + weight_of weigh (finite.entries m)
  weight-insert_new m key x absent =
      ap (weight_of weigh) (finite.entries-insert nat_list_cmp_total m key x) ∙ weight_put key x (finite.entries m) (sym (finite.get-entries m key) ∙ absent)

  removed_is_absent : (m : FinMap (slice_cmp nat_cmp) X) (key : List ℕ) → finite.get (finite.remove m key) key ≡ None
  removed_is_absent m key = get-remove m key key ∙ ap (λ b. cond b None (finite.get m key)) (own_key key)

  pub weight-remove : (m : FinMap (slice_cmp nat_cmp) X) (key : List ℕ) (x : X) → finite.get m key ≡ Some x → weight_of weigh (finite.entries (finite.remove m key)) + weigh key x ≡ weight_of weigh (finite.entries m)
  weight-remove m key x found =
      let back = weight-insert_new (finite.remove m key) key x (removed_is_absent m key) in
      omega (arith, back, ap (λ n. weight_of weigh (finite.entries n)) (put_back m key x found))

  insert_at : (m : FinMap (slice_cmp nat_cmp) X) (key : List ℕ) (x : X) (q : List ℕ) (b : Bool) → cond b (Some x) (cond b None (finite.get m q)) ≡ cond b (Some x) (finite.get m q)
  insert_at m key x q true = refl
  insert_at m key x q false = refl

  -- to replace is to take out and put in
  pub insert-replaces : (m : FinMap (slice_cmp nat_cmp) X) (key : List ℕ) (x : X) → finite.insert (finite.remove m key) key x ≡ finite.insert m key x
  insert-replaces m key x =
      same_map _ _ (λ q. get-insert (finite.remove m key) key x q ∙ ap (cond (bytes_eq q key) (Some x)) (get-remove m key q) ∙ insert_at m key x q (bytes_eq q key) ∙ sym (get-insert m key x q))

  pub weight-insert : (m : FinMap (slice_cmp nat_cmp) X) (key : List ℕ) (old x : X) → finite.get m key ≡ Some old
      → weight_of weigh (finite.entries (finite.insert m key x)) + weigh key old ≡ weight_of weigh (finite.entries m) + weigh key x
  weight-insert m key old x found =
      let whole = ap (λ n. weight_of weigh (finite.entries n)) (insert-replaces m key x) in
      omega (arith, whole, weight-insert_new (finite.remove m key) key x (removed_is_absent m key), weight-remove m key old found)

module _ {X : Type 0} where
  absent_at : (m : FinMap (slice_cmp nat_cmp) X) (key : List ℕ) → finite.get m key ≡ None → (q : List ℕ) (b : Bool) → bytes_eq q key ≡ b → cond b None (finite.get m q) ≡ finite.get m q
  absent_at m key absent q true e = sym (ap (finite.get m) (same_key q key e) ∙ absent)
  absent_at m key absent q false e = refl

  pub remove-absent : (m : FinMap (slice_cmp nat_cmp) X) (key : List ℕ) → finite.get m key ≡ None → finite.remove m key ≡ m
  remove-absent m key absent = same_map _ _ (λ q. get-remove m key q ∙ absent_at m key absent q (bytes_eq q key) refl)
