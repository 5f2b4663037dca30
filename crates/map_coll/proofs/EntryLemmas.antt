-- The entries of a table, and the pairs of bytes that they show.
use Rattle.std.proofs.Common.{◌≡◌, ℕ, zero, suc, Bool, true, false, cond, ◌||◌, List, [], ◌∷◌, ◌++◌, map, length, remove, drop, take, All, slice_get, unwrap_or, is_some, None, Some, Result, Ok, IfOk, refl, ap, sym, ◌∙◌, subst}
use Rattle.std.specs.List.{list_any}
use Rattle.std.specs.Option.{option_map}
use Rattle.std.proofs.lemmas.Option.{slice_get-map}
use Rattle.std.proofs.lemmas.Bool.{false≢true}
use Rattle.std.specs.Map.{keys_of, values_of, lookup}
use Rattle.std.proofs.lemmas.List.Elements.{All-append, All-take, All-drop, All-cons, All-head, All-tail, All-nil, All-map}
use Rattle.indexmap.specs.IndexMap.{IndexMap, insert_entry, set_value_at}
use Rattle.arc_core.specs.MapReading.{with_value_at}
use Rattle.arc_core.proofs.MappedLists.{push_seen}
use Rattle.indexmap.proofs.CallerLemmas.{insert_entry-new}

module _ {K V F W : Type 0} (field : K → F) (value : V → W) where
  -- the pairs that the entries show
  abbrev pub shown : List (K × V) → List (F × W)
  shown es = map (λ e. (field e.0, value e.1)) es

  -- their fields
  pub fields_seen : (es : List (K × V)) (pairs : List (F × W)) → shown es ≡ pairs
      → map field (keys_of es) ≡ map (λ (pair : F × W). pair.0) pairs
  fields_seen es pairs seen = of_entries es ∙ ap (map (λ (pair : F × W). pair.0)) seen
    where
      of_entries : (es : List (K × V)) → map field (keys_of es) ≡ map (λ (pair : F × W). pair.0) (shown es)
      of_entries [] = refl
      of_entries (e ∷ es) = ap (λ l. field e.0 ∷ l) (of_entries es)

  -- one more pair at the end
  pub pair_pushed : (es : List (K × V)) (pairs : List (F × W)) → shown es ≡ pairs
      → (new : List (K × V)) (k : K) (v : V) (f : F) → field k ≡ f → new ≡ es ++ (k, v) ∷ [] → shown new ≡ pairs ++ (f, value v) ∷ []
  pair_pushed es pairs seen new k v f at pushed =
      push_seen (λ e. (field e.0, value e.1)) es pairs seen new (k, v) pushed ∙ ap (λ f. pairs ++ (f, value v) ∷ []) at

  -- another value that shows the same leaves the pairs
  pub same_shown : (es : List (K × V)) (i : ℕ) (held w : V) → slice_get (values_of es) i ≡ Some held → value w ≡ value held
      → shown (set_value_at es i w) ≡ shown es
  same_shown [] i held w at same = refl
  same_shown (e ∷ es) zero held w at same =
      let first : e.1 ≡ held = ap (λ o. unwrap_or o held) at in
      ap (λ x. (field e.0, x) ∷ shown es) (same ∙ ap value (sym first))
  same_shown (e ∷ es) (suc i) held w at same = ap (λ l. (field e.0, value e.1) ∷ l) (same_shown es i held w at same)

  -- what holds of each field holds for all entries that show the same pairs
  pub fields_keep : (Q : F → Type 0) (es new : List (K × V)) → shown new ≡ shown es → All (λ e. Q (field e.0)) es → All (λ e. Q (field e.0)) new
  fields_keep Q es new same all =
      from_shown new (subst (All (λ (pair : F × W). Q pair.0)) (sym same) (All-map (λ (pair : F × W). Q pair.0) (λ e. (field e.0, value e.1)) es all))
    where
      from_shown : (es : List (K × V)) → All (λ (pair : F × W). Q pair.0) (shown es) → All (λ e. Q (field e.0)) es
      from_shown [] all = All-nil (λ e. Q (field e.0))
      from_shown (e ∷ es) all =
          All-cons (λ e. Q (field e.0)) e es (All-head (λ (pair : F × W). Q pair.0) _ (shown es) all)
          (from_shown es (All-tail (λ (pair : F × W). Q pair.0) _ (shown es) all))

-- no value is found where no key passes
lookup_absent : {K V : Type 0} (t : K → Bool) (es : List (K × V)) → list_any t (keys_of es) ≡ false → lookup t es ≡ None
lookup_absent t [] absent = refl
lookup_absent t (e ∷ es) absent = by (t e.0) absent (lookup_absent t es)
  where
    by : (b : Bool) → (b || list_any t (keys_of es)) ≡ false → (list_any t (keys_of es) ≡ false → lookup t es ≡ None)
        → cond b (Some e.1) (lookup t es) ≡ None
    by true absent rest = cc
    by false absent rest = rest absent

-- the entries after an insert that found no equal key
pub inserted_last : {K V S R E : Type 0} (eq : K → K → Bool) (m : IndexMap K V S) (new : List (K × V)) (k : K) (v : V) (r : Result R E) (a : R)
    → r ≡ Ok a → IfOk r (λ _. new ≡ insert_entry eq m.entries k v) → list_any (eq k) (keys_of m.entries) ≡ false
    → new ≡ m.entries ++ (k, v) ∷ []
inserted_last eq m new k v r a ok inserted absent =
    let P : Result _ _ → Type 0 = λ r. IfOk r (λ _. new ≡ insert_entry eq m.entries k v) in
    subst P ok inserted ∙ insert_entry-new eq m k v (lookup_absent (eq k) m.entries absent)

-- what holds of all holds of those that a removal leaves
pub All-remove : {X : Type 0} (P : X → Type 0) (xs : List X) (i : ℕ) → All P xs → All P (remove xs i)
All-remove P xs i all = All-append P (take i xs) (drop (suc i) xs) (All-take P i xs all) (All-drop P (suc i) xs all)

-- what holds of each entry holds after a value is replaced, where it holds of each key with the new value
pub All-set_value_at : {K V : Type 0} (P : K × V → Type 0) (es : List (K × V)) (i : ℕ) (w : V)
    → ((k : K) (v : V) → P (k, v) → P (k, w)) → All P es → All P (set_value_at es i w)
All-set_value_at P [] i w keeps all = all
All-set_value_at P (e ∷ es) zero w keeps all = All-cons P (e.0, w) es (keeps e.0 e.1 (All-head P e es all)) (All-tail P e es all)
All-set_value_at P (e ∷ es) (suc i) w keeps all =
    All-cons P e (set_value_at es i w) (All-head P e es all) (All-set_value_at P es i w keeps (All-tail P e es all))

-- what holds of each entry's value holds of the value at a place
pub All-value_at : {K V : Type 0} (Q : V → Type 0) (es : List (K × V)) (i : ℕ) (held : V)
    → slice_get (values_of es) i ≡ Some held → All (λ e. Q e.1) es → Q held
All-value_at Q [] i held at all = absurd (false≢true (ap is_some at))
All-value_at Q (e ∷ es) zero held at all = subst Q (ap (λ o. unwrap_or o held) at) (All-head (λ e. Q e.1) e es all)
All-value_at Q (e ∷ es) (suc i) held at all = All-value_at Q es i held at (All-tail (λ e. Q e.1) e es all)

-- a replaced value keeps the number of entries
pub length-set_value_at : {K V : Type 0} (es : List (K × V)) (i : ℕ) (w : V) → length (set_value_at es i w) ≡ length es
length-set_value_at [] i w = refl
length-set_value_at (e ∷ es) zero w = refl
length-set_value_at (e ∷ es) (suc i) w = ap suc (length-set_value_at es i w)

module _ {K V : Type 0} (field : K → List ℕ) (value : V → List ℕ) where
  with_value_at-map : (es : List (K × V)) (i : ℕ) (w : V) → shown field value (set_value_at es i w) ≡ with_value_at (shown field value es) i (value w)
  with_value_at-map [] i w = refl
  with_value_at-map (e ∷ es) zero w = refl
  with_value_at-map (e ∷ es) (suc i) w = ap (λ l. (field e.0, value e.1) ∷ l) (with_value_at-map es i w)

  -- a replaced value keeps its place among the pairs
  pub value_replaced : (es : List (K × V)) (pairs : List (List ℕ × List ℕ)) → shown field value es ≡ pairs
      → (i : ℕ) (w : V) (new : List ℕ) → value w ≡ new → shown field value (set_value_at es i w) ≡ with_value_at pairs i new
  value_replaced es pairs seen i w new is = with_value_at-map es i w ∙ ap (λ l. with_value_at l i (value w)) seen ∙ ap (with_value_at pairs i) is

  -- the value at a place
  pub value_at : (es : List (K × V)) (pairs : List (List ℕ × List ℕ)) → shown field value es ≡ pairs
      → (i : ℕ) (held : V) (old : List ℕ) → slice_get (values_of es) i ≡ Some held → old ≡ value held
      → option_map (λ pair. pair.1) (slice_get pairs i) ≡ Some old
  value_at es pairs seen i held old at is =
      sym (slice_get-map (λ (pair : List ℕ × List ℕ). pair.1) pairs i)
      ∙ ap (λ l. slice_get l i) (sym values_seen)
      ∙ slice_get-map value (values_of es) i
      ∙ ap (option_map value) at
      ∙ ap Some (sym is)
    where
      of_entries : (es : List (K × V)) → map value (values_of es) ≡ map (λ (pair : List ℕ × List ℕ). pair.1) (shown field value es)
      of_entries [] = refl
      of_entries (e ∷ es) = ap (λ l. value e.1 ∷ l) (of_entries es)

      values_seen : map value (values_of es) ≡ map (λ (pair : List ℕ × List ℕ). pair.1) pairs
      values_seen = of_entries es ∙ ap (map (λ (pair : List ℕ × List ℕ). pair.1)) seen
