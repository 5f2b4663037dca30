-- A table by the numbers of its names: what its words say of the names.
use Rattle.std.proofs.Common.{◌≡◌, ℕ, ◌+◌, ◌-◌, ◌<◌, ◌≤◌, true, false, cond, List, [], ◌∷◌, ◌++◌, length, take, Option, Some, None, IfSome, option_map, nat_eq, bytes_eq, Contains, ◌⊎◌, inl, inr, refl, sym, ap, ◌∙◌, subst, arith}
use Rattle.std.specs.Option.{option_map_or}
use Rattle.std.specs.List.{AllByRecursion, IsDistinct}
use Rattle.std.specs.Cmp.{nat_eq_equiv}
use Rattle.std.specs.Cmp.Lexicographic.{nat_list_eq_equiv}
use Rattle.std.specs.Map.{keys_of, lookup, lookup_entry, remove_entry, set_value}
use Rattle.std.proofs.lemmas.Bool.{eqb-true}
use Rattle.std.proofs.lemmas.List.{map-append, take-map, length-map}
use Rattle.std.proofs.lemmas.List.Sums.{sum_by_push}
use Rattle.std.proofs.lemmas.Map.Keys.{IsDistinct-head, IsDistinct-tail}
use Rattle.std.proofs.lemmas.Map.Views.{lookup-from_Contains, Contains-from_lookup}
use Rattle.lru.specs.LruCache.{LruCache, lru_cache, last_entry, promoted, demoted, put_entries}
use Rattle.lru.proofs.CallerLemmas.{Contains-take, Contains-remove_entry, Contains-promoted, Contains-demoted}
use Rattle.lru.proofs.Splits.{Contains-head, Contains-tail, Contains-cons, Contains-nil}
use Rattle.arc_core.specs.Places.{others, to_front, weight_of}
use Rattle.byte_account.specs.Eviction.{to_back}
use Rattle.byte_account.specs.Numbers.{name_hash, nth_number, entry_by_name, by_names, IsNumbered, IsUnder}
use Rattle.byte_account.proofs.ByBytesLemmas.{cond_ap}
use Rattle.byte_account.proofs.LruLemmas.{put_entries-new}
use Rattle.byte_account.proofs.EvictionLemmas.{AreApart-take, AreApart-to_back, last_split}
use Rattle.byte_account.proofs.ShelfLists.{AreApart, AreApart-cons, AreApart-others, AreApart-to_front, AreApart-set_value, IsAbsent, IsDistinct-nil, same_key, own_key, remove_entry-others}

module _ {V : Type 0} where
  -- what is found under a number is its entry
  pub lookup_entry-found : (n : ℕ) (v : V) (es : List (ℕ × V)) → lookup (nat_eq n) es ≡ Some v → lookup_entry (nat_eq n) es ≡ Some (n, v)
  lookup_entry-found n v [] here = absurd (cc)
  lookup_entry-found n v (e ∷ es) here =
      (elim (nat_eq n e.0) as (λ b. (b ≡ true → n ≡ e.0) → cond b (Some e.1) (lookup (nat_eq n) es) ≡ Some v → cond b (Some e) (lookup_entry (nat_eq n) es) ≡ Some (n, v)) [
        | true ↦ λ same h. let value : e.1 ≡ v = cc in ap (λ m. Some (m, e.1)) (sym (same refl)) ∙ ap (λ w. Some (n, w)) value
        | false ↦ λ same h. lookup_entry-found n v es h
      ]) (eqb-true n e.0) here

  pub Contains-found : (n : ℕ) (v : V) (es : List (ℕ × V)) → lookup (nat_eq n) es ≡ Some v → Contains es (n, v)
  Contains-found n v es here = Contains-from_lookup eqb-true n v es here

  -- what is said of the value that is found, where there is one
  pub of_found : (P : V → Type 0) (found : Option V) (v : V) → found ≡ Some v → IfSome found P → P v
  of_found P found v is holds = subst (λ o. IfSome o P) is holds

  -- what is an entry after a value is set was one before, or is the one that was set
  Contains-set_value : (n : ℕ) (w : V) (es : List (ℕ × V)) (e : ℕ × V) → Contains (set_value (nat_eq n) es w) e → Contains es e ⊎ ((n ≡ e.0) × (w ≡ e.1))
  Contains-set_value n w [] e c = inl c
  Contains-set_value n w (f ∷ es) e c =
      (elim (nat_eq n f.0) as (λ b. (b ≡ true → n ≡ f.0) → Contains (cond b ((f.0, w) ∷ es) (f ∷ set_value (nat_eq n) es w)) e → Contains (f ∷ es) e ⊎ ((n ≡ e.0) × (w ≡ e.1))) [
        | true ↦ λ same d. elim (Contains-cons (f.0, w) es e d) [
          | inl is ↦ inr (same refl ∙ ap (λ g. g.0) is, ap (λ g. g.1) is)
          | inr later ↦ inl (Contains-tail f es e later)
        ]
        | false ↦ λ same d. elim (Contains-cons f (set_value (nat_eq n) es w) e d) [
          | inl is ↦ inl (subst (Contains (f ∷ es)) is (Contains-head f es))
          | inr later ↦ elim (Contains-set_value n w es e later) [ inl there ↦ inl (Contains-tail f es e there) | inr set ↦ inr set ]
        ]
      ]) (eqb-true n f.0) c

module _ {V X : Type 0} (name : V → List ℕ) (place : V → X) where
  -- whether an entry has the number is whether it has the name
  abbrev pub IsOneTest : ℕ → List ℕ → List (ℕ × V) → Type 0
  IsOneTest n key es = AllByRecursion (λ e. nat_eq n e.0 ≡ bytes_eq key (name e.1)) es

  none_has : (n : ℕ) (key : List ℕ) (es : List (ℕ × V)) → AllByRecursion (λ y. nat_eq n y ≡ false) (keys_of es) → AllByRecursion (λ y. bytes_eq key y ≡ false) (keys_of (by_names name place es)) → IsOneTest n key es
  none_has n key [] numbers names = tt
  none_has n key (e ∷ es) numbers names = (numbers.0 ∙ sym names.0, none_has n key es numbers.1 names.1)

  differs : (n : ℕ) (other : List ℕ) (v : V) (es : List (ℕ × V)) → lookup (nat_eq n) es ≡ Some v → AllByRecursion (λ y. bytes_eq other y ≡ false) (keys_of (by_names name place es)) → bytes_eq other (name v) ≡ false
  differs n other v [] here names = absurd (cc)
  differs n other v (e ∷ es) here names =
      (elim (nat_eq n e.0) as (λ b. cond b (Some e.1) (lookup (nat_eq n) es) ≡ Some v → bytes_eq other (name v) ≡ false) [
        | true ↦ λ h. let same : e.1 ≡ v = cc in subst (λ w. bytes_eq other (name w) ≡ false) same names.0
        | false ↦ λ h. differs n other v es h names.1
      ]) here

  -- of the entries of distinct numbers and names, those with a number are those with the name that is found under it
  pub one_test : (n : ℕ) (v : V) (es : List (ℕ × V)) → IsDistinct nat_eq (keys_of es) → AreApart (by_names name place es) → lookup (nat_eq n) es ≡ Some v → IsOneTest n (name v) es
  one_test n v [] numbers names here = tt
  one_test n v (e ∷ es) numbers names here =
      let others_number = IsDistinct-head nat_eq e.0 (keys_of es) numbers in
      let others_name = IsDistinct-head bytes_eq (name e.1) (keys_of (by_names name place es)) names in
      (elim (nat_eq n e.0) as (λ b. (b ≡ true → n ≡ e.0) → nat_eq n e.0 ≡ b → cond b (Some e.1) (lookup (nat_eq n) es) ≡ Some v → IsOneTest n (name v) (e ∷ es)) [
        | true ↦ λ same is h.
            let value : e.1 ≡ v = cc in (
              is ∙ sym (subst (λ w. bytes_eq (name w) (name e.1) ≡ true) value (own_key (name e.1))),
              none_has n (name v) es (subst (λ m. AllByRecursion (λ y. nat_eq m y ≡ false) (keys_of es)) (sym (same refl)) others_number)
                  (subst (λ w. AllByRecursion (λ y. bytes_eq (name w) y ≡ false) (keys_of (by_names name place es))) value others_name),
            )
        | false ↦ λ same is h. (
          is ∙ sym (nat_list_eq_equiv.symm (name v) (name e.1) ∙ differs n (name e.1) v es h others_name),
          one_test n v es (IsDistinct-tail nat_eq e.0 (keys_of es) numbers) (IsDistinct-tail bytes_eq (name e.1) (keys_of (by_names name place es)) names) h,
        )
      ]) (eqb-true n e.0) refl here

  pub is_under : (n : ℕ) (key : List ℕ) (v : V) (es : List (ℕ × V)) → IsDistinct nat_eq (keys_of es) → AreApart (by_names name place es) → lookup (nat_eq n) es ≡ Some v → name v ≡ key → IsUnder name n key v es
  is_under n key v es numbers names here named = record { here = here; named = named; alone = subst (λ k. IsOneTest n k es) named (one_test n v es numbers names here) }

  module _ (n : ℕ) (key : List ℕ) where
    lookup-one : (es : List (ℕ × V)) → IsOneTest n key es → lookup (bytes_eq key) (by_names name place es) ≡ option_map place (lookup (nat_eq n) es)
    lookup-one [] one = refl
    lookup-one (e ∷ es) one =
        ap (cond (bytes_eq key (name e.1)) (Some (place e.1))) (lookup-one es one.1)
        ∙ ap (λ b. cond b (Some (place e.1)) (option_map place (lookup (nat_eq n) es))) (sym one.0)
        ∙ sym (cond_ap (option_map place) (nat_eq n e.0) (Some e.1) (lookup (nat_eq n) es))

    remove_entry-one : (es : List (ℕ × V)) → IsOneTest n key es → by_names name place (remove_entry (nat_eq n) es) ≡ remove_entry (bytes_eq key) (by_names name place es)
    remove_entry-one [] one = refl
    remove_entry-one (e ∷ es) one =
        cond_ap (by_names name place) (nat_eq n e.0) es (e ∷ remove_entry (nat_eq n) es)
        ∙ ap (λ rest. cond (nat_eq n e.0) (by_names name place es) (entry_by_name name place e ∷ rest)) (remove_entry-one es one.1)
        ∙ ap (λ b. cond b (by_names name place es) (entry_by_name name place e ∷ remove_entry (bytes_eq key) (by_names name place es))) one.0

    set_value-one : (w : V) (es : List (ℕ × V)) → name w ≡ key → IsOneTest n key es → by_names name place (set_value (nat_eq n) es w) ≡ set_value (bytes_eq key) (by_names name place es) (place w)
    set_value-one w [] named one = refl
    set_value-one w (e ∷ es) named one =
        let rest = by_names name place es in
        let later = set_value (bytes_eq key) rest (place w) in
        let own : bytes_eq key (name e.1) ≡ true → name w ≡ name e.1 = λ h. named ∙ same_key key (name e.1) h in
        cond_ap (by_names name place) (nat_eq n e.0) ((e.0, w) ∷ es) (e ∷ set_value (nat_eq n) es w)
        ∙ ap (λ xs. cond (nat_eq n e.0) ((name w, place w) ∷ rest) (entry_by_name name place e ∷ xs)) (set_value-one w es named one.1)
        ∙ ap (λ b. cond b ((name w, place w) ∷ rest) (entry_by_name name place e ∷ later)) one.0
        ∙ (elim (bytes_eq key (name e.1)) as (λ b. (b ≡ true → name w ≡ name e.1) → cond b ((name w, place w) ∷ rest) (entry_by_name name place e ∷ later) ≡ cond b ((name e.1, place w) ∷ rest) (entry_by_name name place e ∷ later)) [
          | true ↦ λ h. ap (λ k. (k, place w) ∷ rest) (h refl)
          | false ↦ λ h. refl
        ]) own

    module _ (v : V) (es : List (ℕ × V)) (under : IsUnder name n key v es) where
      -- what stands under the number stands under the name
      pub lookup-under : lookup (bytes_eq key) (by_names name place es) ≡ Some (place v)
      lookup-under = lookup-one es under.alone ∙ ap (option_map place) under.here

      pub set_value-under : (w : V) → name w ≡ key → by_names name place (set_value (nat_eq n) es w) ≡ set_value (bytes_eq key) (by_names name place es) (place w)
      set_value-under w named = set_value-one w es named under.alone

      module _ (apart : AreApart (by_names name place es)) where
        pub remove_entry-under : by_names name place (remove_entry (nat_eq n) es) ≡ others key (by_names name place es)
        remove_entry-under = remove_entry-one es under.alone ∙ remove_entry-others key (by_names name place es) apart

        pub promoted-under : by_names name place (promoted (nat_eq n) es) ≡ to_front key (by_names name place es)
        promoted-under =
            ap (λ found. by_names name place (option_map_or (λ e. e ∷ remove_entry (nat_eq n) es) found es)) (lookup_entry-found n v es under.here)
            ∙ ap (λ rest. (name v, place v) ∷ rest) remove_entry-under
            ∙ ap (λ k. (k, place v) ∷ others key (by_names name place es)) under.named
            ∙ sym (ap (λ found. option_map_or (λ x. (key, x) ∷ others key (by_names name place es)) found (by_names name place es)) lookup-under)

        pub demoted-under : by_names name place (demoted (nat_eq n) es) ≡ to_back key (by_names name place es)
        demoted-under =
            ap (λ found. by_names name place (option_map_or (λ e. remove_entry (nat_eq n) es ++ e ∷ []) found es)) (lookup_entry-found n v es under.here)
            ∙ map-append (entry_by_name name place) (remove_entry (nat_eq n) es) ((n, v) ∷ [])
            ∙ ap (λ rest. rest ++ (name v, place v) ∷ []) remove_entry-under
            ∙ ap (λ k. others key (by_names name place es) ++ (k, place v) ∷ []) under.named
            ∙ sym (ap (λ found. option_map_or (λ x. others key (by_names name place es) ++ (key, x) ∷ []) found (by_names name place es)) lookup-under)

  -- a place under a name is an entry with that name
  entry_of : (key : List ℕ) (x : X) (es : List (ℕ × V)) → lookup (bytes_eq key) (by_names name place es) ≡ Some x → (e : ℕ × V) × Contains es e × (bytes_eq key (name e.1) ≡ true)
  entry_of key x [] there = absurd (cc)
  entry_of key x (e ∷ es) there =
      (elim (bytes_eq key (name e.1)) as (λ b. bytes_eq key (name e.1) ≡ b → cond b (Some (place e.1)) (lookup (bytes_eq key) (by_names name place es)) ≡ Some x → (f : ℕ × V) × Contains (e ∷ es) f × (bytes_eq key (name f.1) ≡ true)) [
        | true ↦ λ is h. (e, Contains-head e es, is)
        | false ↦ λ is h. let later = entry_of key x es h in (later.0, Contains-tail e es later.0 later.1, later.2)
      ]) refl there

  -- under this number there is nothing, or another name
  abbrev pub IsElsewhere : List ℕ → List (ℕ × V) → ℕ → Type 0
  IsElsewhere key es n = IfSome (lookup (nat_eq n) es) (λ v. bytes_eq key (name v) ≡ false)

  absent_at : (key : List ℕ) (tries : ℕ) (es : List (ℕ × V)) → IsDistinct nat_eq (keys_of es) → IsNumbered name place tries es → ((k : ℕ) → k < tries → IsElsewhere key es (nth_number (name_hash key) k))
      → (found : Option X) → lookup (bytes_eq key) (by_names name place es) ≡ found → lookup (bytes_eq key) (by_names name place es) ≡ None
  absent_at key tries es distinct numbered tried None is = is
  absent_at key tries es distinct numbered tried (Some x) is =
      let at = entry_of key x es is in
      let e = at.0 in
      let own = numbered.numbers e at.1 in
      let number : e.0 ≡ nth_number (name_hash key) own.0 = own.2 ∙ ap (λ k. nth_number (name_hash k) own.0) (sym (same_key key (name e.1) at.2)) in
      let here : lookup (nat_eq (nth_number (name_hash key) own.0)) es ≡ Some e.1 = subst (λ n. lookup (nat_eq n) es ≡ Some e.1) number (lookup-from_Contains nat_eq_equiv e.0 e.1 es distinct at.1) in
      let other : bytes_eq key (name e.1) ≡ false = subst (λ o. IfSome o (λ v. bytes_eq key (name v) ≡ false)) here (tried own.0 own.1) in
      absurd (let yes = at.2 in cc)

  -- a name that is under none of its numbers has no place
  pub absent : (key : List ℕ) (tries : ℕ) (es : List (ℕ × V)) → IsDistinct nat_eq (keys_of es) → IsNumbered name place tries es → ((k : ℕ) → k < tries → IsElsewhere key es (nth_number (name_hash key) k))
      → lookup (bytes_eq key) (by_names name place es) ≡ None
  absent key tries es distinct numbered tried = absent_at key tries es distinct numbered tried _ refl

  pub numbered-nil : (tries : ℕ) → IsNumbered name place tries []
  numbered-nil tries = record { apart = IsDistinct-nil bytes_eq; numbers = λ e c. absurd (Contains-nil e c) }

  -- what is said of each change of the table is still said of its names and numbers
  module _ (tries : ℕ) (es : List (ℕ × V)) (numbered : IsNumbered name place tries es) where
    pub numbered-take : (m : ℕ) → IsNumbered name place tries (take m es)
    numbered-take m = record {
      apart = subst AreApart (take-map (entry_by_name name place) m es) (AreApart-take m (by_names name place es) numbered.apart);
      numbers = λ e c. numbered.numbers e (Contains-take m es e c);
    }

    numbered-first : (more k : ℕ) (key : List ℕ) (v : V) → name v ≡ key → lookup (bytes_eq key) (by_names name place es) ≡ None → tries ≤ more → k < more → IsNumbered name place more ((nth_number (name_hash key) k, v) ∷ es)
    numbered-first more k key v named absent enough within = record {
      apart = AreApart-cons (name v) (place v) (by_names name place es) (subst (λ q. IsAbsent q (by_names name place es)) (sym named) absent) numbered.apart;
      numbers = λ e c. elim (Contains-cons (nth_number (name_hash key) k, v) es e c) [
        | inl same ↦ (k, within, sym (ap (λ f. f.0) same) ∙ ap (λ q. nth_number (name_hash q) k) (sym named ∙ ap (λ f. name f.1) same))
        | inr later ↦ let own = numbered.numbers e later in (own.0, (let below : own.0 < tries = own.1 in omega arith), own.2)
      ];
    }

    module _ (n : ℕ) (key : List ℕ) (v : V) (under : IsUnder name n key v es) where
      pub numbered-remove : IsNumbered name place tries (remove_entry (nat_eq n) es)
      numbered-remove = record {
        apart = subst AreApart (sym (remove_entry-under n key v es under numbered.apart)) (AreApart-others key (by_names name place es) numbered.apart);
        numbers = λ e c. numbered.numbers e (Contains-remove_entry (nat_eq n) es e c);
      }

      pub numbered-promoted : IsNumbered name place tries (promoted (nat_eq n) es)
      numbered-promoted = record {
        apart = subst AreApart (sym (promoted-under n key v es under numbered.apart)) (AreApart-to_front key (by_names name place es) numbered.apart);
        numbers = λ e c. numbered.numbers e (Contains-promoted (nat_eq n) es e c);
      }

      pub numbered-demoted : IsNumbered name place tries (demoted (nat_eq n) es)
      numbered-demoted = record {
        apart = subst AreApart (sym (demoted-under n key v es under numbered.apart)) (AreApart-to_back key (by_names name place es) numbered.apart);
        numbers = λ e c. numbered.numbers e (Contains-demoted (nat_eq n) es e c);
      }

      pub numbered-set_value : (w : V) → name w ≡ key → IsNumbered name place tries (set_value (nat_eq n) es w)
      numbered-set_value w named = record {
        apart = subst AreApart (sym (set_value-under n key v es under w named)) (AreApart-set_value key (place w) (by_names name place es) numbered.apart);
        numbers = λ e c. elim (Contains-set_value n w es e c) [
          | inl there ↦ numbered.numbers e there
          | inr set ↦
              let own = numbered.numbers (n, v) (Contains-found n v es under.here) in
              (own.0, own.1, sym set.0 ∙ own.2 ∙ ap (λ q. nth_number (name_hash q) own.0) (under.named ∙ sym named ∙ ap name set.1))
        ];
      }

  -- a place under a number that was free, in a table that is not full
  module _ (tries : ℕ) (cache new : LruCache ℕ V) (hash k : ℕ) (key : List ℕ) (v : V) (hashed : hash ≡ name_hash key) (free : lookup (nat_eq (nth_number hash k)) cache.entries ≡ None)
      (room : length cache.entries ≤ cache.cap - 1) (put : new ≡ lru_cache (put_entries nat_eq cache (nth_number hash k) v) cache.cap) where
    put-entries : new.entries ≡ (nth_number (name_hash key) k, v) ∷ cache.entries
    put-entries = ap (λ m. m.entries) put ∙ put_entries-new nat_eq cache (nth_number hash k) v free room ∙ ap (λ h. (nth_number h k, v) ∷ cache.entries) hashed

    pub by_names-put : name v ≡ key → by_names name place new.entries ≡ (key, place v) ∷ by_names name place cache.entries
    by_names-put named = ap (by_names name place) put-entries ∙ ap (λ q. (q, place v) ∷ by_names name place cache.entries) named

    pub numbered-put : IsNumbered name place tries cache.entries → (more : ℕ) → name v ≡ key → lookup (bytes_eq key) (by_names name place cache.entries) ≡ None → tries ≤ more → k < more → IsNumbered name place more new.entries
    numbered-put numbered more named absent enough within = subst (IsNumbered name place more) (sym put-entries) (numbered-first tries cache.entries numbered more k key v named absent enough within)

  pub by_names-push : (es front : List (ℕ × V)) (e : ℕ × V) → es ≡ front ++ e ∷ [] → by_names name place es ≡ by_names name place front ++ entry_by_name name place e ∷ []
  by_names-push es front e h = ap (by_names name place) h ∙ map-append (entry_by_name name place) front (e ∷ [])

  pub by_names-take_front : (es : List (ℕ × V)) → by_names name place (take (length es - 1) es) ≡ take (length (by_names name place es) - 1) (by_names name place es)
  by_names-take_front es = sym (take-map (entry_by_name name place) (length es - 1) es) ∙ ap (λ n. take (n - 1) (by_names name place es)) (sym (length-map es (entry_by_name name place)))

  pub weight-pop : (weigh : List ℕ → X → ℕ) (es : List (ℕ × V)) (e : ℕ × V) → last_entry es ≡ Some e → weight_of weigh (by_names name place (take (length es - 1) es)) + weigh (name e.1) (place e.1) ≡ weight_of weigh (by_names name place es)
  weight-pop weigh es e last =
      let f : List ℕ × X → ℕ = λ p. weigh p.0 p.1 in
      let front = take (length es - 1) es in
      sym (ap (λ xs. weight_of weigh (by_names name place xs)) (last_split es e last) ∙ ap (weight_of weigh) (map-append (entry_by_name name place) front (e ∷ [])) ∙ sum_by_push f (by_names name place front) (entry_by_name name place e))
