-- Removing the pair of the only field that is named.
use Rattle.std.proofs.Common.{◌≡◌, ◌+◌, ℕ, suc, Bool, true, false, cond, not, ◌||◌, nat_lt, List, [], ◌∷◌, length, position, remove, Option, None, Some, refl, sym, ap, subst, ◌∙◌, arith}
use Rattle.std.specs.List.{position_or_len, AllByRecursion, IsDistinct}
use Rattle.std.specs.Option.{option_map}
use Rattle.std.specs.Str.{bytes_eq}
use Rattle.std.specs.Cmp.Lexicographic.{same_text}
use Rattle.std.proofs.lemmas.Bool.Decides.{nat_tests}
use Rattle.std.proofs.lemmas.Map.Made.{IsDistinct-from_AllPairs}
use Rattle.std.proofs.lemmas.Slice.Eq.{bytes_eq-Decides}
use Rattle.arc_core.specs.MapReading.{fields_of, place_of, without, HaveDistinctFields}

-- the first place that passes, by cases on the first element
position-cons : {X : Type 0} (p : X → Bool) (x : X) (xs : List X)
    → position p (x ∷ xs) ≡ cond (p x) (Some 0) (option_map suc (position p xs))
position-cons p x xs = by (p x)
  where
    later : (i n : ℕ) → cond (nat_lt (1 + i) (suc n)) (Some (1 + i)) None
        ≡ option_map suc (cond (nat_lt i n) (Some i) None)
    later i n =
        let same : nat_lt (1 + i) (suc n) ≡ nat_lt i n = grind (arith, nat_tests) in
        ap (λ b. cond b (Some (1 + i)) None) same ∙ told (nat_lt i n)
      where
        told : (b : Bool) → cond b (Some (1 + i)) None ≡ option_map suc (cond b (Some i) None)
        told true = ap Some (omega arith)
        told false = refl

    by : (b : Bool)
        → (let i = cond (not b) (1 + position_or_len p xs) 0 in cond (nat_lt i (suc (length xs))) (Some i) None)
        ≡ cond b (Some 0) (option_map suc (position p xs))
    by true =
        let within : nat_lt 0 (suc (length xs)) ≡ true = grind (arith, nat_tests) in
        ap (λ b. cond b (Some 0) None) within
    by false = later (position_or_len p xs) (length xs)

-- the pairs without the one at a place, or all where there is no place
abbrev pub without_place : Option ℕ → List (List ℕ × List ℕ) → List (List ℕ × List ℕ)
without_place None pairs = pairs
without_place (Some place) pairs = remove pairs place

module _ (field : List ℕ) where
  -- all pairs stay where none has the field
  all_left : (pairs : List (List ℕ × List ℕ)) → AllByRecursion (λ other. bytes_eq field other ≡ false) (fields_of pairs)
      → without (field ∷ []) pairs ≡ pairs
  all_left [] absent = refl
  all_left (pair ∷ pairs) absent = by (bytes_eq field pair.0) absent.0 ∙ ap (λ l. pair ∷ l) (all_left pairs absent.1)
    where
      by : (b : Bool) → b ≡ false
          → cond (not (b || false)) (pair ∷ without (field ∷ []) pairs) (without (field ∷ []) pairs)
          ≡ pair ∷ without (field ∷ []) pairs
      by true is = cc
      by false is = refl

  -- the pair at the field's place goes, and no other
  without_field : (pairs : List (List ℕ × List ℕ)) → IsDistinct bytes_eq (fields_of pairs)
      → without (field ∷ []) pairs ≡ without_place (place_of field pairs) pairs
  unfolding IsDistinct
  without_field [] distinct = refl
  without_field (pair ∷ pairs) distinct =
      by (bytes_eq field pair.0) refl (without_field pairs distinct.1)
      ∙ ap (λ o. without_place o (pair ∷ pairs)) (sym (position-cons (bytes_eq field) pair.0 (fields_of pairs)))
    where
      behind : (o : Option ℕ) → pair ∷ without_place o pairs ≡ without_place (option_map suc o) (pair ∷ pairs)
      behind None = refl
      behind (Some place) = refl

      by : (b : Bool) → bytes_eq field pair.0 ≡ b
          → without (field ∷ []) pairs ≡ without_place (place_of field pairs) pairs
          → cond (not (b || false)) (pair ∷ without (field ∷ []) pairs) (without (field ∷ []) pairs)
          ≡ without_place (cond b (Some 0) (option_map suc (place_of field pairs))) (pair ∷ pairs)
      by true is rest =
          let P : List ℕ → Type 0 = λ name. AllByRecursion (λ other. bytes_eq name other ≡ false) (fields_of pairs) in
          all_left pairs (subst P (sym (same_text field pair.0 (sym is))) distinct.0)
      by false is rest = ap (λ l. pair ∷ l) rest ∙ behind (place_of field pairs)

-- the only name is the first
only_name : (names others : List (List ℕ)) (name field : List ℕ)
    → length names ≡ 1 → names ≡ name ∷ others → field ≡ name → names ≡ field ∷ []
only_name names [] name field one first same = first ∙ ap (λ n. n ∷ []) (sym same)
only_name names (other ∷ others) name field one first same = absurd (omega (arith, one, ap length first))

-- Where fields are distinct, the pairs without those of the only name are those without the pair at its place.
pub without_only : (names others : List (List ℕ)) (name field : List ℕ)
    → length names ≡ 1 → names ≡ name ∷ others → field ≡ name
    → (pairs : List (List ℕ × List ℕ)) → HaveDistinctFields pairs → (o : Option ℕ) → place_of field pairs ≡ o
    → without names pairs ≡ without_place o pairs
without_only names others name field one first same pairs distinct o at =
    ap (λ names. without names pairs) (only_name names others name field one first same)
    ∙ without_field field pairs (IsDistinct-from_AllPairs bytes_eq-Decides (fields_of pairs) distinct)
    ∙ ap (λ o. without_place o pairs) at
