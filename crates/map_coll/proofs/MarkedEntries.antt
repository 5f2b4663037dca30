-- Marking the entries of named fields one field after another, and what is left where the marked entries go.
use Rattle.std.proofs.Common.{◌≡◌, ℕ, zero, suc, ◌+◌, ◌<◌, Bool, true, false, cond, not, ◌||◌, List, [], ◌∷◌, ◌++◌, map, filter, length, All, true≢false, Some, None, position, refl, sym, ap, subst, ◌∙◌, arith}
use Rattle.std.specs.List.{list_any, position_or_len, AllByRecursion, IsDistinct}
use Rattle.std.specs.Map.{keys_of}
use Rattle.std.specs.Str.{bytes_eq}
use Rattle.std.proofs.lemmas.List.Folds.{list_any-append}
use Rattle.std.proofs.lemmas.List.Elements.{All-from_recursion, recursion_from_All}
use Rattle.std.specs.Cmp.Lexicographic.{same_text}
use Rattle.indexmap.specs.IndexMap.{set_value_at}
use Rattle.indexmap.proofs.MapLemmas.{Found-position}
use Rattle.arc_core.specs.MapReading.{is_named}
use Rattle.arc_core.proofs.MappedLists.{list_any-position_None}

module _ {K V : Type 0} (h : K → List ℕ) (marked : V → Bool) where
  -- the entries that are marked are those of the named fields
  abbrev pub AreMarked : List (List ℕ) → List (K × V) → Type 0
  AreMarked names es = AllByRecursion (λ e. marked e.1 ≡ is_named names (h e.0)) es

  -- the first entry whose key passes is at this place
  unfoldable pub FirstAt : (K → Bool) → List (K × V) → ℕ → Type 0
  FirstAt t [] i = ⊥
  FirstAt t (e ∷ es) zero = t e.0 ≡ true
  FirstAt t (e ∷ es) (suc i) = (t e.0 ≡ false) × FirstAt t es i

  -- another name that is none of a field's leaves it as it was
  named_still : (names : List (List ℕ)) (n field : List ℕ) → bytes_eq n field ≡ false → is_named (names ++ n ∷ []) field ≡ is_named names field
  named_still names n field other = list_any-append (λ name. bytes_eq name field) names (n ∷ []) ∙ by (bytes_eq n field) (is_named names field) other
    where
      by : (b c : Bool) → b ≡ false → (c || (b || false)) ≡ c
      by true c e = cc
      by false true e = refl
      by false false e = refl

  -- the field of that name is named
  named_now : (names : List (List ℕ)) (n field : List ℕ) → bytes_eq n field ≡ true → is_named (names ++ n ∷ []) field ≡ true
  named_now names n field same = list_any-append (λ name. bytes_eq name field) names (n ∷ []) ∙ by (bytes_eq n field) (is_named names field) same
    where
      by : (b c : Bool) → b ≡ true → (c || (b || false)) ≡ true
      by true true e = refl
      by true false e = refl
      by false c e = cc

  -- a name that no entry has marks none
  marked_none : (names : List (List ℕ)) (n : List ℕ) (es : List (K × V)) → AllByRecursion (λ k. bytes_eq n (h k) ≡ false) (keys_of es)
      → AreMarked names es → AreMarked (names ++ n ∷ []) es
  marked_none names n [] absent marks = marks
  marked_none names n (e ∷ es) absent marks =
      (marks.0 ∙ sym (named_still names n (h e.0) absent.0), marked_none names n es absent.1 marks.1)

  -- the first entry of a name is its only one, and is marked
  marked_first : (names : List (List ℕ)) (n : List ℕ) (w : V) → marked w ≡ true → (es : List (K × V)) (i : ℕ)
      → FirstAt (λ k. bytes_eq n (h k)) es i → IsDistinct (λ a b. bytes_eq (h a) (h b)) (keys_of es)
      → AreMarked names es → AreMarked (names ++ n ∷ []) (set_value_at es i w)
  unfolding IsDistinct FirstAt
  marked_first names n w is [] i first distinct marks = absurd first
  marked_first names n w is (e ∷ es) zero first distinct marks =
      let P : List ℕ → Type 0 = λ field. AllByRecursion (λ k. bytes_eq field (h k) ≡ false) (keys_of es) in
      let others = subst P (sym (same_text n (h e.0) (sym first))) distinct.0 in
      (is ∙ sym (named_now names n (h e.0) first), marked_none names n es others marks.1)
  marked_first names n w is (e ∷ es) (suc i) first distinct marks =
      (marks.0 ∙ sym (named_still names n (h e.0) first.0), marked_first names n w is es i first.1 distinct.1 marks.1)

  pub first_at : (t : K → Bool) (es : List (K × V)) (i : ℕ) → position_or_len t (keys_of es) ≡ i → i < length es → FirstAt t es i
  unfolding FirstAt
  first_at t [] i at within = absurd (omega arith)
  first_at t (e ∷ es) i at within = by (t e.0) refl i at within (first_at t es)
    where
      by : (b : Bool) → t e.0 ≡ b → (i : ℕ) → cond (not b) (1 + position_or_len t (keys_of es)) 0 ≡ i → i < suc (length es)
          → ((i : ℕ) → position_or_len t (keys_of es) ≡ i → i < length es → FirstAt t es i) → FirstAt t (e ∷ es) i
      by true is zero at within rest = is
      by true is (suc i) at within rest = absurd (omega arith)
      by false is zero at within rest = absurd (omega arith)
      by false is (suc i) at within rest = (is, rest i (omega arith) (omega arith))

  none_passes : (t : K → Bool) (ks : List K) → list_any t ks ≡ false → AllByRecursion (λ k. t k ≡ false) ks
  none_passes t [] absent = tt
  none_passes t (k ∷ ks) absent = by (t k) refl absent (none_passes t ks)
    where
      by : (b : Bool) → t k ≡ b → (b || list_any t ks) ≡ false → (list_any t ks ≡ false → AllByRecursion (λ k. t k ≡ false) ks)
          → AllByRecursion (λ k. t k ≡ false) (k ∷ ks)
      by true is absent rest = absurd (true≢false absent)
      by false is absent rest = (is, rest absent)

  module _ (names : List (List ℕ)) (name n : List ℕ) (same : n ≡ name) (es : List (K × V))
      (marks : All (λ e. marked e.1 ≡ is_named names (h e.0)) es) where
    before : AreMarked names es
    before = recursion_from_All (λ e. marked e.1 ≡ is_named names (h e.0)) es marks

    after : (new : List (K × V)) → AreMarked (names ++ n ∷ []) new → All (λ e. marked e.1 ≡ is_named (names ++ name ∷ []) (h e.0)) new
    after new marks =
        let P : List ℕ → Type 0 = λ n. All (λ e. marked e.1 ≡ is_named (names ++ n ∷ []) (h e.0)) new in
        subst P same (All-from_recursion (λ e. marked e.1 ≡ is_named (names ++ n ∷ []) (h e.0)) new marks)

    -- one more name, where an entry has it
    pub mark_found : (i : ℕ) (w : V) → position (λ k. bytes_eq n (h k)) (keys_of es) ≡ Some i
        → IsDistinct (λ a b. bytes_eq (h a) (h b)) (keys_of es) → marked w ≡ true
        → All (λ e. marked e.1 ≡ is_named (names ++ name ∷ []) (h e.0)) (set_value_at es i w)
    mark_found i w at distinct is =
        let found = Found-position (λ k. bytes_eq n (h k)) es i at in
        let first = first_at (λ k. bytes_eq n (h k)) es i found.or_len found.within in
        after (set_value_at es i w) (marked_first names n w is es i first distinct before)

    -- one more name, where none has it
    pub mark_absent : position (λ k. bytes_eq n (h k)) (keys_of es) ≡ None → All (λ e. marked e.1 ≡ is_named (names ++ name ∷ []) (h e.0)) es
    mark_absent at =
        let absent = none_passes (λ k. bytes_eq n (h k)) (keys_of es) (list_any-position_None (λ k. bytes_eq n (h k)) (keys_of es) at) in
        after es (marked_none names n es absent before)

  -- the pairs that are left where the marked entries go are those that are not named
  module _ {W : Type 0} (value : V → W) (names : List (List ℕ)) where
    left_by_recursion : (es : List (K × V)) → AreMarked names es
        → map (λ e. (h e.0, value e.1)) (filter (λ e. not (marked e.1)) es)
        ≡ filter (λ (pair : List ℕ × W). not (is_named names pair.0)) (map (λ e. (h e.0, value e.1)) es)
    left_by_recursion [] marks = refl
    left_by_recursion (e ∷ es) marks = by (marked e.1) (is_named names (h e.0)) marks.0 _ _ (left_by_recursion es marks.1)
      where
        by : (a b : Bool) → a ≡ b → (rest : List (K × V)) (left : List (List ℕ × W)) → map (λ e. (h e.0, value e.1)) rest ≡ left
            → map (λ e. (h e.0, value e.1)) (cond (not a) (e ∷ rest) rest) ≡ cond (not b) ((h e.0, value e.1) ∷ left) left
        by true true is rest left same = same
        by false false is rest left same = ap (λ l. (h e.0, value e.1) ∷ l) same
        by true false is rest left same = absurd (true≢false is)
        by false true is rest left same = absurd (true≢false (sym is))

    pub pairs_left : (es new : List (K × V)) (pairs : List (List ℕ × W)) → All (λ e. marked e.1 ≡ is_named names (h e.0)) es
        → map (λ e. (h e.0, value e.1)) es ≡ pairs → new ≡ filter (λ e. not (marked e.1)) es
        → map (λ e. (h e.0, value e.1)) new ≡ filter (λ (pair : List ℕ × W). not (is_named names pair.0)) pairs
    pairs_left es new pairs marks seen is =
        ap (map (λ e. (h e.0, value e.1))) is
        ∙ left_by_recursion es (recursion_from_All (λ e. marked e.1 ≡ is_named names (h e.0)) es marks)
        ∙ ap (filter (λ (pair : List ℕ × W). not (is_named names pair.0))) seen

-- no entry that is left is marked
pub none_marked : {X : Type 0} (marked : X → Bool) (es : List X) → All (λ e. marked e ≡ false) (filter (λ e. not (marked e)) es)
none_marked {X} marked es = All-from_recursion (λ e. marked e ≡ false) _ (by_recursion es)
  where
    one : (e : X) (rest : List X) → AllByRecursion (λ e. marked e ≡ false) rest → (b : Bool) → marked e ≡ b
        → AllByRecursion (λ e. marked e ≡ false) (cond (not b) (e ∷ rest) rest)
    one e rest all true is = all
    one e rest all false is = (is, all)

    by_recursion : (es : List X) → AllByRecursion (λ e. marked e ≡ false) (filter (λ e. not (marked e)) es)
    by_recursion [] = tt
    by_recursion (e ∷ es) = one e (filter (λ e. not (marked e)) es) (by_recursion es) (marked e) refl
