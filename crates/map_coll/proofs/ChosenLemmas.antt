-- Choosing the places of named fields one field after another, with a note of each place that was seen.
use Rattle.std.proofs.Common.{◌≡◌, ℕ, ◌<◌, Bool, true, false, cond, not, ◌||◌, if◌then◌else◌, nat_eq, List, [], ◌∷◌, ◌++◌, filter, length, get_or, slice_set, length-set, Option, None, Some, append-nil, inl, inr, refl, sym, ap, subst, ◌∙◌}
use Rattle.std.specs.List.{list_any, filter_map, cons_option}
use Rattle.std.proofs.lemmas.Bool.Decides.{eqb_tells}
use Rattle.std.proofs.lemmas.List.{get_or-set_same, get_or-set_other}
use Rattle.std.proofs.lemmas.List.Elements.{filter-append, filter_map-append}
use Rattle.std.proofs.lemmas.List.Folds.{list_any-append}
use Rattle.arc_core.specs.MapReading.{place_of, each_once, chosen}

-- whether a number is among these
abbrev is_among : ℕ → List ℕ → Bool
is_among n ns = list_any (λ other. nat_eq other n) ns

-- one more number, which counts where it was not there
once_more : (ns : List ℕ) (n : ℕ) → each_once (ns ++ n ∷ []) ≡ each_once ns ++ (if is_among n ns then [] else n ∷ [])
once_more [] n = refl
once_more (m ∷ ns) n =
    ap (λ l. m ∷ filter (λ other. not (nat_eq m other)) l) (once_more ns n)
    ∙ ap (λ l. m ∷ l) (filter-append (λ other. not (nat_eq m other)) (each_once ns) (if is_among n ns then [] else n ∷ []))
    ∙ ap (λ l. m ∷ (filter (λ other. not (nat_eq m other)) (each_once ns) ++ l)) (by (is_among n ns) (nat_eq m n) refl)
  where
    by : (known same : Bool) → nat_eq m n ≡ same
        → filter (λ other. not (nat_eq m other)) (if known then [] else n ∷ []) ≡ (if (same || known) then [] else n ∷ [])
    by true true is = refl
    by true false is = refl
    by false true is = ap (λ b. cond (not b) (n ∷ []) []) is
    by false false is = ap (λ b. cond (not b) (n ∷ []) []) is

or_true : (b : Bool) → (b || true) ≡ true
or_true true = refl
or_true false = refl

or_false : (b : Bool) → (b || false) ≡ b
or_false true = refl
or_false false = refl

-- what is noted is whether a place is among these
abbrev pub AreSeen : List Bool → List ℕ → Type 0
AreSeen seen places = (i : ℕ) → i < length seen → get_or seen i false ≡ list_any (λ other. nat_eq other i) places

-- one more place is noted
seen_more : (seen : List Bool) (places : List ℕ) (place : ℕ) → place < length seen → AreSeen seen places → AreSeen (slice_set seen place true) (places ++ place ∷ [])
seen_more seen places place within are i fits =
    let known = are i (subst (λ n. i < n) (length-set seen place true) fits) in
    elim (eqb_tells place i) [
      | inl both ↦ subst (λ k. get_or (slice_set seen place true) k false ≡ true) both.1 (get_or-set_same seen place true false within) ∙ sym (with true both.0 ∙ or_true (list_any (λ other. nat_eq other i) places))
      | inr both ↦ get_or-set_other seen place i true false (λ e. both.1 (sym e)) ∙ known ∙ sym (with false both.0 ∙ or_false (list_any (λ other. nat_eq other i) places))
    ]
  where
    either : (b c d : Bool) → c ≡ d → (b || (c || false)) ≡ (b || d)
    either true c d is = refl
    either false true d is = is
    either false false d is = is

    with : (b : Bool) → nat_eq place i ≡ b → list_any (λ other. nat_eq other i) (places ++ place ∷ []) ≡ (list_any (λ other. nat_eq other i) places || b)
    with b is = list_any-append (λ other. nat_eq other i) places (place ∷ []) ∙ either (list_any (λ other. nat_eq other i) places) (nat_eq place i) b is

-- What holds when so many names have been looked for.
pub record HasChosen (names : List (List ℕ)) (pairs : List (List ℕ × List ℕ)) (places : List ℕ) (seen : List Bool) : Type 0 where
  pub chosen_are : places ≡ chosen names pairs
  pub count : length seen ≡ length pairs
  pub are_seen : AreSeen seen (filter_map (λ name. place_of name pairs) names)

module _ (names : List (List ℕ)) (name n : List ℕ) (same : n ≡ name) (pairs : List (List ℕ × List ℕ)) (places : List ℕ) (seen : List Bool) (so : HasChosen names pairs places seen) where
  found : (o : Option ℕ) → place_of n pairs ≡ o
      → filter_map (λ name. place_of name pairs) (names ++ name ∷ []) ≡ filter_map (λ name. place_of name pairs) names ++ cons_option o []
  found o is =
      filter_map-append (λ name. place_of name pairs) names (name ∷ [])
      ∙ ap (λ o. filter_map (λ name. place_of name pairs) names ++ cons_option o []) (ap (λ name. place_of name pairs) (sym same) ∙ is)

  -- one more name, whose field is not there
  pub chosen_absent : place_of n pairs ≡ None → HasChosen (names ++ name ∷ []) pairs places seen
  chosen_absent absent =
      let still = found None absent ∙ append-nil (filter_map (λ name. place_of name pairs) names) in record {
        chosen_are = so.chosen_are ∙ ap each_once (sym still);
        count = so.count;
        are_seen = subst (AreSeen seen) (sym still) so.are_seen;
      }

  -- one more name, whose field is there
  pub chosen_found : (place : ℕ) (new : List ℕ) (now : List Bool) → place_of n pairs ≡ Some place → place < length pairs
      → new ≡ places ++ (if get_or seen place false then [] else place ∷ []) → now ≡ slice_set seen place true
      → HasChosen (names ++ name ∷ []) pairs new now
  chosen_found place new now at within new_is now_is =
      let more = found (Some place) at in
      let before = filter_map (λ name. place_of name pairs) names in
      let fits = subst (λ n. place < n) (sym so.count) within in record {
        chosen_are =
            new_is
            ∙ ap (λ b. places ++ (if b then [] else place ∷ [])) (so.are_seen place fits)
            ∙ ap (λ l. l ++ (if is_among place before then [] else place ∷ [])) so.chosen_are
            ∙ sym (once_more before place)
            ∙ ap each_once (sym more);
        count = ap length now_is ∙ length-set seen place true ∙ so.count;
        are_seen = subst (AreSeen now) (sym more) (subst (λ s. AreSeen s (before ++ place ∷ [])) (sym now_is) (seen_more seen before place fits so.are_seen));
      }
