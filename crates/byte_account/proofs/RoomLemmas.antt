-- The shortest suffix of a list of places that weighs enough.
use Rattle.std.proofs.Common.{◌≡◌, ℕ, ◌+◌, ◌<◌, ◌≤◌, Bool, true, false, cond, not, List, [], ◌∷◌, ◌++◌, length, Some, None, option_map, bytes_eq, nat_le, refl, sym, ap, ◌∙◌, arith}
use Rattle.std.specs.Option.{option_or}
use Rattle.std.proofs.lemmas.List.{append-nil, append_assoc, length-append}
use Rattle.std.proofs.lemmas.List.Sums.{sum_by-append}
use Rattle.std.proofs.lemmas.Bool.{le-leb}
use Rattle.arc_core.specs.Places.{others, weight_of}
use Rattle.arc_core.specs.Room.{shortest_suffix}
use Rattle.byte_account.proofs.ShelfLists.{others-append, weight-cons, weight-others-le, length-others-le}
use Rattle.byte_account.proofs.EvictionLemmas.{lt-leb-false}

-- a suffix that is enough is found behind whatever stands before it
pub shortest_suffix-front : {A : Type 0} (enough : List A → Bool) (front xs ys : List A) → shortest_suffix enough xs ≡ Some ys → shortest_suffix enough (front ++ xs) ≡ Some ys
shortest_suffix-front enough [] xs ys h = h
shortest_suffix-front enough (x ∷ front) xs ys h =
    ap (λ o. option_or o (cond (enough (x ∷ (front ++ xs))) (Some (x ∷ (front ++ xs))) None)) (shortest_suffix-front enough front xs ys h)

module _ {X : Type 0} (weigh : List ℕ → X → ℕ) (need : ℕ) where
  -- whether the places weigh enough
  abbrev pub is_enough : List (List ℕ × X) → Bool
  is_enough places = nat_le need (weight_of weigh places)

  -- without the first of the places the others do not weigh enough
  abbrev pub IsNeeded : List (List ℕ × X) → Type 0
  IsNeeded [] = Unit {0}
  IsNeeded (place ∷ older) = weight_of weigh older < need

  pub shortest_suffix-none : (places : List (List ℕ × X)) → weight_of weigh places < need → shortest_suffix is_enough places ≡ None
  shortest_suffix-none [] few = ap (λ b. cond b (Some []) None) (lt-leb-false (weight_of weigh []) need few)
  shortest_suffix-none (place ∷ older) few =
      ap (λ o. option_or o (cond (is_enough (place ∷ older)) (Some (place ∷ older)) None)) (shortest_suffix-none older (omega (arith, weight-cons weigh place older)))
      ∙ ap (λ b. cond b (Some (place ∷ older)) None) (lt-leb-false (weight_of weigh (place ∷ older)) need few)

  pub shortest_suffix-whole : (places : List (List ℕ × X)) → need ≤ weight_of weigh places → IsNeeded places → shortest_suffix is_enough places ≡ Some places
  shortest_suffix-whole [] enough needed = ap (λ b. cond b (Some []) None) (le-leb need (weight_of weigh []) enough)
  shortest_suffix-whole (place ∷ older) enough needed =
      ap (λ o. option_or o (cond (is_enough (place ∷ older)) (Some (place ∷ older)) None)) (shortest_suffix-none older needed)
      ∙ ap (λ b. cond b (Some (place ∷ older)) None) (le-leb need (weight_of weigh (place ∷ older)) enough)

  module _ (key : List ℕ) (all : List (List ℕ × X)) where
    -- from the end down to `rest` the places but the key's weigh `freed` and are `count`, and no fewer would do
    pub record IsWalked (rest : List (List ℕ × X)) (freed count : ℕ) : Type 0 where
      pub walked : List (List ℕ × X)
      pub split : all ≡ rest ++ walked
      pub weighs : freed ≡ weight_of weigh (others key walked)
      pub counts : count ≡ length (others key walked)
      pub needed : IsNeeded (others key walked)

    pub IsWalked-start : IsWalked all 0 0
    IsWalked-start = record { walked = []; split = sym (append-nil all); weighs = refl; counts = refl; needed = tt }

    others-step : (rest next walked : List (List ℕ × X)) (place : List ℕ × X) → all ≡ rest ++ walked → rest ≡ next ++ place ∷ [] → all ≡ next ++ place ∷ walked
    others-step rest next walked place split taken = split ∙ ap (λ k. k ++ walked) taken ∙ append_assoc next (place ∷ []) walked

    -- the place of another key adds to what is freed
    pub IsWalked-other : (rest next : List (List ℕ × X)) (place : List ℕ × X) (freed count : ℕ) → IsWalked rest freed count → freed < need → rest ≡ next ++ place ∷ [] → bytes_eq key place.0 ≡ false
        → IsWalked next (freed + weigh place.0 place.1) (count + 1)
    IsWalked-other rest next place freed count w few taken other =
        let passed : others key (place ∷ w.walked) ≡ place ∷ others key w.walked = ap (λ b. cond (not b) (place ∷ others key w.walked) (others key w.walked)) other in
        let before : freed ≡ weight_of weigh (others key w.walked) = w.weighs in
        let counted : count ≡ length (others key w.walked) = w.counts in
        record {
          walked = place ∷ w.walked;
          split = others-step rest next w.walked place w.split taken;
          weighs = (let sum : freed + weigh place.0 place.1 ≡ weight_of weigh (place ∷ others key w.walked) = omega (arith, weight-cons weigh place (others key w.walked)) in sum ∙ ap (weight_of weigh) (sym passed));
          counts = (let sum : count + 1 ≡ length (place ∷ others key w.walked) = omega arith in sum ∙ ap length (sym passed));
          needed = (let few : weight_of weigh (others key w.walked) < need = omega arith in rw passed few);
        }

    -- the key's own place is passed over
    pub IsWalked-own : (rest next : List (List ℕ × X)) (place : List ℕ × X) (freed count : ℕ) → IsWalked rest freed count → rest ≡ next ++ place ∷ [] → bytes_eq key place.0 ≡ true → IsWalked next freed count
    IsWalked-own rest next place freed count w taken own =
        let passed : others key (place ∷ w.walked) ≡ others key w.walked = ap (λ b. cond (not b) (place ∷ others key w.walked) (others key w.walked)) own in
        record {
          walked = place ∷ w.walked;
          split = others-step rest next w.walked place w.split taken;
          weighs = w.weighs ∙ ap (weight_of weigh) (sym passed);
          counts = w.counts ∙ ap length (sym passed);
          needed = rw passed w.needed;
        }

    pub IsWalked-enough : (rest : List (List ℕ × X)) (freed count : ℕ) → IsWalked rest freed count → need ≤ freed → Some count ≡ option_map length (shortest_suffix is_enough (others key all))
    IsWalked-enough rest freed count w enough =
        let before : freed ≡ weight_of weigh (others key w.walked) = w.weighs in
        let split : others key all ≡ others key rest ++ others key w.walked = ap (others key) w.split ∙ others-append key rest w.walked in
        ap (λ n. Some n) w.counts
        ∙ sym (ap (option_map length) (ap (shortest_suffix is_enough) split
        ∙ shortest_suffix-front is_enough (others key rest) (others key w.walked) (others key w.walked) (shortest_suffix-whole (others key w.walked) (omega arith) w.needed)))

    pub IsWalked-short : (rest : List (List ℕ × X)) (freed count : ℕ) → IsWalked rest freed count → rest ≡ [] → freed < need → None ≡ option_map length (shortest_suffix is_enough (others key all))
    IsWalked-short rest freed count w done few =
        let before : freed ≡ weight_of weigh (others key w.walked) = w.weighs in
        let whole : all ≡ w.walked = w.split ∙ ap (λ k. k ++ w.walked) done in
        sym (ap (option_map length) (ap (λ k. shortest_suffix is_enough (others key k)) whole ∙ shortest_suffix-none (others key w.walked) (omega arith)))

    pub IsWalked-weight : (rest : List (List ℕ × X)) (freed count : ℕ) → IsWalked rest freed count → freed ≤ weight_of weigh all
    IsWalked-weight rest freed count w =
        let before : freed ≡ weight_of weigh (others key w.walked) = w.weighs in
        let whole : weight_of weigh all ≡ weight_of weigh rest + weight_of weigh w.walked = ap (weight_of weigh) w.split ∙ sum_by-append (λ (p : List ℕ × X). weigh p.0 p.1) rest w.walked in
        omega (arith, weight-others-le weigh key w.walked)

    pub IsWalked-count : (rest : List (List ℕ × X)) (freed count : ℕ) → IsWalked rest freed count → count ≤ length all
    IsWalked-count rest freed count w =
        let before : count ≡ length (others key w.walked) = w.counts in
        let whole : length all ≡ length rest + length w.walked = ap length w.split ∙ length-append rest w.walked in
        omega (arith, length-others-le key w.walked)
