-- Lists of places: what looking, moving, taking out and weighing give.
use Rattle.std.proofs.Common.{◌≡◌, ℕ, ◌+◌, ◌≤◌, Bool, true, false, cond, not, List, [], ◌∷◌, ◌++◌, length, Option, Some, None, IsSome, is_some, bytes_eq, refl, sym, ap, ◌∙◌, subst, arith}
use Rattle.std.specs.Option.{option_map_or, option_or}
use Rattle.std.specs.List.{IsDistinct, AllByRecursion}
use Rattle.std.specs.Map.{keys_of, lookup, remove_entry, set_value}
use Rattle.std.specs.Cmp.Lexicographic.{nat_list_eq_equiv}
use Rattle.std.proofs.lemmas.Slice.Eq.{bytes_eq-Decides}
use Rattle.std.proofs.lemmas.Map.Keys.{IsDistinct-head, IsDistinct-tail, IsDistinct-cons}
use Rattle.std.proofs.lemmas.List.Elements.{filter-append}
use Rattle.std.proofs.lemmas.List.Sums.{sum_by-cons}
use Rattle.std.proofs.lemmas.Map.Made.{IsDistinct-keys_filter}
use Rattle.arc_core.specs.Places.{others, to_front, shelved, weight_of}
use Rattle.byte_account.specs.Weight.{weight_under}

pub same_key : (x y : List ℕ) → bytes_eq x y ≡ true → x ≡ y
same_key x y = (bytes_eq-Decides x y).0

pub own_key : (x : List ℕ) → bytes_eq x x ≡ true
own_key = nat_list_eq_equiv.refl

-- where no key passes, there is no value to set
pub set_value-absent : {K X : Type 0} (test : K → Bool) (es : List (K × X)) (x : X) → lookup test es ≡ None → set_value test es x ≡ es
set_value-absent test [] x absent = refl
set_value-absent test (e ∷ es) x absent = grind (arith, set_value-absent test es x)

pub IsDistinct-nil : {K : Type 0} (eq : K → K → Bool) → IsDistinct eq []
unfolding IsDistinct
IsDistinct-nil eq = tt

module _ {X : Type 0} where
  -- the key has no place on the list
  abbrev pub IsAbsent : List ℕ → List (List ℕ × X) → Type 0
  IsAbsent key shelf = lookup (bytes_eq key) shelf ≡ None

  -- no key has two places on the list
  abbrev pub AreApart : List (List ℕ × X) → Type 0
  AreApart shelf = IsDistinct bytes_eq (keys_of shelf)

  pub others-absent : (key : List ℕ) (shelf : List (List ℕ × X)) → IsAbsent key shelf → others key shelf ≡ shelf
  others-absent key [] absent = refl
  others-absent key (place ∷ older) absent = grind (arith, others-absent key older)

  pub lookup-others : (key : List ℕ) (shelf : List (List ℕ × X)) → IsAbsent key (others key shelf)
  lookup-others key [] = refl
  lookup-others key (place ∷ older) = grind (arith, lookup-others key older)

  pub lookup-others_apart : (key other : List ℕ) (shelf : List (List ℕ × X)) → bytes_eq other key ≡ false → lookup (bytes_eq other) (others key shelf) ≡ lookup (bytes_eq other) shelf
  lookup-others_apart key other [] apart = refl
  lookup-others_apart key other (place ∷ older) apart = grind (arith, lookup-others_apart key other older apart, same_key key place.0, same_key other place.0)

  absent_from_all : (key : List ℕ) (shelf : List (List ℕ × X)) → AllByRecursion (λ other. bytes_eq key other ≡ false) (keys_of shelf) → IsAbsent key shelf
  absent_from_all key [] all = refl
  absent_from_all key (place ∷ older) all = grind (arith, absent_from_all key older all.1)

  all_from_absent : (key : List ℕ) (shelf : List (List ℕ × X)) → IsAbsent key shelf → AllByRecursion (λ other. bytes_eq key other ≡ false) (keys_of shelf)
  all_from_absent key [] absent = tt
  all_from_absent key (place ∷ older) absent =
      (elim (bytes_eq key place.0) as (λ b. cond b (Some place.1) (lookup (bytes_eq key) older) ≡ None → (b ≡ false) × AllByRecursion (λ other. bytes_eq key other ≡ false) (keys_of older)) [
        | true ↦ λ h. cc
        | false ↦ λ h. (refl, all_from_absent key older h)
      ]) absent

  pub IsAbsent-head : (place : List ℕ × X) (older : List (List ℕ × X)) → AreApart (place ∷ older) → IsAbsent place.0 older
  IsAbsent-head place older apart = absent_from_all place.0 older (IsDistinct-head bytes_eq place.0 (keys_of older) apart)

  pub AreApart-tail : (place : List ℕ × X) (older : List (List ℕ × X)) → AreApart (place ∷ older) → AreApart older
  AreApart-tail place older apart = IsDistinct-tail bytes_eq place.0 (keys_of older) apart

  pub AreApart-cons : (key : List ℕ) (x : X) (shelf : List (List ℕ × X)) → IsAbsent key shelf → AreApart shelf → AreApart ((key, x) ∷ shelf)
  AreApart-cons key x shelf absent apart = IsDistinct-cons bytes_eq key (keys_of shelf) (all_from_absent key shelf absent) apart

  pub AreApart-others : (key : List ℕ) (shelf : List (List ℕ × X)) → AreApart shelf → AreApart (others key shelf)
  AreApart-others key shelf = IsDistinct-keys_filter bytes_eq (λ place. not (bytes_eq key place.0)) shelf

  pub remove_entry-others : (key : List ℕ) (shelf : List (List ℕ × X)) → AreApart shelf → remove_entry (bytes_eq key) shelf ≡ others key shelf
  remove_entry-others key [] apart = refl
  remove_entry-others key (place ∷ older) apart =
      let absent : bytes_eq key place.0 ≡ true → IsAbsent key older = λ h. subst (λ k. IsAbsent k older) (sym (same_key key place.0 h)) (IsAbsent-head place older apart) in
      let rest : remove_entry (bytes_eq key) older ≡ others key older = remove_entry-others key older (AreApart-tail place older apart) in
      (elim (bytes_eq key place.0) as (λ b. (b ≡ true → IsAbsent key older) → cond b older (place ∷ remove_entry (bytes_eq key) older) ≡ cond (not b) (place ∷ others key older) (others key older)) [
        | true ↦ λ h. sym (others-absent key older (h refl))
        | false ↦ λ h. ap (λ r. place ∷ r) rest
      ]) absent

  pub keys_of-set_value : (key : List ℕ) (x : X) (shelf : List (List ℕ × X)) → keys_of (set_value (bytes_eq key) shelf x) ≡ keys_of shelf
  keys_of-set_value key x [] = refl
  keys_of-set_value key x (place ∷ older) = grind (arith, keys_of-set_value key x older)

  pub lookup-set_value : (key : List ℕ) (x : X) (shelf : List (List ℕ × X)) → IsSome (lookup (bytes_eq key) shelf) → lookup (bytes_eq key) (set_value (bytes_eq key) shelf x) ≡ Some x
  lookup-set_value key x [] there = absurd (cc)
  lookup-set_value key x (place ∷ older) there = grind (arith, lookup-set_value key x older)

  pub lookup-set_value_apart : (key other : List ℕ) (x : X) (shelf : List (List ℕ × X)) → bytes_eq other key ≡ false → lookup (bytes_eq other) (set_value (bytes_eq key) shelf x) ≡ lookup (bytes_eq other) shelf
  lookup-set_value_apart key other x [] apart = refl
  lookup-set_value_apart key other x (place ∷ older) apart = grind (arith, lookup-set_value_apart key other x older apart, same_key key place.0)

  pub weight-cons : (weigh : List ℕ → X → ℕ) (place : List ℕ × X) (older : List (List ℕ × X)) → weight_of weigh (place ∷ older) ≡ weigh place.0 place.1 + weight_of weigh older
  weight-cons weigh place older = sum_by-cons (λ (p : List ℕ × X). weigh p.0 p.1) place older

  weight-others_at : (weigh : List ℕ → X → ℕ) (key : List ℕ) (place : List ℕ × X) (older rest : List (List ℕ × X)) (b : Bool) → (b ≡ true → key ≡ place.0) → (b ≡ true → rest ≡ older)
      → weight_of weigh rest + weight_under weigh key (lookup (bytes_eq key) older) ≡ weight_of weigh older
      → weight_of weigh (cond (not b) (place ∷ rest) rest) + weight_under weigh key (cond b (Some place.1) (lookup (bytes_eq key) older)) ≡ weight_of weigh (place ∷ older)
  weight-others_at weigh key place older rest true same none h =
      let own : weigh key place.1 ≡ weigh place.0 place.1 = ap (λ k. weigh k place.1) (same refl) in
      let all : weight_of weigh rest ≡ weight_of weigh older = ap (weight_of weigh) (none refl) in
      omega (arith, weight-cons weigh place older)
  weight-others_at weigh key place older rest false same none h =
      omega (arith, weight-cons weigh place older, weight-cons weigh place rest)

  pub weight-others : (weigh : List ℕ → X → ℕ) (key : List ℕ) (shelf : List (List ℕ × X)) → AreApart shelf → weight_of weigh (others key shelf) + weight_under weigh key (lookup (bytes_eq key) shelf) ≡ weight_of weigh shelf
  weight-others weigh key [] apart = refl
  weight-others weigh key (place ∷ older) apart =
      let same : bytes_eq key place.0 ≡ true → key ≡ place.0 = same_key key place.0 in
      let none : bytes_eq key place.0 ≡ true → others key older ≡ older = λ h. others-absent key older (subst (λ k. IsAbsent k older) (sym (same h)) (IsAbsent-head place older apart)) in
      weight-others_at weigh key place older (others key older) (bytes_eq key place.0) same none (weight-others weigh key older (AreApart-tail place older apart))

  weight-set_value_at : (weigh : List ℕ → X → ℕ) (key : List ℕ) (old x : X) (place : List ℕ × X) (older rest : List (List ℕ × X)) (b : Bool) → (b ≡ true → key ≡ place.0)
      → (lookup (bytes_eq key) older ≡ Some old → weight_of weigh rest + weigh key old ≡ weight_of weigh older + weigh key x)
      → cond b (Some place.1) (lookup (bytes_eq key) older) ≡ Some old
      → weight_of weigh (cond b ((place.0, x) ∷ older) (place ∷ rest)) + weigh key old ≡ weight_of weigh (place ∷ older) + weigh key x
  weight-set_value_at weigh key old x place older rest true same h there =
      let before : weigh key old ≡ weigh place.0 place.1 = cc (same refl) in
      let after : weigh key x ≡ weigh place.0 x = ap (λ k. weigh k x) (same refl) in
      omega (arith, weight-cons weigh place older, weight-cons weigh (place.0, x) older)
  weight-set_value_at weigh key old x place older rest false same h there =
      let step : weight_of weigh rest + weigh key old ≡ weight_of weigh older + weigh key x = h there in
      omega (arith, weight-cons weigh place older, weight-cons weigh place rest)

  pub weight-set_value : (weigh : List ℕ → X → ℕ) (key : List ℕ) (old x : X) (shelf : List (List ℕ × X)) → lookup (bytes_eq key) shelf ≡ Some old
      → weight_of weigh (set_value (bytes_eq key) shelf x) + weigh key old ≡ weight_of weigh shelf + weigh key x
  weight-set_value weigh key old x [] there = absurd (cc)
  weight-set_value weigh key old x (place ∷ older) there =
      weight-set_value_at weigh key old x place older (set_value (bytes_eq key) older x) (bytes_eq key place.0) (same_key key place.0) (weight-set_value weigh key old x older) there

  pub lookup-append : (key : List ℕ) (xs ys : List (List ℕ × X)) → lookup (bytes_eq key) (xs ++ ys) ≡ option_or (lookup (bytes_eq key) xs) (lookup (bytes_eq key) ys)
  lookup-append key [] ys = refl
  lookup-append key (x ∷ xs) ys = grind (arith, lookup-append key xs ys)

  pub IsAbsent-front : (key : List ℕ) (xs ys : List (List ℕ × X)) → IsAbsent key (xs ++ ys) → IsAbsent key xs
  IsAbsent-front key [] ys absent = refl
  IsAbsent-front key (x ∷ xs) ys absent = grind (arith, IsAbsent-front key xs ys)

  pub IsAbsent-back : (key : List ℕ) (xs ys : List (List ℕ × X)) → IsAbsent key (xs ++ ys) → IsAbsent key ys
  IsAbsent-back key [] ys absent = absent
  IsAbsent-back key (x ∷ xs) ys absent = grind (arith, IsAbsent-back key xs ys)

  pub IsAbsent-differs : (key : List ℕ) (place : List ℕ × X) (rest : List (List ℕ × X)) → IsAbsent key (place ∷ rest) → bytes_eq key place.0 ≡ false
  IsAbsent-differs key place rest absent = grind arith

  pub IsAbsent-append : (key : List ℕ) (xs ys : List (List ℕ × X)) → IsAbsent key xs → IsAbsent key ys → IsAbsent key (xs ++ ys)
  IsAbsent-append key xs ys first second = lookup-append key xs ys ∙ ap (λ o. option_or o (lookup (bytes_eq key) ys)) first ∙ second

  pub AreApart-front : (xs ys : List (List ℕ × X)) → AreApart (xs ++ ys) → AreApart xs
  AreApart-front [] ys apart = IsDistinct-nil bytes_eq
  AreApart-front (x ∷ xs) ys apart = AreApart-cons x.0 x.1 xs (IsAbsent-front x.0 xs ys (IsAbsent-head x (xs ++ ys) apart)) (AreApart-front xs ys (AreApart-tail x (xs ++ ys) apart))

  -- no place before a key's has that key
  pub IsAbsent-before : (front rest : List (List ℕ × X)) (place : List ℕ × X) → AreApart (front ++ place ∷ rest) → IsAbsent place.0 front
  IsAbsent-before [] rest place apart = refl
  IsAbsent-before (x ∷ front) rest place apart =
      let later : bytes_eq x.0 place.0 ≡ false = IsAbsent-differs x.0 place rest (IsAbsent-back x.0 front (place ∷ rest) (IsAbsent-head x (front ++ place ∷ rest) apart)) in
      let earlier : bytes_eq place.0 x.0 ≡ false = nat_list_eq_equiv.symm place.0 x.0 ∙ later in
      ap (λ b. cond b (Some x.1) (lookup (bytes_eq place.0) front)) earlier ∙ IsAbsent-before front rest place (AreApart-tail x (front ++ place ∷ rest) apart)

  pub others-append : (key : List ℕ) (xs ys : List (List ℕ × X)) → others key (xs ++ ys) ≡ others key xs ++ others key ys
  others-append key xs ys = filter-append (λ (place : List ℕ × X). not (bytes_eq key place.0)) xs ys

  pub length-others-le : (key : List ℕ) (shelf : List (List ℕ × X)) → length (others key shelf) ≤ length shelf
  length-others-le key [] = omega arith
  length-others-le key (place ∷ older) = grind (arith, length-others-le key older)

  to_front_is : (key : List ℕ) (shelf : List (List ℕ × X)) (found : Option X) → lookup (bytes_eq key) shelf ≡ found → to_front key shelf ≡ option_map_or (λ x. (key, x) ∷ others key shelf) found shelf
  to_front_is key shelf found h = ap (λ o. option_map_or (λ x. (key, x) ∷ others key shelf) o shelf) h

  weight_at_front : (weigh : List ℕ → X → ℕ) (key : List ℕ) (shelf : List (List ℕ × X)) (found : Option X) → weight_of weigh (others key shelf) + weight_under weigh key found ≡ weight_of weigh shelf
      → weight_of weigh (option_map_or (λ x. (key, x) ∷ others key shelf) found shelf) ≡ weight_of weigh shelf
  weight_at_front weigh key shelf None h = refl
  weight_at_front weigh key shelf (Some x) h = omega (arith, weight-cons weigh (key, x) (others key shelf))

  pub weight-to_front : (weigh : List ℕ → X → ℕ) (key : List ℕ) (shelf : List (List ℕ × X)) → AreApart shelf → weight_of weigh (to_front key shelf) ≡ weight_of weigh shelf
  weight-to_front weigh key shelf apart = weight_at_front weigh key shelf (lookup (bytes_eq key) shelf) (weight-others weigh key shelf apart)

  apart_at_front : (key : List ℕ) (shelf : List (List ℕ × X)) (found : Option X) → AreApart shelf → AreApart (option_map_or (λ x. (key, x) ∷ others key shelf) found shelf)
  apart_at_front key shelf None apart = apart
  apart_at_front key shelf (Some x) apart = AreApart-cons key x (others key shelf) (lookup-others key shelf) (AreApart-others key shelf apart)

  pub AreApart-to_front : (key : List ℕ) (shelf : List (List ℕ × X)) → AreApart shelf → AreApart (to_front key shelf)
  AreApart-to_front key shelf = apart_at_front key shelf (lookup (bytes_eq key) shelf)

  pub weight-others-le : (weigh : List ℕ → X → ℕ) (key : List ℕ) (shelf : List (List ℕ × X)) → weight_of weigh (others key shelf) ≤ weight_of weigh shelf
  weight-others-le weigh key [] = omega arith
  weight-others-le weigh key (place ∷ older) =
      let rest : weight_of weigh (others key older) ≤ weight_of weigh older = weight-others-le weigh key older in
      elim (bytes_eq key place.0) as (λ b. weight_of weigh (cond (not b) (place ∷ others key older) (others key older)) ≤ weight_of weigh (place ∷ older)) [
        | true ↦ omega (arith, weight-cons weigh place older)
        | false ↦ omega (arith, weight-cons weigh place older, weight-cons weigh place (others key older))
      ]

  -- moving a place to the front changes nothing that a look-up finds
  looked_at_front : (key q : List ℕ) (shelf : List (List ℕ × X)) (found : Option X) → lookup (bytes_eq key) shelf ≡ found → (b : Bool) → bytes_eq q key ≡ b
      → lookup (bytes_eq q) (option_map_or (λ x. (key, x) ∷ others key shelf) found shelf) ≡ lookup (bytes_eq q) shelf
  looked_at_front key q shelf None h b e = refl
  looked_at_front key q shelf (Some x) h true e = ap (λ t. cond t (Some x) (lookup (bytes_eq q) (others key shelf))) e ∙ sym (ap (λ k. lookup (bytes_eq k) shelf) (same_key q key e) ∙ h)
  looked_at_front key q shelf (Some x) h false e = ap (λ t. cond t (Some x) (lookup (bytes_eq q) (others key shelf))) e ∙ lookup-others_apart key q shelf e

  pub lookup-to_front : (key q : List ℕ) (shelf : List (List ℕ × X)) → lookup (bytes_eq q) (to_front key shelf) ≡ lookup (bytes_eq q) shelf
  lookup-to_front key q shelf = looked_at_front key q shelf (lookup (bytes_eq key) shelf) refl (bytes_eq q key) refl

  pub AreApart-set_value : (key : List ℕ) (x : X) (shelf : List (List ℕ × X)) → AreApart shelf → AreApart (set_value (bytes_eq key) shelf x)
  AreApart-set_value key x shelf apart = subst (IsDistinct bytes_eq) (sym (keys_of-set_value key x shelf)) apart

  shelved_by : (key : List ℕ) (x : X) (shelf : List (List ℕ × X)) (found : Option X) → lookup (bytes_eq key) shelf ≡ found → AreApart shelf → AreApart (cond (is_some found) (set_value (bytes_eq key) shelf x) ((key, x) ∷ shelf))
  shelved_by key x shelf None h apart = AreApart-cons key x shelf h apart
  shelved_by key x shelf (Some old) h apart = AreApart-set_value key x shelf apart

  pub AreApart-shelved : (key : List ℕ) (x : X) (shelf : List (List ℕ × X)) → AreApart shelf → AreApart (shelved key x shelf)
  AreApart-shelved key x shelf = shelved_by key x shelf (lookup (bytes_eq key) shelf) refl

  pub shelved-new : (key : List ℕ) (x : X) (shelf : List (List ℕ × X)) → IsAbsent key shelf → shelved key x shelf ≡ (key, x) ∷ shelf
  shelved-new key x shelf absent = ap (λ o. cond (is_some o) (set_value (bytes_eq key) shelf x) ((key, x) ∷ shelf)) absent

  pub shelved-held : (key : List ℕ) (x old : X) (shelf : List (List ℕ × X)) → lookup (bytes_eq key) shelf ≡ Some old → shelved key x shelf ≡ set_value (bytes_eq key) shelf x
  shelved-held key x old shelf held = ap (λ o. cond (is_some o) (set_value (bytes_eq key) shelf x) ((key, x) ∷ shelf)) held

  looked_at_shelved : (key q : List ℕ) (x : X) (shelf : List (List ℕ × X)) (found : Option X) → bytes_eq q key ≡ false → lookup (bytes_eq q) (cond (is_some found) (set_value (bytes_eq key) shelf x) ((key, x) ∷ shelf)) ≡ lookup (bytes_eq q) shelf
  looked_at_shelved key q x shelf None apart = ap (λ t. cond t (Some x) (lookup (bytes_eq q) shelf)) apart
  looked_at_shelved key q x shelf (Some old) apart = lookup-set_value_apart key q x shelf apart

  pub lookup-shelved_apart : (key q : List ℕ) (x : X) (shelf : List (List ℕ × X)) → bytes_eq q key ≡ false → lookup (bytes_eq q) (shelved key x shelf) ≡ lookup (bytes_eq q) shelf
  lookup-shelved_apart key q x shelf = looked_at_shelved key q x shelf (lookup (bytes_eq key) shelf)

  found_at_shelved : (key : List ℕ) (x : X) (shelf : List (List ℕ × X)) (found : Option X) → lookup (bytes_eq key) shelf ≡ found → lookup (bytes_eq key) (cond (is_some found) (set_value (bytes_eq key) shelf x) ((key, x) ∷ shelf)) ≡ Some x
  found_at_shelved key x shelf None h = ap (λ t. cond t (Some x) (lookup (bytes_eq key) shelf)) (own_key key)
  found_at_shelved key x shelf (Some old) h = lookup-set_value key x shelf (ap is_some h)

  pub lookup-shelved : (key : List ℕ) (x : X) (shelf : List (List ℕ × X)) → lookup (bytes_eq key) (shelved key x shelf) ≡ Some x
  lookup-shelved key x shelf = found_at_shelved key x shelf (lookup (bytes_eq key) shelf) refl

  weight_at_shelved : (weigh : List ℕ → X → ℕ) (key : List ℕ) (x : X) (shelf : List (List ℕ × X)) (found : Option X) → lookup (bytes_eq key) shelf ≡ found
      → weight_of weigh (cond (is_some found) (set_value (bytes_eq key) shelf x) ((key, x) ∷ shelf)) + weight_under weigh key found ≡ weight_of weigh shelf + weigh key x
  weight_at_shelved weigh key x shelf None h = omega (arith, weight-cons weigh (key, x) shelf)
  weight_at_shelved weigh key x shelf (Some old) h = weight-set_value weigh key old x shelf h

  pub weight-shelved : (weigh : List ℕ → X → ℕ) (key : List ℕ) (x : X) (shelf : List (List ℕ × X)) → weight_of weigh (shelved key x shelf) + weight_under weigh key (lookup (bytes_eq key) shelf) ≡ weight_of weigh shelf + weigh key x
  weight-shelved weigh key x shelf = weight_at_shelved weigh key x shelf (lookup (bytes_eq key) shelf) refl

  pub is_some-set_value : (key q : List ℕ) (x : X) (shelf : List (List ℕ × X)) → is_some (lookup (bytes_eq q) (set_value (bytes_eq key) shelf x)) ≡ is_some (lookup (bytes_eq q) shelf)
  is_some-set_value key q x [] = refl
  is_some-set_value key q x (place ∷ older) = grind (arith, is_some-set_value key q x older)
