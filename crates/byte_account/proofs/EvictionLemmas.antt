-- What taking places from the end of the list leaves and weighs.
use Rattle.std.proofs.Common.{◌≡◌, ℕ, suc, ◌+◌, ◌-◌, ◌<◌, ◌≤◌, true, false, cond, not, ◌||◌, List, [], ◌∷◌, ◌++◌, length, take, drop, get_or, slice_get, Option, Some, None, IsSome, bytes_eq, nat_le, refl, sym, ap, ◌∙◌, subst, inl, inr, arith}
use Rattle.std.specs.Option.{option_map_or, option_or}
use Rattle.std.specs.Map.{lookup}
use Rattle.std.specs.Cmp.Lexicographic.{nat_list_eq_equiv}
use Rattle.std.proofs.lemmas.List.{append-nil, append_assoc, take_all, take_more, take-append-drop, length-append, take-take, length-take-le}
use Rattle.std.proofs.lemmas.List.Sums.{sum_by_push, sum_by-append, sum_by-take-drop}
use Rattle.std.proofs.lemmas.Option.{get_or_from_slice_get, slice_get_within, slice_get_cases}
use Rattle.std.proofs.lemmas.Bool.{le-leb, cases_lt}
use Rattle.std.proofs.Math.Bool.{or-true}
use Rattle.std.proofs.lemmas.Bool.Decides.{nat_tests}
use Rattle.lru.specs.LruCache.{last_entry}
use Rattle.arc_core.specs.Places.{others, to_front, weight_of}
use Rattle.arc_core.specs.Room.{survivors}
use Rattle.byte_account.specs.Eviction.{is_last, to_back, PopsDownTo}
use Rattle.byte_account.specs.Weight.{weight_under}
use Rattle.byte_account.proofs.ShelfLists.{AreApart-cons, AreApart-tail, IsAbsent-head, IsAbsent, IsAbsent-front, IsAbsent-before, AreApart-front, weight-others, lookup-append, AreApart, IsAbsent-back, IsAbsent-differs, IsAbsent-append, AreApart-others, lookup-others, others-append, others-absent, weight-cons, same_key, own_key, AreApart-to_front, weight-to_front}

pub lt-leb-false : (a b : ℕ) → a < b → nat_le b a ≡ false
lt-leb-false a b h = grind (arith, nat_tests)

-- a list with a last element is what stands before it and that element
pub last_split : {A : Type 0} (xs : List A) (x : A) → slice_get xs (length xs - 1) ≡ Some x → xs ≡ take (length xs - 1) xs ++ x ∷ []
last_split xs x last =
    let within : length xs - 1 < length xs = slice_get_within xs (length xs - 1) x last in
    let at : get_or xs (length xs - 1) x ≡ x = get_or_from_slice_get xs (length xs - 1) x x last in
    let count : length xs - 1 + 1 ≡ length xs = omega arith in
    sym (take_all (length xs) xs (omega arith)) ∙ ap (λ n. take n xs) (sym count) ∙ take_more xs (length xs - 1) x within ∙ ap (λ y. take (length xs - 1) xs ++ y ∷ []) at

module _ {X : Type 0} where
  -- the last places are gone: so many of n, none of them the key's
  pub record IsPopping (weigh : List ℕ → X → ℕ) (key : List ℕ) (n : ℕ) (old now : List (List ℕ × X)) (freed left : ℕ) : Type 0 where
    pub gone : List (List ℕ × X)
    pub split : old ≡ now ++ gone
    pub spared : IsAbsent key gone
    pub count : length gone + left ≡ n
    pub weighs : freed ≡ weight_of weigh gone

  pub IsPopping-start : (weigh : List ℕ → X → ℕ) (key : List ℕ) (n : ℕ) (old : List (List ℕ × X)) → IsPopping weigh key n old old 0 n
  IsPopping-start weigh key n old = record { gone = []; split = sym (append-nil old); spared = refl; count = omega arith; weighs = refl }

  last_of : (shelf : List (List ℕ × X)) → 0 < length shelf → (place : List ℕ × X) × (last_entry shelf ≡ Some place)
  last_of shelf some = elim (slice_get_cases shelf (length shelf - 1)).1 [ inl here ↦ (here.0, here.2) | inr past ↦ absurd (let none : length shelf ≤ length shelf - 1 = past.0 in omega arith) ]

  -- where the key's place is not the last, one more goes
  pub IsPopping-step : (weigh : List ℕ → X → ℕ) (key : List ℕ) (n : ℕ) (old now next : List (List ℕ × X)) (freed more left : ℕ)
      → IsPopping weigh key n old now freed left → n ≤ length old → 0 < left → is_last key now ≡ false → next ≡ take (length now - 1) now → weight_of weigh next + more ≡ weight_of weigh now
      → IsPopping weigh key n old next (freed + more) (left - 1)
  IsPopping-step weigh key n old now next freed more left popping enough some other taken weighs =
      let f : List ℕ × X → ℕ = λ p. weigh p.0 p.1 in
      let gone = popping.gone in
      let long : length old ≡ length now + length gone = ap length popping.split ∙ length-append now gone in
      let counted : length gone + left ≡ n = popping.count in
      let rest : 0 < length now = omega arith in
      let last = last_of now rest in
      let place = last.0 in
      let split : now ≡ next ++ place ∷ [] = last_split now place last.1 ∙ ap (λ front. front ++ place ∷ []) (sym taken) in
      let apart : bytes_eq key place.0 ≡ false = ap (λ found. option_map_or (λ p. bytes_eq key p.0) found false) (sym last.1) ∙ other in
      let one : weight_of weigh now ≡ weight_of weigh next + weigh place.0 place.1 = ap (weight_of weigh) split ∙ sum_by_push f next place in
      record {
        gone = place ∷ gone;
        split = popping.split ∙ ap (λ xs. xs ++ gone) split ∙ append_assoc next (place ∷ []) gone;
        spared = ap (λ b. cond b (Some place.1) (lookup (bytes_eq key) gone)) apart ∙ popping.spared;
        count = omega arith;
        weighs = (let sum : freed ≡ weight_of weigh gone = popping.weighs in omega (arith, weight-cons weigh place gone));
      }

  pub PopsDownTo-end : (weigh : List ℕ → X → ℕ) (key : List ℕ) (n : ℕ) (old now : List (List ℕ × X)) (freed left : ℕ) → IsPopping weigh key n old now freed left → (0 < left → is_last key now ≡ true) → PopsDownTo weigh key n old now freed left
  PopsDownTo-end weigh key n old now freed left p stops = record { gone = p.gone; split = p.split; spared = p.spared; count = p.count; weighs = p.weighs; stops = stops }

  -- of places that are all among the last n, none is left but the key's
  survivors-gone : (key : List ℕ) (n : ℕ) (gone : List (List ℕ × X)) → IsAbsent key gone → length gone ≤ n → survivors key n gone ≡ []
  survivors-gone key n [] absent few = refl
  survivors-gone key n (place ∷ gone) absent few =
      let apart : bytes_eq key place.0 ≡ false = IsAbsent-differs key place gone absent in
      let rest : IsAbsent key gone = IsAbsent-back key (place ∷ []) gone absent in
      let count : length (others key gone) ≡ length gone = ap length (others-absent key gone rest) in
      let late : nat_le n (length (others key gone)) ≡ false = lt-leb-false (length (others key gone)) n (omega arith) in
      ap (λ b. cond (b || nat_le n (length (others key gone))) (place ∷ survivors key n gone) (survivors key n gone)) apart
      ∙ ap (λ b. cond b (place ∷ survivors key n gone) (survivors key n gone)) late
      ∙ survivors-gone key n gone rest (omega arith)

  pub survivors-stay : (key : List ℕ) (n : ℕ) (place : List ℕ × X) (older : List (List ℕ × X)) → n ≤ length (others key older) → survivors key n (place ∷ older) ≡ place ∷ survivors key n older
  survivors-stay key n place older enough =
      ap (λ b. cond (bytes_eq key place.0 || b) (place ∷ survivors key n older) (survivors key n older)) (le-leb n (length (others key older)) enough)
      ∙ ap (λ b. cond b (place ∷ survivors key n older) (survivors key n older)) (or-true (bytes_eq key place.0))

  -- exactly the last n are gone
  pub survivors-front : (key : List ℕ) (n : ℕ) (front gone : List (List ℕ × X)) → IsAbsent key gone → length gone ≡ n → survivors key n (front ++ gone) ≡ front
  survivors-front key n [] gone absent count = survivors-gone key n gone absent (omega arith)
  survivors-front key n (place ∷ front) gone absent count =
      let all : length (others key (front ++ gone)) ≡ length (others key front) + length gone =
      ap length (others-append key front gone) ∙ length-append (others key front) (others key gone) ∙ ap (λ k. length (others key front) + length k) (others-absent key gone absent) in
      survivors-stay key n place (front ++ gone) (omega arith) ∙ ap (λ kept. place ∷ kept) (survivors-front key n front gone absent count)

  pub survivors-go : (key : List ℕ) (n : ℕ) (place : List ℕ × X) (older : List (List ℕ × X)) → bytes_eq key place.0 ≡ false → length (others key older) < n → survivors key n (place ∷ older) ≡ survivors key n older
  survivors-go key n place older apart few =
      ap (λ b. cond (b || nat_le n (length (others key older))) (place ∷ survivors key n older) (survivors key n older)) apart
      ∙ ap (λ b. cond b (place ∷ survivors key n older) (survivors key n older)) (lt-leb-false (length (others key older)) n few)

  pub survivors-key : (key : List ℕ) (n : ℕ) (x : X) (older : List (List ℕ × X)) → survivors key n ((key, x) ∷ older) ≡ (key, x) ∷ survivors key n older
  survivors-key key n x older = ap (λ b. cond (b || nat_le n (length (others key older))) ((key, x) ∷ survivors key n older) (survivors key n older)) (own_key key)

  pub others-key : (key : List ℕ) (x : X) (older : List (List ℕ × X)) → others key ((key, x) ∷ older) ≡ others key older
  others-key key x older = ap (λ b. cond (not b) ((key, x) ∷ others key older) (others key older)) (own_key key)

  take-none : (n : ℕ) (xs : List (List ℕ × X)) → n ≡ 0 → take n xs ≡ []
  take-none n xs none = ap (λ k. take k xs) none

  take-one_more : (n k : ℕ) (place : List ℕ × X) (xs : List (List ℕ × X)) → n ≡ suc k → take n (place ∷ xs) ≡ place ∷ take k xs
  take-one_more n k place xs more = ap (λ m. take m (place ∷ xs)) more

  -- the places behind the key's are gone, and `left` of those before it
  pub survivors-aside : (key : List ℕ) (left : ℕ) (x : X) (front gone : List (List ℕ × X)) → IsAbsent key front → IsAbsent key gone
      → survivors key (length gone + left) (front ++ (key, x) ∷ gone) ≡ take (length front - left) front ++ (key, x) ∷ []
  survivors-aside key left x [] gone before behind =
      survivors-key key (length gone + left) x gone ∙ ap (λ kept. (key, x) ∷ kept) (survivors-gone key (length gone + left) gone behind (omega arith))
      ∙ ap (λ kept. kept ++ (key, x) ∷ []) (sym (take-none (0 - left) [] (omega arith)))
  survivors-aside key left x (place ∷ front) gone before behind =
      let n = length gone + left in
      let older = front ++ (key, x) ∷ gone in
      let apart : bytes_eq key place.0 ≡ false = IsAbsent-differs key place front before in
      let rest : IsAbsent key front = IsAbsent-back key (place ∷ []) front before in
      let count : length (others key older) ≡ length front + length gone =
      ap length (others-append key front ((key, x) ∷ gone) ∙ ap (λ k. k ++ others key ((key, x) ∷ gone)) (others-absent key front rest) ∙ ap (λ k. front ++ k) (others-key key x gone ∙ others-absent key gone behind)) ∙ length-append front gone in
      let later = survivors-aside key left x front gone rest behind in
      elim (cases_lt (length front) left) [
        | inl few ↦ survivors-go key n place older apart (omega arith) ∙ later
            ∙ ap (λ kept. kept ++ (key, x) ∷ []) (take-none (length front - left) front (omega arith) ∙ sym (take-none (length (place ∷ front) - left) (place ∷ front) (omega arith)))
        | inr enough ↦ survivors-stay key n place older (omega arith) ∙ ap (λ kept. place ∷ kept) later
            ∙ ap (λ kept. kept ++ (key, x) ∷ []) (sym (take-one_more (length (place ∷ front) - left) (length front - left) place front (omega arith)))
      ]

  last_place_at : (key : List ℕ) (shelf : List (List ℕ × X)) (last : Option (List ℕ × X)) → last_entry shelf ≡ last → option_map_or (λ place. bytes_eq key place.0) last false ≡ true
      → (front : List (List ℕ × X)) × (x : X) × (shelf ≡ front ++ (key, x) ∷ [])
  last_place_at key shelf None h is = absurd (cc)
  last_place_at key shelf (Some place) h is =
      (take (length shelf - 1) shelf, place.1, last_split shelf place h ∙ ap (λ k. take (length shelf - 1) shelf ++ (k, place.1) ∷ []) (sym (same_key key place.0 is)))

  -- where the key's place is the last, it is told apart from those before it
  last_place : (key : List ℕ) (shelf : List (List ℕ × X)) → is_last key shelf ≡ true → (front : List (List ℕ × X)) × (x : X) × (shelf ≡ front ++ (key, x) ∷ [])
  last_place key shelf is = last_place_at key shelf (last_entry shelf) refl is

  pub to_back-front : (key : List ℕ) (x : X) (front : List (List ℕ × X)) → IsAbsent key front → to_back key ((key, x) ∷ front) ≡ front ++ (key, x) ∷ []
  to_back-front key x front absent =
      ap (λ b. option_map_or (λ y. others key ((key, x) ∷ front) ++ (key, y) ∷ []) (cond b (Some x) (lookup (bytes_eq key) front)) ((key, x) ∷ front)) (own_key key)
      ∙ ap (λ k. k ++ (key, x) ∷ []) (others-key key x front ∙ others-absent key front absent)

  pub to_front-last : (key : List ℕ) (x : X) (front : List (List ℕ × X)) → IsAbsent key front → to_front key (front ++ (key, x) ∷ []) ≡ (key, x) ∷ front
  to_front-last key x front absent =
      let shelf = front ++ (key, x) ∷ [] in
      let found : lookup (bytes_eq key) shelf ≡ Some x = lookup-append key front ((key, x) ∷ []) ∙ ap (λ o. option_or o (lookup (bytes_eq key) ((key, x) ∷ []))) absent ∙ ap (λ b. cond b (Some x) None) (own_key key) in
      let rest : others key shelf ≡ front = others-append key front ((key, x) ∷ []) ∙ ap (λ k. k ++ others key ((key, x) ∷ [])) (others-absent key front absent) ∙ ap (λ k. front ++ k) (others-key key x []) ∙ append-nil front in
      ap (λ o. option_map_or (λ y. (key, y) ∷ others key shelf) o shelf) found ∙ ap (λ k. (key, x) ∷ k) rest

  pub AreApart-take : (n : ℕ) (shelf : List (List ℕ × X)) → AreApart shelf → AreApart (take n shelf)
  AreApart-take n shelf apart = AreApart-front (take n shelf) (drop n shelf) (subst AreApart (sym (take-append-drop n shelf)) apart)

  IsAbsent-take : (key : List ℕ) (n : ℕ) (shelf : List (List ℕ × X)) → IsAbsent key shelf → IsAbsent key (take n shelf)
  IsAbsent-take key n shelf absent = IsAbsent-front key (take n shelf) (drop n shelf) (subst (IsAbsent key) (sym (take-append-drop n shelf)) absent)

  weight_at_back : (weigh : List ℕ → X → ℕ) (key : List ℕ) (shelf : List (List ℕ × X)) (found : Option X) → weight_of weigh (others key shelf) + weight_under weigh key found ≡ weight_of weigh shelf
      → weight_of weigh (option_map_or (λ x. others key shelf ++ (key, x) ∷ []) found shelf) ≡ weight_of weigh shelf
  weight_at_back weigh key shelf None h = refl
  weight_at_back weigh key shelf (Some x) h = sum_by_push (λ (p : List ℕ × X). weigh p.0 p.1) (others key shelf) (key, x) ∙ h

  pub weight-to_back : (weigh : List ℕ → X → ℕ) (key : List ℕ) (shelf : List (List ℕ × X)) → AreApart shelf → weight_of weigh (to_back key shelf) ≡ weight_of weigh shelf
  weight-to_back weigh key shelf apart = weight_at_back weigh key shelf (lookup (bytes_eq key) shelf) (weight-others weigh key shelf apart)

  AreApart-push : (key : List ℕ) (x : X) (shelf : List (List ℕ × X)) → IsAbsent key shelf → AreApart shelf → AreApart (shelf ++ (key, x) ∷ [])
  AreApart-push key x [] absent apart = AreApart-cons key x [] refl apart
  AreApart-push key x (place ∷ older) absent apart =
      let other : bytes_eq place.0 key ≡ false = nat_list_eq_equiv.symm place.0 key ∙ IsAbsent-differs key place older absent in
      AreApart-cons place.0 place.1 (older ++ (key, x) ∷ [])
      (IsAbsent-append place.0 older ((key, x) ∷ []) (IsAbsent-head place older apart) (ap (λ b. cond b (Some x) None) other))
      (AreApart-push key x older (IsAbsent-back key (place ∷ []) older absent) (AreApart-tail place older apart))

  apart_at_back : (key : List ℕ) (shelf : List (List ℕ × X)) (found : Option X) → AreApart shelf → AreApart (option_map_or (λ x. others key shelf ++ (key, x) ∷ []) found shelf)
  apart_at_back key shelf None apart = apart
  apart_at_back key shelf (Some x) apart = AreApart-push key x (others key shelf) (lookup-others key shelf) (AreApart-others key shelf apart)

  pub AreApart-to_back : (key : List ℕ) (shelf : List (List ℕ × X)) → AreApart shelf → AreApart (to_back key shelf)
  AreApart-to_back key shelf = apart_at_back key shelf (lookup (bytes_eq key) shelf)

  -- with the key's place last: it steps aside to the front, `left` places go from the end, and it comes back
  aside_and_back : (key : List ℕ) (left : ℕ) (x : X) (front gone aside next : List (List ℕ × X)) → IsAbsent key front → IsAbsent key gone → left ≤ length front
      → aside ≡ (key, x) ∷ front → next ≡ take (length aside - left) aside → to_back key next ≡ survivors key (length gone + left) (front ++ (key, x) ∷ gone)
  aside_and_back key left x front gone aside next before behind enough aside_is next_is =
      let kept = take (length front - left) front in
      let shorter : next ≡ (key, x) ∷ kept =
      next_is ∙ ap (λ xs. take (length xs - left) xs) aside_is ∙ take-one_more (length ((key, x) ∷ front) - left) (length front - left) (key, x) front (omega arith) in
      ap (to_back key) shorter ∙ to_back-front key x kept (IsAbsent-take key (length front - left) front before) ∙ sym (survivors-aside key left x front gone before behind)

  pub evicted_aside : (weigh : List ℕ → X → ℕ) (key : List ℕ) (n : ℕ) (old now aside next : List (List ℕ × X)) (freed left : ℕ) → PopsDownTo weigh key n old now freed left → AreApart old → n ≤ length (others key old) → 0 < left
      → aside ≡ to_front key now → next ≡ take (length aside - left) aside → to_back key next ≡ survivors key n old
  evicted_aside weigh key n old now aside next freed left pops apart enough some aside_is next_is =
      let gone = pops.gone in
      let last = last_place key now (pops.stops some) in
      let front = last.0 in
      let x = last.1 in
      let now_is : now ≡ front ++ (key, x) ∷ [] = last.2 in
      let old_is : old ≡ front ++ (key, x) ∷ gone = pops.split ∙ ap (λ k. k ++ gone) now_is ∙ append_assoc front ((key, x) ∷ []) gone in
      let before : IsAbsent key front = IsAbsent-before front gone (key, x) (subst AreApart old_is apart) in
      let rest : length (others key old) ≡ length front + length gone =
      ap (λ k. length (others key k)) old_is
      ∙ ap length (others-append key front ((key, x) ∷ gone) ∙ ap (λ k. k ++ others key ((key, x) ∷ gone)) (others-absent key front before) ∙ ap (λ k. front ++ k) (others-key key x gone ∙ others-absent key gone pops.spared))
      ∙ length-append front gone in
      let counted : length gone + left ≡ n = pops.count in
      aside_and_back key left x front gone aside next before pops.spared (omega arith) (aside_is ∙ ap (to_front key) now_is ∙ to_front-last key x front before) next_is
      ∙ ap (λ k. survivors key (length gone + left) k) (sym old_is) ∙ ap (λ m. survivors key m old) counted

  pub evicted_behind : (weigh : List ℕ → X → ℕ) (key : List ℕ) (n : ℕ) (old now : List (List ℕ × X)) (freed left : ℕ) → PopsDownTo weigh key n old now freed left → left ≡ 0 → now ≡ survivors key n old
  evicted_behind weigh key n old now freed left pops none =
      let counted : length pops.gone + left ≡ n = pops.count in
      sym (ap (survivors key n) pops.split ∙ survivors-front key n now pops.gone pops.spared (omega arith))

  pub PopsDownTo-weight : (weigh : List ℕ → X → ℕ) (key : List ℕ) (n : ℕ) (old now : List (List ℕ × X)) (freed left : ℕ) → PopsDownTo weigh key n old now freed left → weight_of weigh now + freed ≡ weight_of weigh old
  PopsDownTo-weight weigh key n old now freed left pops =
      ap (λ k. weight_of weigh now + k) pops.weighs ∙ sym (ap (weight_of weigh) pops.split ∙ sum_by-append (λ (p : List ℕ × X). weigh p.0 p.1) now pops.gone)

  pub PopsDownTo-apart : (weigh : List ℕ → X → ℕ) (key : List ℕ) (n : ℕ) (old now : List (List ℕ × X)) (freed left : ℕ) → PopsDownTo weigh key n old now freed left → AreApart old → AreApart now
  PopsDownTo-apart weigh key n old now freed left pops apart = AreApart-front now pops.gone (subst AreApart pops.split apart)

  -- moved to the front, the key's place weighs what it weighed
  pub PopsDownTo-aside_weight : (weigh : List ℕ → X → ℕ) (key : List ℕ) (n : ℕ) (old now aside : List (List ℕ × X)) (freed left : ℕ) → PopsDownTo weigh key n old now freed left → AreApart old → aside ≡ to_front key now
      → weight_of weigh aside + freed ≡ weight_of weigh old
  PopsDownTo-aside_weight weigh key n old now aside freed left pops apart aside_is =
      ap (λ k. k + freed) (ap (weight_of weigh) aside_is ∙ weight-to_front weigh key now (PopsDownTo-apart weigh key n old now freed left pops apart))
      ∙ PopsDownTo-weight weigh key n old now freed left pops

  pub PopsDownTo-aside_apart : (weigh : List ℕ → X → ℕ) (key : List ℕ) (n : ℕ) (old now aside next : List (List ℕ × X)) (freed left k : ℕ) → PopsDownTo weigh key n old now freed left → AreApart old → aside ≡ to_front key now → next ≡ take k aside
      → AreApart next
  PopsDownTo-aside_apart weigh key n old now aside next freed left k pops apart aside_is next_is =
      subst AreApart (sym (next_is ∙ ap (take k) aside_is)) (AreApart-take k (to_front key now) (AreApart-to_front key now (PopsDownTo-apart weigh key n old now freed left pops apart)))

  -- what survives was there
  pub IsAbsent-survivors : (key : List ℕ) (n : ℕ) (q : List ℕ) (shelf : List (List ℕ × X)) → IsAbsent q shelf → IsAbsent q (survivors key n shelf)
  IsAbsent-survivors key n q [] absent = refl
  IsAbsent-survivors key n q (place ∷ older) absent =
      let apart : bytes_eq q place.0 ≡ false = IsAbsent-differs q place older absent in
      let rest : IsAbsent q (survivors key n older) = IsAbsent-survivors key n q older (IsAbsent-back q (place ∷ []) older absent) in
      elim (bytes_eq key place.0 || nat_le n (length (others key older))) as (λ b. IsAbsent q (cond b (place ∷ survivors key n older) (survivors key n older))) [
        | true ↦ ap (λ b. cond b (Some place.1) (lookup (bytes_eq q) (survivors key n older))) apart ∙ rest
        | false ↦ rest
      ]

  survivor_was : (key : List ℕ) (n : ℕ) (q : List ℕ) (shelf : List (List ℕ × X)) (was : Option X) → lookup (bytes_eq q) shelf ≡ was → IsSome (lookup (bytes_eq q) (survivors key n shelf)) → IsSome was
  survivor_was key n q shelf None h there = absurd (let none : IsAbsent q (survivors key n shelf) = IsAbsent-survivors key n q shelf h in cc)
  survivor_was key n q shelf (Some x) h there = refl

  pub is_some-survivors : (key : List ℕ) (n : ℕ) (q : List ℕ) (shelf : List (List ℕ × X)) → IsSome (lookup (bytes_eq q) (survivors key n shelf)) → IsSome (lookup (bytes_eq q) shelf)
  is_some-survivors key n q shelf = survivor_was key n q shelf (lookup (bytes_eq q) shelf) refl

  pub AreApart-survivors : (key : List ℕ) (n : ℕ) (shelf : List (List ℕ × X)) → AreApart shelf → AreApart (survivors key n shelf)
  AreApart-survivors key n [] apart = apart
  AreApart-survivors key n (place ∷ older) apart =
      let rest : AreApart (survivors key n older) = AreApart-survivors key n older (AreApart-tail place older apart) in
      elim (bytes_eq key place.0 || nat_le n (length (others key older))) as (λ b. AreApart (cond b (place ∷ survivors key n older) (survivors key n older))) [
        | true ↦ AreApart-cons place.0 place.1 (survivors key n older) (IsAbsent-survivors key n place.0 older (IsAbsent-head place older apart)) rest
        | false ↦ rest
      ]

module _ {X : Type 0} (weigh : List ℕ → X → ℕ) where
  -- the places of a list but its last n weigh no more than those that are left before all n are gone
  pub pop_small : (n i : ℕ) (initial now next : List (List ℕ × X)) → now ≡ take (length initial - i) initial → next ≡ take (length now - 1) now → i < n → weight_of weigh (take (length initial - n) initial) ≤ weight_of weigh next
  pop_small n i initial now next now_is next_is more =
      let k = length initial - n in
      let some : length now ≡ length initial - i = ap length now_is ∙ length-take-le (length initial - i) initial (omega arith) in
      let same : take k next ≡ take k initial = ap (take k) next_is ∙ take-take k (length now - 1) now (omega arith) ∙ ap (take k) now_is ∙ take-take k (length initial - i) initial (omega arith) in
      omega (arith, ap (weight_of weigh) same, sum_by-take-drop (λ (p : List ℕ × X). weigh p.0 p.1) next k)

  -- a list weighs what its last n weigh, and those before them
  pub weight-last : (n : ℕ) (shelf : List (List ℕ × X)) → weight_of weigh (take (length shelf - n) shelf) + weight_of weigh (drop (length shelf - n) shelf) ≡ weight_of weigh shelf
  weight-last n shelf = sum_by-take-drop (λ (p : List ℕ × X). weigh p.0 p.1) shelf (length shelf - n)
