-- Lists by their places, and what is dealt one after another.
use Rattle.std.proofs.Common.{◌≡◌, ◌≢◌, ◌∙◌, ◌⊎◌, inl, inr, ℕ, zero, suc, ◌+◌, ◌*◌, ◌/◌, ◌%◌, ◌<◌, ◌≤◌, Bool, true, false, cond, List, [], ◌∷◌, ◌++◌, length, map, set, get_or, filter, refl, sym, ap, subst, arith, length-append, length-set}
use Rattle.std.proofs.lemmas.List.{append-nil, append_assoc, length-map}
use Rattle.std.specs.List.{AllByRecursion}
use Rattle.std.proofs.lemmas.Bool.{cases_eq}
use Rattle.std.proofs.lemmas.Nat.{div-add-mod', mod_below, mod-mul-add}
use Rattle.std.proofs.Math.Nat.{mul-le-mul_right, lt_of_mul-lt-mul_right}
use Rattle.script_runs.specs.Dealing.{At, IsDealt, AreDealt}

pub at_below : {A : Type 0} (xs : List A) (k : ℕ) (x : A) → At xs k x → k < length xs
at_below [] k x at = absurd at
at_below (y ∷ xs) zero x at = omega arith
at_below (y ∷ xs) (suc k) x at = omega (arith, at_below xs k x at)

pub at_some : {A : Type 0} (xs : List A) (k : ℕ) → k < length xs → (x : A) × At xs k x
at_some [] k below = absurd (omega (arith, below))
at_some (y ∷ xs) zero below = (y, refl)
at_some (y ∷ xs) (suc k) below = at_some xs k (omega (arith, below))

pub at_one : {A : Type 0} (xs : List A) (k : ℕ) (x y : A) → At xs k x → At xs k y → x ≡ y
at_one [] k x y at at' = absurd at
at_one (z ∷ xs) zero x y at at' = at ∙ sym at'
at_one (z ∷ xs) (suc k) x y at at' = at_one xs k x y at at'

pub at_front : {A : Type 0} (xs ys : List A) (k : ℕ) (x : A) → At xs k x → At (xs ++ ys) k x
at_front [] ys k x at = absurd at
at_front (y ∷ xs) ys zero x at = at
at_front (y ∷ xs) ys (suc k) x at = at_front xs ys k x at

pub at_last : {A : Type 0} (xs : List A) (k : ℕ) (x : A) → k ≡ length xs → At (xs ++ x ∷ []) k x
at_last [] zero x is = refl
at_last [] (suc k) x is = absurd (omega (arith, is))
at_last (y ∷ xs) zero x is = absurd (omega (arith, is))
at_last (y ∷ xs) (suc k) x is = at_last xs k x (omega (arith, is))

pub at_either : {A : Type 0} (xs : List A) (x : A) (k : ℕ) (y : A) → At (xs ++ x ∷ []) k y → At xs k y ⊎ ((k ≡ length xs) × (y ≡ x))
at_either [] x zero y at = inr (refl, at)
at_either [] x (suc k) y at = absurd at
at_either (z ∷ xs) x zero y at = inl at
at_either (z ∷ xs) x (suc k) y at = by (at_either xs x k y at)
  where
    by : At xs k y ⊎ ((k ≡ length xs) × (y ≡ x)) → At xs k y ⊎ ((suc k ≡ suc (length xs)) × (y ≡ x))
    by (inl there) = inl there
    by (inr (last, is)) = inr (ap suc last, is)

pub at_map : {A B : Type 0} (f : A → B) (xs : List A) (k : ℕ) (x : A) → At xs k x → At (map f xs) k (f x)
at_map f [] k x at = absurd at
at_map f (y ∷ xs) zero x at = ap f at
at_map f (y ∷ xs) (suc k) x at = at_map f xs k x at

-- the one whose image stands there
pub unmap_at : {A B : Type 0} (f : A → B) (xs : List A) (k : ℕ) (y : B) → At (map f xs) k y → (x : A) × At xs k x × (y ≡ f x)
unmap_at f [] k y at = absurd at
unmap_at f (x ∷ xs) zero y at = (x, refl, at)
unmap_at f (x ∷ xs) (suc k) y at = unmap_at f xs k y at

pub at_set_same : {A : Type 0} (xs : List A) (k : ℕ) (x y : A) → At (set xs k x) k y → y ≡ x
at_set_same [] k x y at = absurd at
at_set_same (z ∷ xs) zero x y at = at
at_set_same (z ∷ xs) (suc k) x y at = at_set_same xs k x y at

pub at_set_other : {A : Type 0} (xs : List A) (k j : ℕ) (x y : A) → j ≢ k → At (set xs k x) j y → At xs j y
at_set_other [] k j x y other at = absurd at
at_set_other (z ∷ xs) zero zero x y other at = absurd (other refl)
at_set_other (z ∷ xs) zero (suc j) x y other at = at
at_set_other (z ∷ xs) (suc k) zero x y other at = at
at_set_other (z ∷ xs) (suc k) (suc j) x y other at = at_set_other xs k j x y (λ same. other (ap suc same)) at

pub at_read : {A : Type 0} (xs : List A) (k : ℕ) (d : A) → k < length xs → At xs k (get_or xs k d)
at_read [] k d below = absurd (omega (arith, below))
at_read (y ∷ xs) zero d below = refl
at_read (y ∷ xs) (suc k) d below = at_read xs k d (omega (arith, below))

-- what is in a list and passes is in the filtered list
pub at_kept : {A : Type 0} (f : A → Bool) (xs : List A) (k : ℕ) (x : A) → At xs k x → f x ≡ true → (j : ℕ) × At (filter f xs) j x
at_kept f [] k x at passes = absurd at
at_kept f (y ∷ xs) zero x at passes =
    (zero, subst (λ b. At (cond b (y ∷ filter f xs) (filter f xs)) zero x) (sym (ap f (sym at) ∙ passes)) at)
at_kept f (y ∷ xs) (suc k) x at passes = by (f y) (at_kept f xs k x at passes)
  where
    by : (b : Bool) → (j : ℕ) × At (filter f xs) j x → (j : ℕ) × At (cond b (y ∷ filter f xs) (filter f xs)) j x
    by true (j, there) = (suc j, there)
    by false (j, there) = (j, there)

pub all_at : {A : Type 0} (P : A → Type 0) (xs : List A) → ((k : ℕ) (x : A) → At xs k x → P x) → AllByRecursion P xs
all_at P [] each = tt
all_at P (y ∷ xs) each = (each zero y refl, all_at P xs (λ k x at. each (suc k) x at))

pub at_all : {A : Type 0} (P : A → Type 0) (xs : List A) → AllByRecursion P xs → (k : ℕ) (x : A) → At xs k x → P x
at_all P [] all k x at = absurd at
at_all P (y ∷ xs) all zero x at = subst P (sym at) all.0
at_all P (y ∷ xs) all (suc k) x at = at_all P xs all.1 k x at

-- DEALING

module _ {A : Type 0} (workers : ℕ) (some : 0 < workers) where
  -- one more is dealt to another worker
  other_dealt : (all : List A) (x : A) (worker : ℕ) (own : List A) → worker < workers → worker ≢ length all % workers → IsDealt workers all worker own → IsDealt workers (all ++ x ∷ []) worker own
  other_dealt all x worker own below other dealt =
      let apart : length all ≢ length own * workers + worker = λ same. other (sym (ap (λ m. m % workers) same ∙ mod-mul-add (length own) workers worker below)) in
      record {
        each = λ turn y at. at_front all (x ∷ []) (turn * workers + worker) y (dealt.each turn y at);
        no_more = omega (arith, dealt.no_more, length-append all (x ∷ []));
        no_fewer = omega (arith, dealt.no_fewer, apart, length-append all (x ∷ []));
      }

  -- how many a worker has, where the next one is its own
  next_is : (all : List A) (worker : ℕ) (own : List A) → worker ≡ length all % workers → IsDealt workers all worker own → length all ≡ length own * workers + worker
  next_is all worker own its dealt =
      let number = length all / workers in
      let parts : number * workers + length all % workers ≡ length all = div-add-mod' (length all) workers in
      let few : number * workers < (length own + 1) * workers = omega (arith, parts, its, dealt.no_fewer, some) in
      let many : length own * workers < (number + 1) * workers = omega (arith, parts, its, dealt.no_more) in
      let up : number < length own + 1 = lt_of_mul-lt-mul_right workers few in
      let down : length own < number + 1 = lt_of_mul-lt-mul_right workers many in
      let same : number ≡ length own = omega (arith, up, down) in
      omega (arith, parts, its, ap (λ m. m * workers) same)

  -- one more is dealt to this worker
  own_dealt : (all : List A) (x : A) (worker : ℕ) (own : List A) → worker ≡ length all % workers → IsDealt workers all worker own → IsDealt workers (all ++ x ∷ []) worker (own ++ x ∷ [])
  own_dealt all x worker own its dealt =
      let place = next_is all worker own its dealt in
      let longer : length (own ++ x ∷ []) ≡ length own + 1 = omega (arith, length-append own (x ∷ [])) in
      let product : length (own ++ x ∷ []) * workers ≡ length own * workers + workers = ap (λ m. m * workers) longer ∙ omega arith in
      record {
        each = λ turn y at. by turn y place (at_either own x turn y at);
        no_more = omega (arith, place, product, length-append all (x ∷ []));
        no_fewer = omega (arith, place, product, some, length-append all (x ∷ []));
      }
    where
      by : (turn : ℕ) (y : A) → length all ≡ length own * workers + worker → At own turn y ⊎ ((turn ≡ length own) × (y ≡ x)) → At (all ++ x ∷ []) (turn * workers + worker) y
      by turn y place (inl there) = at_front all (x ∷ []) (turn * workers + worker) y (dealt.each turn y there)
      by turn y place (inr (last, is)) =
          subst (λ z. At (all ++ x ∷ []) (turn * workers + worker) z) (sym is)
          (at_last all (turn * workers + worker) x (omega (arith, place, ap (λ m. m * workers) last)))

  -- one more is dealt
  pub deals_one : (all : List A) (x : A) (hands : List (List A)) (own : List A) → AreDealt workers all hands → At hands (length all % workers) own
      → AreDealt workers (all ++ x ∷ []) (set hands (length all % workers) (own ++ x ∷ []))
  deals_one all x hands own dealt its = record {
    count = length-set hands (length all % workers) (own ++ x ∷ []) ∙ dealt.count;
    each = λ worker hand at. by worker hand at (cases_eq worker (length all % workers));
  }
    where
      by : (worker : ℕ) (hand : List A) → At (set hands (length all % workers) (own ++ x ∷ [])) worker hand → (worker ≡ length all % workers) ⊎ (worker ≢ length all % workers)
          → IsDealt workers (all ++ x ∷ []) worker hand
      by worker hand at (inl its_turn) =
          let is : hand ≡ own ++ x ∷ [] = at_set_same hands (length all % workers) (own ++ x ∷ []) hand (subst (λ w. At (set hands (length all % workers) (own ++ x ∷ [])) w hand) its_turn at) in
          subst (IsDealt workers (all ++ x ∷ []) worker) (sym is)
          (own_dealt all x worker own its_turn (dealt.each worker own (subst (λ w. At hands w own) (sym its_turn) its)))
      by worker hand at (inr other) =
          let there = at_set_other hands (length all % workers) worker (own ++ x ∷ []) hand other at in
          other_dealt all x worker hand (omega (arith, at_below hands worker hand there, dealt.count)) other (dealt.each worker hand there)

  -- who has what was dealt, and where
  pub dealt_at : (all : List A) (hands : List (List A)) (number : ℕ) (x : A) → AreDealt workers all hands → At all number x
      → (own : List A) × At hands (number % workers) own × At own (number / workers) x
  dealt_at all hands number x dealt at =
      let below : number % workers < workers = mod_below number workers some in
      let hand = at_some hands (number % workers) (omega (arith, below, dealt.count)) in
      let own = dealt.each (number % workers) hand.0 hand.1 in
      let parts : number / workers * workers + number % workers ≡ number = div-add-mod' number workers in
      let less : number / workers * workers < length hand.0 * workers = omega (arith, parts, own.no_fewer, at_below all number x at) in
      let found = at_some hand.0 (number / workers) (lt_of_mul-lt-mul_right workers less) in
      let there = subst (λ n. At all n found.0) parts (own.each (number / workers) found.0 found.1) in
      (hand.0, hand.1, subst (λ y. At hand.0 (number / workers) y) (at_one all number found.0 x there at) found.1)

  -- where what a worker has was dealt from
  pub dealt_from : (all : List A) (worker : ℕ) (own : List A) (turn : ℕ) → IsDealt workers all worker own → turn < length own → turn * workers + worker < length all
  dealt_from all worker own turn dealt below =
      let product : (turn + 1) * workers ≤ length own * workers = mul-le-mul_right workers (omega (arith, below)) in
      omega (arith, product, dealt.no_more)

-- none is dealt yet
pub none_dealt : {A : Type 0} (workers : ℕ) (hands : List (List A)) → length hands ≡ workers → ((worker : ℕ) (own : List A) → At hands worker own → own ≡ []) → AreDealt workers [] hands
none_dealt {A} workers hands count empty = record {
  count = count;
  each = λ worker own at. by worker own (empty worker own at) (omega (arith, at_below hands worker own at, count));
}
  where
    by : (worker : ℕ) (own : List A) → own ≡ [] → worker < workers → IsDealt workers [] worker own
    by worker own is below = subst (IsDealt workers [] worker) (sym is) (record {
      each = λ turn x at. absurd at;
      no_more = omega (arith, below);
      no_fewer = omega arith;
    })

-- HANDS, which hold what `items_of` says

module _ {H A : Type 0} (items_of : H → List A) where
  map_set : (hands : List H) (k : ℕ) (hand : H) → map items_of (set hands k hand) ≡ set (map items_of hands) k (items_of hand)
  map_set [] k hand = refl
  map_set (h ∷ hands) zero hand = refl
  map_set (h ∷ hands) (suc k) hand = ap (λ hs. items_of h ∷ hs) (map_set hands k hand)

  -- one more empty hand
  pub one_empty : (hands hands' : List H) (hand : H) → hands' ≡ hands ++ hand ∷ [] → items_of hand ≡ [] → ((k : ℕ) (h : H) → At hands k h → items_of h ≡ [])
      → (k : ℕ) (h : H) → At hands' k h → items_of h ≡ []
  one_empty hands hands' hand is none all k h at = by (at_either hands hand k h (subst (λ hs. At hs k h) is at))
    where
      by : At hands k h ⊎ ((k ≡ length hands) × (h ≡ hand)) → items_of h ≡ []
      by (inl there) = all k h there
      by (inr (last, same)) = ap items_of same ∙ none

  -- so many empty hands
  pub all_empty : (workers : ℕ) (hands : List H) → length hands ≡ workers → ((k : ℕ) (h : H) → At hands k h → items_of h ≡ []) → AreDealt workers [] (map items_of hands)
  all_empty workers hands count none =
      none_dealt workers (map items_of hands) (length-map hands items_of ∙ count)
      (λ worker own at. let hand = unmap_at items_of hands worker own at in hand.2 ∙ none worker hand.0 hand.1)

  -- one more is dealt, to the hand at its place
  pub deals_next : (workers : ℕ) → 0 < workers → (all : List A) (x : A) (number : ℕ) (hands : List H) (old new : H) → number ≡ length all → AreDealt workers all (map items_of hands)
      → old ≡ get_or hands (number % workers) old → items_of new ≡ items_of old ++ x ∷ [] → AreDealt workers (all ++ x ∷ []) (map items_of (set hands (number % workers) new))
  deals_next workers some all x number hands old new is dealt at grown =
      let below : number % workers < length hands = omega (arith, mod_below number workers some, dealt.count, length-map hands items_of) in
      let there : At (map items_of hands) (number % workers) (items_of old) =
      at_map items_of hands (number % workers) old (subst (λ h. At hands (number % workers) h) (sym at) (at_read hands (number % workers) old below)) in
      let place : At (map items_of hands) (length all % workers) (items_of old) = subst (λ n. At (map items_of hands) (n % workers) (items_of old)) is there in
      subst (AreDealt workers (all ++ x ∷ [])) (sym (map_set hands (number % workers) new))
      (subst (λ own. AreDealt workers (all ++ x ∷ []) (set (map items_of hands) (number % workers) own)) (sym grown)
      (subst (λ n. AreDealt workers (all ++ x ∷ []) (set (map items_of hands) (n % workers) (items_of old ++ x ∷ []))) (sym is)
      (deals_one workers some all x (map items_of hands) (items_of old) dealt place)))

pub rest_goes_on : {W : Type 0} (all done rest rest' : List W) (one : W) → all ≡ done ++ rest → rest ≡ one ∷ rest' → all ≡ (done ++ one ∷ []) ++ rest'
rest_goes_on all done rest rest' one are next = are ∙ (ap (λ r. done ++ r) next ∙ sym (append_assoc done (one ∷ []) rest'))

pub none_left : {W : Type 0} (rest : List W) → length rest ≡ 0 → rest ≡ []
none_left [] none = refl
none_left (first ∷ rest) none = absurd (omega (arith, none))

pub all_done : {W : Type 0} (all done rest : List W) → all ≡ done ++ rest → rest ≡ [] → all ≡ done
all_done all done rest are none = are ∙ (ap (λ r. done ++ r) none ∙ append-nil done)
