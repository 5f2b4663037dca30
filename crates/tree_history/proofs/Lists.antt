-- Filters one after another, and elements put in their place.
use Rattle.std.proofs.Common.{◌≡◌, suc, Bool, true, false, cond, List, [], ◌∷◌, ◌++◌, reverse, refl, ap, sym, ◌∙◌, inl, inr, arith}
use Rattle.std.specs.List.{All, AllPairs, filter}
use Rattle.std.specs.Ordering.{is_lt}
use Rattle.std.specs.Cmp.{IsStrictWeakOrder}
use Rattle.std.specs.declared.cmp.Ordering.{Ordering}
use Rattle.std.specs.declared.cmp.Ordering.TheVariants.{Less, Equal, Greater}
use Rattle.std.proofs.lemmas.Bool.{cases_Bool, both_ways, false_from_ne_true}
use Rattle.std.proofs.lemmas.List.{append-nil, reverse-append}
use Rattle.std.proofs.lemmas.List.Elements.{All-cons, All-head, All-tail, All-append, All-weaker, filter-append, filter_passes}
use Rattle.std.proofs.lemmas.List.Kept.{AllPairs-cons, AllPairs-filter}
use Rattle.std.proofs.lemmas.List.Sorted.{ranks_by}
use Rattle.arc_core.specs.declared.bkeys.Bkey.{Bkey}
use Rattle.arc_core.specs.declared.trees.Elem.{Elem}
use Rattle.arc_core.specs.BkeyOrder.{bkey_cmp}
use Rattle.arc_core.specs.BkeyLaws.{bkey_cmp_total}
use Rattle.arc_core.specs.TreeContents.{is_above, is_below, with_element}
use Rattle.tree_history.specs.Agreement.{AreByBkey}

-- FILTERS

module _ {X : Type 0} where
  pub taken_in : (p : X → Bool) (x : X) (xs : List X) → p x ≡ true → filter p (x ∷ xs) ≡ x ∷ filter p xs
  taken_in p x xs passes = rw passes refl

  pub left_out : (p : X → Bool) (x : X) (xs : List X) → p x ≡ false → filter p (x ∷ xs) ≡ filter p xs
  left_out p x xs fails = rw fails refl

  -- in either order
  pub filter_comm : (p q : X → Bool) (xs : List X) → filter p (filter q xs) ≡ filter q (filter p xs)
  filter_comm p q [] = refl
  filter_comm p q (x ∷ xs) = elim (cases_Bool (p x)) [
    | inl holds ↦ elim (cases_Bool (q x)) [
      | inl too ↦ ap (filter p) (taken_in q x xs too) ∙ (taken_in p x (filter q xs) holds ∙ (ap (λ ys. x ∷ ys) (filter_comm p q xs)
          ∙ (sym (taken_in q x (filter p xs) too) ∙ sym (ap (filter q) (taken_in p x xs holds)))))
      | inr fails_too ↦ ap (filter p) (left_out q x xs fails_too) ∙ (filter_comm p q xs ∙ (sym (left_out q x (filter p xs) fails_too) ∙ sym (ap (filter q) (taken_in p x xs holds))))
    ]
    | inr fails ↦ elim (cases_Bool (q x)) [
      | inl too ↦ ap (filter p) (taken_in q x xs too) ∙ (left_out p x (filter q xs) fails ∙ (filter_comm p q xs ∙ sym (ap (filter q) (left_out p x xs fails))))
      | inr fails_too ↦ ap (filter p) (left_out q x xs fails_too) ∙ (filter_comm p q xs ∙ sym (ap (filter q) (left_out p x xs fails)))
    ]
  ]

  -- a test that passes wherever two others do
  pub filter_within : (p r q : X → Bool) (xs : List X) → ((x : X) → p x ≡ true → r x ≡ true → q x ≡ true) → filter p (filter r (filter q xs)) ≡ filter p (filter r xs)
  filter_within p r q [] implied = refl
  filter_within p r q (x ∷ xs) implied = elim (cases_Bool (q x)) [
    | inl passes ↦ ap (λ ys. filter p (filter r ys)) (taken_in q x xs passes) ∙ elim (cases_Bool (r x)) [
      | inl in_r ↦ ap (filter p) (taken_in r x (filter q xs) in_r) ∙ (ap (λ ys. cond (p x) (x ∷ ys) ys) (filter_within p r q xs implied) ∙ sym (ap (filter p) (taken_in r x xs in_r)))
      | inr out ↦ ap (filter p) (left_out r x (filter q xs) out) ∙ (filter_within p r q xs implied ∙ sym (ap (filter p) (left_out r x xs out)))
    ]
    | inr fails ↦ ap (λ ys. filter p (filter r ys)) (left_out q x xs fails) ∙ (filter_within p r q xs implied ∙ elim (cases_Bool (r x)) [
      | inl in_r ↦
          let not_p : p x ≡ false = false_from_ne_true (p x) (λ holds. both_ways (q x) fails (implied x holds in_r)) in
          sym (ap (filter p) (taken_in r x xs in_r) ∙ left_out p x (filter r xs) not_p)
      | inr out ↦ sym (ap (filter p) (left_out r x xs out))
    ])
  ]

  -- a test that passes wherever another does
  pub filter_implied : (p q : X → Bool) (xs : List X) → ((x : X) → p x ≡ true → q x ≡ true) → filter p (filter q xs) ≡ filter p xs
  filter_implied p q [] implied = refl
  filter_implied p q (x ∷ xs) implied = elim (cases_Bool (q x)) [
    | inl passes ↦ ap (filter p) (taken_in q x xs passes) ∙ ap (λ ys. cond (p x) (x ∷ ys) ys) (filter_implied p q xs implied)
    | inr fails ↦
        let not_p : p x ≡ false = false_from_ne_true (p x) (λ holds. both_ways (q x) fails (implied x holds)) in
        ap (filter p) (left_out q x xs fails) ∙ (filter_implied p q xs implied ∙ sym (left_out p x xs not_p))
  ]

  pub filter_none : (p : X → Bool) (xs : List X) → All (λ x. p x ≡ false) xs → filter p xs ≡ []
  filter_none p [] all = refl
  filter_none p (x ∷ xs) all = let P : X → Type 0 = λ y. p y ≡ false in left_out p x xs (All-head P x xs all) ∙ filter_none p xs (All-tail P x xs all)

  -- a test that fails wherever another passes
  pub filter_apart : (p q : X → Bool) (xs : List X) → ((x : X) → p x ≡ true → q x ≡ false) → filter p (filter q xs) ≡ []
  filter_apart p q xs apart =
      filter_none p (filter q xs) (All-weaker (λ x. q x ≡ true) (λ x. p x ≡ false) (λ x passes. false_from_ne_true (p x) (λ holds. both_ways (q x) (apart x holds) passes)) (filter q xs) (filter_passes q xs))

  pub filter-reverse : (p : X → Bool) (xs : List X) → filter p (reverse xs) ≡ reverse (filter p xs)
  filter-reverse p [] = refl
  filter-reverse p (x ∷ xs) =
      ap (filter p) (reverse-append (x ∷ []) xs) ∙ (filter-append p (reverse xs) (x ∷ []) ∙ (ap (λ ys. ys ++ filter p (x ∷ [])) (filter-reverse p xs) ∙ elim (cases_Bool (p x)) [
        | inl holds ↦ ap (λ ys. reverse (filter p xs) ++ ys) (taken_in p x [] holds) ∙ (sym (reverse-append (x ∷ []) (filter p xs)) ∙ ap reverse (sym (taken_in p x xs holds)))
        | inr fails_too ↦ ap (λ ys. reverse (filter p xs) ++ ys) (left_out p x [] fails_too) ∙ (append-nil (reverse (filter p xs)) ∙ ap reverse (sym (left_out p x xs fails_too)))
      ]))

  -- LISTS THAT AGREE WHERE A TEST PASSES

  -- they do where a narrower one passes
  pub agree_narrower : (c d : X → Bool) (xs ys : List X) → ((x : X) → d x ≡ true → c x ≡ true) → filter c xs ≡ filter c ys → filter d xs ≡ filter d ys
  agree_narrower c d xs ys narrower same = sym (filter_implied d c xs narrower) ∙ (ap (filter d) same ∙ filter_implied d c ys narrower)

  pub agree_filter : (c q : X → Bool) (xs ys : List X) → filter c xs ≡ filter c ys → filter c (filter q xs) ≡ filter c (filter q ys)
  agree_filter c q xs ys same = filter_comm c q xs ∙ (ap (filter q) same ∙ filter_comm q c ys)

  pub AllPairs-tail : (R : X → X → Type 0) (x : X) (xs : List X) → AllPairs R (x ∷ xs) → AllPairs R xs
  AllPairs-tail R x xs all i j d order within = all (suc i) (suc j) d (omega arith) (omega arith)

  pub AllPairs-head : (R : X → X → Type 0) (x : X) (xs : List X) → AllPairs R (x ∷ xs) → All (R x) xs
  AllPairs-head R x xs all k d within = all 0 (suc k) d (omega arith) (omega arith)

  pub AllPairs-append : (R : X → X → Type 0) (xs ys : List X) → AllPairs R xs → AllPairs R ys → All (λ x. All (R x) ys) xs → AllPairs R (xs ++ ys)
  AllPairs-append R [] ys first second between = second
  AllPairs-append R (x ∷ xs) ys first second between =
      let P : X → Type 0 = λ z. All (R z) ys in
      AllPairs-cons R x (xs ++ ys) (All-append (R x) xs ys (AllPairs-head R x xs first) (All-head P x xs between)) (AllPairs-append R xs ys (AllPairs-tail R x xs first) second (All-tail P x xs between))

-- ORDER OF BKEYS

abbrev is_lower : Bkey → Bkey → Bool
is_lower a b = is_lt (bkey_cmp a b)

weak : IsStrictWeakOrder (λ (x y : Bkey). is_lt (bkey_cmp x y))
weak = ranks_by bkey_cmp_total (λ (bkey : Bkey). bkey)

pub one_way : (a b : Bkey) → is_lt (bkey_cmp a b) ≡ true → is_lt (bkey_cmp b a) ≡ false
one_way a b first = weak.one_way a b first

pub not_itself : (a : Bkey) → is_lt (bkey_cmp a a) ≡ false
not_itself a = false_from_ne_true (is_lower a a) (λ holds. both_ways (is_lower a a) (one_way a a holds) holds)

true_else : (b : Bool) → (b ≡ false → ⊥) → b ≡ true
true_else true other = refl
true_else false other = absurd (other refl)

-- what is not above a bkey, and that one below another
pub up_then_below : (a b c : Bkey) → is_lt (bkey_cmp b a) ≡ false → is_lt (bkey_cmp b c) ≡ true → is_lt (bkey_cmp a c) ≡ true
up_then_below a b c upto below = true_else (is_lower a c) (λ none. both_ways (is_lower b c) (weak.chain b a c upto none) below)

pub below_then_up : (a b c : Bkey) → is_lt (bkey_cmp a b) ≡ true → is_lt (bkey_cmp c b) ≡ false → is_lt (bkey_cmp a c) ≡ true
below_then_up a b c below upto = true_else (is_lower a c) (λ none. both_ways (is_lower a b) (weak.chain a c b none upto) below)

pub below_twice : (a b c : Bkey) → is_lt (bkey_cmp a b) ≡ true → is_lt (bkey_cmp b c) ≡ true → is_lt (bkey_cmp a c) ≡ true
below_twice a b c first second = below_then_up a b c first (one_way b c second)

pub less : (o : Ordering) → is_lt o ≡ true → o ≡ Less
less Less is = refl
less Equal is = cc is
less Greater is = cc is

-- AN ELEMENT IN ITS PLACE

pub agree_with : (c : Elem → Bool) (element : Elem) (xs ys : List Elem) → filter c xs ≡ filter c ys → filter c (with_element element xs) ≡ filter c (with_element element ys)
agree_with c element xs ys same =
    let below = is_below element.bkey in
    let above = is_above element.bkey in
    filter-append c (filter below xs) (element ∷ filter above xs)
    ∙ (ap (λ zs. zs ++ filter c (element ∷ filter above xs)) (agree_filter c below xs ys same)
    ∙ (ap (λ zs. filter c (filter below ys) ++ cond (c element) (element ∷ zs) zs) (agree_filter c above xs ys same)
    ∙ sym (filter-append c (filter below ys) (element ∷ filter above ys))))

-- where only greater elements pass, and where only smaller ones do, the element itself does not count
pub with_low : (c : Elem → Bool) (element : Elem) (xs : List Elem) → ((x : Elem) → c x ≡ true → is_lt (bkey_cmp element.bkey x.bkey) ≡ true) → filter c (with_element element xs) ≡ filter c xs
with_low c element xs greater =
    let below = is_below element.bkey in
    let above = is_above element.bkey in
    let itself : c element ≡ false = false_from_ne_true (c element) (λ holds. both_ways (is_lower element.bkey element.bkey) (not_itself element.bkey) (greater element holds)) in
    filter-append c (filter below xs) (element ∷ filter above xs)
    ∙ (ap (λ zs. zs ++ filter c (element ∷ filter above xs)) (filter_apart c below xs (λ x passes. one_way element.bkey x.bkey (greater x passes)))
    ∙ (left_out c element (filter above xs) itself ∙ filter_implied c above xs greater))

pub with_high : (c : Elem → Bool) (element : Elem) (xs : List Elem) → ((x : Elem) → c x ≡ true → is_lt (bkey_cmp x.bkey element.bkey) ≡ true) → filter c (with_element element xs) ≡ filter c xs
with_high c element xs smaller =
    let below = is_below element.bkey in
    let above = is_above element.bkey in
    let itself : c element ≡ false = false_from_ne_true (c element) (λ holds. both_ways (is_lower element.bkey element.bkey) (not_itself element.bkey) (smaller element holds)) in
    filter-append c (filter below xs) (element ∷ filter above xs)
    ∙ (ap (λ zs. filter c (filter below xs) ++ zs) (left_out c element (filter above xs) itself ∙ filter_apart c above xs (λ x passes. one_way x.bkey element.bkey (smaller x passes)))
    ∙ (append-nil (filter c (filter below xs)) ∙ filter_implied c below xs smaller))

-- the bkeys rise still
pub with_rises : (element : Elem) (xs : List Elem) → AreByBkey xs → AreByBkey (with_element element xs)
with_rises element xs rise =
    let R : Elem → Elem → Type 0 = λ x y. bkey_cmp x.bkey y.bkey ≡ Less in
    let below = is_below element.bkey in
    let above = is_above element.bkey in
    let lower : All (λ (x : Elem). R x element) (filter below xs) =
    All-weaker (λ (x : Elem). below x ≡ true) (λ (x : Elem). R x element) (λ x is. less (bkey_cmp x.bkey element.bkey) is) (filter below xs) (filter_passes below xs) in
    let higher : All (R element) (filter above xs) =
    All-weaker (λ (x : Elem). above x ≡ true) (R element) (λ x is. less (bkey_cmp element.bkey x.bkey) is) (filter above xs) (filter_passes above xs) in
    AllPairs-append R (filter below xs) (element ∷ filter above xs) (AllPairs-filter R below xs rise) (AllPairs-cons R element (filter above xs) higher (AllPairs-filter R above xs rise))
    (All-weaker (λ (x : Elem). R x element) (λ (x : Elem). All (R x) (element ∷ filter above xs))
    (λ x is. All-cons (R x) element (filter above xs) is (All-weaker (R element) (R x) (λ y next. bkey_cmp_total.trans x.bkey element.bkey y.bkey is next) (filter above xs) higher))
    (filter below xs) lower)
