-- The smallest and the greatest bkey of elements with a new one.
use Rattle.std.proofs.Common.{◌≡◌, ◌≢◌, ℕ, zero, suc, ◌+◌, ◌-◌, ◌<◌, Bool, true, false, ◌&&◌, List, [], ◌∷◌, ◌++◌, length, get_or, take, drop, refl, ap, sym, ◌∙◌, subst, inl, inr, Some, arith}
use Rattle.std.specs.List.{All, slice_get}
use Rattle.std.specs.Ordering.{is_lt, is_eq, ordering_reverse}
use Rattle.std.specs.declared.cmp.Ordering.{Ordering}
use Rattle.std.specs.declared.cmp.Ordering.TheVariants.{Less, Equal, Greater}
use Rattle.std.proofs.lemmas.Bool.{cases_eq}
use Rattle.std.proofs.lemmas.Bool.Decides.{nat_tests}
use Rattle.std.proofs.lemmas.List.{append-nil, length-append, take-append-drop, take_all, drop_all, drop_more, get_or-append-add, get_or-drop, get_or_default, length-drop}
use Rattle.std.proofs.lemmas.List.Elements.{All-head, All-cons, All-nil}
use Rattle.std.proofs.lemmas.Option.{slice_get_within, get_or_from_slice_get}
use Rattle.arc_core.specs.declared.bkeys.Bkey.{Bkey}
use Rattle.arc_core.specs.declared.bkeys.Bkey.TheVariants.{Number, Bytes}
use Rattle.arc_core.specs.declared.trees.Elem.{Elem}
use Rattle.arc_core.specs.BkeyOrder.{bkey_cmp}
use Rattle.arc_core.specs.BkeyLaws.{bkey_cmp_total}
use Rattle.arc_core.specs.Settling.{is_same, is_too_wide, least, greatest}
use Rattle.arc_core.specs.TreeContents.{is_below, is_above, with_element}
use Rattle.overflow_trim.specs.NewPlace.{IsNewAt}
use Rattle.overflow_trim.proofs.AroundLemmas.{with_front, with_back}

tie : (o : Ordering) → o ≡ ordering_reverse o → is_eq o ≡ true
tie Less is = cc is
tie Equal is = refl
tie Greater is = cc is

-- a bkey is itself
pub same_self : (bkey : Bkey) → is_same bkey bkey ≡ true
same_self bkey = tie (bkey_cmp bkey bkey) (bkey_cmp_total.antisymm bkey bkey)

lt_not_eq : (o : Ordering) → is_lt o ≡ true → is_eq o ≡ false
lt_not_eq Less is = refl
lt_not_eq Equal is = cc is
lt_not_eq Greater is = refl

gt_not_eq : (o p : Ordering) → p ≡ ordering_reverse o → is_lt o ≡ true → is_eq p ≡ false
gt_not_eq Less p rev lt = ap is_eq rev
gt_not_eq Equal p rev lt = cc lt
gt_not_eq Greater p rev lt = cc lt

-- what is below or above a bkey is another one
pub below_other : (bkey : Bkey) (x : Elem) → is_below bkey x ≡ true → is_same bkey x.bkey ≡ false
below_other bkey x below = gt_not_eq (bkey_cmp x.bkey bkey) (bkey_cmp bkey x.bkey) (bkey_cmp_total.antisymm bkey x.bkey) below

pub above_other : (bkey : Bkey) (x : Elem) → is_above bkey x ≡ true → is_same bkey x.bkey ≡ false
above_other bkey x above = lt_not_eq (bkey_cmp bkey x.bkey) above

-- the last of a list
last_of : (d x : Elem) (ys : List Elem) → get_or (ys ++ x ∷ []) (length (ys ++ x ∷ []) - 1) d ≡ x
last_of d x ys =
    let count : length (ys ++ x ∷ []) - 1 ≡ length ys + 0 = omega (arith, length-append ys (x ∷ [])) in
    ap (λ n. get_or (ys ++ x ∷ []) n d) count ∙ get_or-append-add ys (x ∷ []) 0 d

-- at its place the first or the last, the new element is the least or the greatest
pub least_new : (e : Elem) (xs : List Elem) (n : ℕ) → IsNewAt e.bkey xs n → n ≡ 0 → least e (with_element e xs) ≡ e.bkey
least_new e xs n at first =
    let above = subst (λ k. All (λ x. is_above e.bkey x ≡ true) (drop k xs)) first at.behind in
    ap (least e) (with_back e [] xs above)

pub greatest_new : (e : Elem) (xs : List Elem) (n : ℕ) → IsNewAt e.bkey xs n → n ≡ length xs → greatest e (with_element e xs) ≡ e.bkey
greatest_new e xs n at last =
    let below = subst (λ ys. All (λ x. is_below e.bkey x ≡ true) ys) (ap (λ k. take k xs) last ∙ take_all (length xs) xs (omega arith)) at.before in
    ap (λ ys. greatest e (with_element e ys)) (sym (append-nil xs))
    ∙ (ap (greatest e) (with_front e xs [] below) ∙ ap (λ (x : Elem). x.bkey) (last_of e e xs))

-- the first element stands before a new one that has another place
pub first_below : (e x : Elem) (rest : List Elem) (n : ℕ) → IsNewAt e.bkey (x ∷ rest) n → n ≢ 0 → is_below e.bkey x ≡ true
first_below e x rest zero at some = absurd (some refl)
first_below e x rest (suc n) at some = All-head (λ y. is_below e.bkey y ≡ true) x (take n rest) at.before

pub least_first : (e x : Elem) (rest : List Elem) → is_below e.bkey x ≡ true → least e (with_element e (x ∷ rest)) ≡ x.bkey
least_first e x rest below = ap (least e) (with_front e (x ∷ []) rest (All-cons (λ y. is_below e.bkey y ≡ true) x [] below (All-nil (λ y. is_below e.bkey y ≡ true))))

-- A first element, and the others.
pub record HasFirst (xs : List Elem) (x : Elem) : Type 0 where
  pub rest : List Elem
  pub is : xs ≡ x ∷ rest

pub first_of : (xs : List Elem) (x : Elem) → slice_get xs 0 ≡ Some x → HasFirst xs x
first_of [] x is = absurd (omega (arith, slice_get_within [] 0 x is))
first_of (y ∷ ys) x is = record { rest = ys; is = ap (λ (z : Elem). z ∷ ys) (get_or_from_slice_get (y ∷ ys) 0 x y is) }

pub first_read : (xs : List Elem) (d : Elem) → 0 < length xs → HasFirst xs (get_or xs 0 d)
first_read [] d some = absurd (omega arith)
first_read (y ∷ ys) d some = record { rest = ys; is = refl }

-- the last element stands behind a new one that has another place
pub last_alone : (xs : List Elem) (x : Elem) → 0 < length xs → get_or xs (length xs - 1) x ≡ x → drop (length xs - 1) xs ≡ x ∷ []
last_alone xs x some is =
    let m = length xs - 1 in
    let none : drop (m + 1) xs ≡ [] = drop_all (m + 1) xs (omega arith) in
    drop_more xs m x (omega arith) ∙ (ap (λ (y : Elem). y ∷ drop (m + 1) xs) is ∙ ap (λ ys. x ∷ ys) none)

pub split_last : (xs : List Elem) (x : Elem) → 0 < length xs → get_or xs (length xs - 1) x ≡ x → xs ≡ take (length xs - 1) xs ++ x ∷ []
split_last xs x some is = let m = length xs - 1 in sym (take-append-drop m xs) ∙ ap (λ ys. take m xs ++ ys) (last_alone xs x some is)

pub last_above : (e x : Elem) (xs : List Elem) (n : ℕ) → IsNewAt e.bkey xs n → n < length xs → get_or xs (length xs - 1) x ≡ x → is_above e.bkey x ≡ true
last_above e x xs n at within is =
    let m = length xs - 1 in
    let here : n + (m - n) ≡ m = omega arith in
    ap (λ (y : Elem). is_above e.bkey y) (sym (get_or-drop n xs (m - n) x ∙ (ap (λ k. get_or xs k x) here ∙ is))) ∙ at.behind (m - n) x (omega (arith, length-drop n xs))

pub greatest_last : (e x : Elem) (xs : List Elem) → is_above e.bkey x ≡ true → 0 < length xs → get_or xs (length xs - 1) x ≡ x → greatest e (with_element e xs) ≡ x.bkey
greatest_last e x xs above some is =
    let front = take (length xs - 1) xs in
    ap (λ ys. greatest e (with_element e ys)) (split_last xs x some is)
    ∙ (ap (greatest e) (with_back e front (x ∷ []) (All-cons (λ y. is_above e.bkey y ≡ true) x [] above (All-nil (λ y. is_above e.bkey y ≡ true))))
    ∙ ap (λ (y : Elem). y.bkey) (last_of e x (with_element e front)))

-- TOO FAR APART

pub not_wide_self : (range : ℕ) (bkey : Bkey) → is_too_wide range bkey bkey ≡ false
not_wide_self range (Number n) = grind (arith, nat_tests)
not_wide_self range (Bytes bytes) = grind (arith, nat_tests)

and_false : (b : Bool) → (b && false) ≡ false
and_false true = refl
and_false false = refl

-- without a bound nothing is
pub unbounded : (range : ℕ) (same : Bool) (above below : Bkey) → range ≡ 0 → false ≡ (same && is_too_wide range above below)
unbounded range same above below none = rw none (sym (and_false same))

-- the new element is the least: it is not too far above itself
pub not_too_high : (range : ℕ) (e : Elem) (xs : List Elem) (n : ℕ) → IsNewAt e.bkey xs n → n ≡ 0
    → false ≡ (is_same e.bkey (greatest e (with_element e xs)) && is_too_wide range e.bkey (least e (with_element e xs)))
not_too_high range e xs n at first =
    let same = is_same e.bkey (greatest e (with_element e xs)) in
    sym (ap (λ b. same && is_too_wide range e.bkey b) (least_new e xs n at first) ∙ (ap (λ b. same && b) (not_wide_self range e.bkey) ∙ and_false same))

-- it is not the greatest
pub not_highest : (range : ℕ) (e : Elem) (xs : List Elem) (n : ℕ) → IsNewAt e.bkey xs n → n ≢ length xs
    → false ≡ (is_same e.bkey (greatest e (with_element e xs)) && is_too_wide range e.bkey (least e (with_element e xs)))
not_highest range e xs n at other =
    let within : n < length xs = omega (arith, at.within) in
    let x = get_or xs (length xs - 1) e in
    let is : get_or xs (length xs - 1) x ≡ x = get_or_default xs (length xs - 1) x e (omega arith) in
    let above = last_above e x xs n at within is in
    sym (ap (λ b. b && is_too_wide range e.bkey (least e (with_element e xs))) (ap (is_same e.bkey) (greatest_last e x xs above (omega arith) is) ∙ above_other e.bkey x above))

-- it is the greatest, and the least is another one
pub at_top : (range : ℕ) (e x : Elem) (xs : List Elem) (n : ℕ) → IsNewAt e.bkey xs n → n ≡ length xs → n ≢ 0 → slice_get xs 0 ≡ Some x
    → is_too_wide range e.bkey x.bkey ≡ (is_same e.bkey (greatest e (with_element e xs)) && is_too_wide range e.bkey (least e (with_element e xs)))
at_top range e x xs n at last some is =
    let first = first_of xs x is in
    let below = first_below e x first.rest n (subst (λ ys. IsNewAt e.bkey ys n) first.is at) some in
    let least_is : least e (with_element e xs) ≡ x.bkey = ap (λ ys. least e (with_element e ys)) first.is ∙ least_first e x first.rest below in
    let same : is_same e.bkey (greatest e (with_element e xs)) ≡ true = ap (is_same e.bkey) (greatest_new e xs n at last) ∙ same_self e.bkey in
    sym (ap (λ b. b && is_too_wide range e.bkey (least e (with_element e xs))) same ∙ ap (is_too_wide range e.bkey) least_is)

pub not_too_low : (range : ℕ) (e : Elem) (xs : List Elem) (n : ℕ) → IsNewAt e.bkey xs n → n ≡ length xs
    → false ≡ (is_same e.bkey (least e (with_element e xs)) && is_too_wide range (greatest e (with_element e xs)) e.bkey)
not_too_low range e xs n at last =
    let same = is_same e.bkey (least e (with_element e xs)) in
    sym (ap (λ b. same && is_too_wide range b e.bkey) (greatest_new e xs n at last) ∙ (ap (λ b. same && b) (not_wide_self range e.bkey) ∙ and_false same))

pub not_lowest : (range : ℕ) (e : Elem) (xs : List Elem) (n : ℕ) → IsNewAt e.bkey xs n → n ≢ 0
    → false ≡ (is_same e.bkey (least e (with_element e xs)) && is_too_wide range (greatest e (with_element e xs)) e.bkey)
not_lowest range e xs n at other =
    let first = first_read xs e (omega (arith, at.within)) in
    let x = get_or xs 0 e in
    let below = first_below e x first.rest n (subst (λ ys. IsNewAt e.bkey ys n) first.is at) other in
    let least_is : least e (with_element e xs) ≡ x.bkey = ap (λ ys. least e (with_element e ys)) first.is ∙ least_first e x first.rest below in
    sym (ap (λ b. b && is_too_wide range (greatest e (with_element e xs)) e.bkey) (ap (is_same e.bkey) least_is ∙ below_other e.bkey x below))

-- the element in the last place
pub last_read : (xs : List Elem) (x : Elem) (count : ℕ) → count ≡ length xs → slice_get xs (count - 1) ≡ Some x → get_or xs (length xs - 1) x ≡ x
last_read xs x count same is = ap (λ n. get_or xs (n - 1) x) (sym same) ∙ get_or_from_slice_get xs (count - 1) x x is

pub at_bottom : (range : ℕ) (e x : Elem) (xs : List Elem) (n : ℕ) → IsNewAt e.bkey xs n → n ≡ 0 → 0 < length xs → get_or xs (length xs - 1) x ≡ x
    → (far : Bool) → far ≡ is_too_wide range x.bkey e.bkey → far ≡ (is_same e.bkey (least e (with_element e xs)) && is_too_wide range (greatest e (with_element e xs)) e.bkey)
at_bottom range e x xs n at first some read far is =
    let above = last_above e x xs n at (omega arith) read in
    let same : is_same e.bkey (least e (with_element e xs)) ≡ true = ap (is_same e.bkey) (least_new e xs n at first) ∙ same_self e.bkey in
    is ∙ sym (ap (λ b. b && is_too_wide range (greatest e (with_element e xs)) e.bkey) same ∙ ap (λ b. is_too_wide range b e.bkey) (greatest_last e x xs above some read))

-- where it is the greatest or the least, its place is the last or the first
pub place_of_greatest : (range : ℕ) (e : Elem) (xs : List Elem) (n : ℕ) → IsNewAt e.bkey xs n → (is_same e.bkey (greatest e (with_element e xs)) && is_too_wide range e.bkey (least e (with_element e xs))) ≡ true → IsNewAt e.bkey xs (length xs)
place_of_greatest range e xs n at high =
    elim (cases_eq n (length xs)) [
      | inl last ↦ subst (IsNewAt e.bkey xs) last at
      | inr other ↦ let low = not_highest range e xs n at other in cc
    ]

pub place_of_least : (range : ℕ) (e : Elem) (xs : List Elem) (n : ℕ) → IsNewAt e.bkey xs n → (is_same e.bkey (least e (with_element e xs)) && is_too_wide range (greatest e (with_element e xs)) e.bkey) ≡ true → IsNewAt e.bkey xs 0
place_of_least range e xs n at low =
    elim (cases_eq n 0) [
      | inl first ↦ subst (IsNewAt e.bkey xs) first at
      | inr other ↦ let high = not_lowest range e xs n at other in cc
    ]
