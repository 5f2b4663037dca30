-- Elements below and above a bkey, and lists with a new element.
use Rattle.std.proofs.Common.{◌≡◌, ◌⊎◌, ℕ, suc, ◌+◌, ◌<◌, Bool, true, false, if◌then◌else◌, List, [], ◌∷◌, ◌++◌, length, get_or, take, drop, refl, ap, sym, ◌∙◌, subst, inl, inr, arith}
use Rattle.std.specs.List.{All, filter}
use Rattle.std.specs.Ordering.{is_lt, is_eq, ordering_reverse}
use Rattle.std.specs.declared.cmp.Ordering.{Ordering}
use Rattle.std.specs.declared.cmp.Ordering.TheVariants.{Less, Equal, Greater}
use Rattle.std.proofs.lemmas.List.{append-nil, append_assoc, get_or-drop, get_or_default, length-drop}
use Rattle.std.proofs.lemmas.List.Elements.{All-head, All-tail, All-cons, All-nil, All-append, All-filter, filter-append}
use Rattle.std.proofs.lemmas.List.Folds.{list_any-from_Any}
use Rattle.std.proofs.lemmas.List.Sums.{length-filter}
use Rattle.arc_core.specs.declared.bkeys.Bkey.{Bkey}
use Rattle.arc_core.specs.declared.trees.Elem.{Elem}
use Rattle.arc_core.specs.BkeyOrder.{bkey_cmp}
use Rattle.arc_core.specs.BkeyLaws.{bkey_cmp_total}
use Rattle.arc_core.specs.TreeContents.{IsRising, is_below, is_above, place_of, with_element}
use Rattle.btree_nodes.specs.Ways.{has_bkey}
use Rattle.btree_scan.specs.declared.positions.Position.{Position}
use Rattle.btree_scan.specs.declared.positions.Position.TheVariants.{At, Before}
use Rattle.btree_scan.specs.Positions.{position_in}
use Rattle.overflow_trim.specs.NewPlace.{IsCutAt, IsNewAt}

pub filter_none : (p : Elem → Bool) (xs : List Elem) → All (λ x. p x ≡ false) xs → filter p xs ≡ []
filter_none p [] all = refl
filter_none p (x ∷ xs) all = let P : Elem → Type 0 = λ x. p x ≡ false in rw (All-head P x xs all) (filter_none p xs (All-tail P x xs all))

pub filter_every : (p : Elem → Bool) (xs : List Elem) → All (λ x. p x ≡ true) xs → filter p xs ≡ xs
filter_every p [] all = refl
filter_every p (x ∷ xs) all = let P : Elem → Type 0 = λ x. p x ≡ true in rw (All-head P x xs all) (ap (λ ys. x ∷ ys) (filter_every p xs (All-tail P x xs all)))

-- a test is passed or not
pub bool_cases : (b : Bool) → (b ≡ true) ⊎ (b ≡ false)
bool_cases true = inl refl
bool_cases false = inr refl

less : (o : Ordering) → is_lt o ≡ true → o ≡ Less
less Less is = refl
less Equal is = cc is
less Greater is = cc is

turned : (o p : Ordering) → p ≡ ordering_reverse o → is_lt o ≡ true → is_lt p ≡ false
turned Less p rev lt = ap is_lt rev
turned Equal p rev lt = cc lt
turned Greater p rev lt = cc lt

above_by : (o p : Ordering) → p ≡ ordering_reverse o → is_lt o ≡ false → is_eq p ≡ false → is_lt p ≡ true
above_by Less p rev lt eq = cc lt
above_by Equal p rev lt eq = let e = ap is_eq rev in cc
above_by Greater p rev lt eq = ap is_lt rev

-- what is below a bkey is not above it, and the other way round
pub below_not_above : (bkey : Bkey) (x : Elem) → is_below bkey x ≡ true → is_above bkey x ≡ false
below_not_above bkey x below = turned (bkey_cmp x.bkey bkey) (bkey_cmp bkey x.bkey) (bkey_cmp_total.antisymm bkey x.bkey) below

pub above_not_below : (bkey : Bkey) (x : Elem) → is_above bkey x ≡ true → is_below bkey x ≡ false
above_not_below bkey x above = turned (bkey_cmp bkey x.bkey) (bkey_cmp x.bkey bkey) (bkey_cmp_total.antisymm x.bkey bkey) above

-- WITH A NEW ELEMENT

-- what is below it stays in front
pub with_front : (e : Elem) (T D : List Elem) → All (λ x. is_below e.bkey x ≡ true) T → with_element e (T ++ D) ≡ T ++ with_element e D
with_front e T D all =
    let below = is_below e.bkey in
    let above = is_above e.bkey in
    let front = filter-append below T D ∙ ap (λ ys. ys ++ filter below D) (filter_every below T all) in
    let back = filter-append above T D ∙ ap (λ ys. ys ++ filter above D) (filter_none above T (λ k d within. below_not_above e.bkey (get_or T k d) (all k d within))) in
    ap (λ ys. ys ++ e ∷ filter above (T ++ D)) front ∙ (ap (λ ys. (T ++ filter below D) ++ e ∷ ys) back ∙ append_assoc T (filter below D) (e ∷ filter above D))

-- what is above it stays behind
pub with_back : (e : Elem) (D T : List Elem) → All (λ x. is_above e.bkey x ≡ true) T → with_element e (D ++ T) ≡ with_element e D ++ T
with_back e D T all =
    let below = is_below e.bkey in
    let above = is_above e.bkey in
    let front = filter-append below D T ∙ (ap (λ ys. filter below D ++ ys) (filter_none below T (λ k d within. above_not_below e.bkey (get_or T k d) (all k d within))) ∙ append-nil (filter below D)) in
    let back = filter-append above D T ∙ ap (λ ys. filter above D ++ ys) (filter_every above T all) in
    ap (λ ys. ys ++ e ∷ filter above (D ++ T)) front ∙ (ap (λ ys. filter below D ++ e ∷ ys) back ∙ sym (append_assoc (filter below D) (e ∷ filter above D) T))

-- what holds of all elements and the new one
pub all_with : (P : Elem → Type 0) (e : Elem) (D : List Elem) → All P D → P e → All P (with_element e D)
all_with P e D all here =
    All-append P (filter (is_below e.bkey) D) (e ∷ filter (is_above e.bkey) D) (All-filter (is_below e.bkey) P D all)
    (All-cons P e (filter (is_above e.bkey) D) here (All-filter (is_above e.bkey) P D all))

-- PLACES

not_below_next : (bkey : Bkey) (x y : Elem) (b : Bool) → is_below bkey y ≡ b → bkey_cmp x.bkey y.bkey ≡ Less → is_below bkey x ≡ false → b ≡ false
not_below_next bkey x y true is before not_below = let both = ap is_lt (bkey_cmp_total.trans x.bkey y.bkey bkey before (less (bkey_cmp y.bkey bkey) is)) in cc
not_below_next bkey x y false is before not_below = refl

rising_rest : (x : Elem) (xs : List Elem) → IsRising (x ∷ xs) → IsRising xs
rising_rest x xs rising i j d before within = rising (suc i) (suc j) d (omega arith) (omega arith)

cut_more : (bkey : Bkey) (x : Elem) (xs : List Elem) (b : Bool) → is_below bkey x ≡ b → IsRising (x ∷ xs) → IsCutAt bkey xs (place_of bkey xs) → IsCutAt bkey (x ∷ xs) (place_of bkey (x ∷ xs))
cut_more bkey x xs true is rising cut =
    let p = is_below bkey in
    let n = place_of bkey xs in
    let first : filter p (x ∷ xs) ≡ x ∷ filter p xs = rw is refl in
    let count : suc n ≡ place_of bkey (x ∷ xs) = ap suc (sym (length-filter p xs)) ∙ (sym (ap length first) ∙ length-filter p (x ∷ xs)) in
    subst (IsCutAt bkey (x ∷ xs)) count
    (record { rising = rising; within = omega (arith, cut.within); before = All-cons (λ y. is_below bkey y ≡ true) x (take n xs) is cut.before; behind = cut.behind })
cut_more bkey x xs false is rising cut =
    let p = is_below bkey in
    let all = All-cons (λ y. is_below bkey y ≡ false) x xs is
    (λ k d within. not_below_next bkey x (get_or xs k d) (is_below bkey (get_or xs k d)) refl (rising 0 (suc k) d (omega arith) (omega arith)).below is) in
    let count : 0 ≡ place_of bkey (x ∷ xs) = sym (ap length (filter_none p (x ∷ xs) all)) ∙ length-filter p (x ∷ xs) in
    subst (IsCutAt bkey (x ∷ xs)) count
    (record { rising = rising; within = omega arith; before = All-nil (λ y. is_below bkey y ≡ true); behind = all })

-- a bkey's place is behind all smaller ones and before the others
pub place_cuts : (bkey : Bkey) (xs : List Elem) → IsRising xs → IsCutAt bkey xs (place_of bkey xs)
place_cuts bkey [] rising = record { rising = rising; within = omega arith; before = All-nil (λ y. is_below bkey y ≡ true); behind = All-nil (λ y. is_below bkey y ≡ false) }
place_cuts bkey (x ∷ xs) rising = cut_more bkey x xs (is_below bkey x) refl rising (place_cuts bkey xs (rising_rest x xs rising))

other_than : (bkey : Bkey) (xs : List Elem) (k : ℕ) (d : Elem) → has_bkey bkey xs ≡ false → k < length xs → is_eq (bkey_cmp bkey (get_or xs k d).bkey) ≡ false
other_than bkey xs k d absent within =
    let q : Elem → Bool = λ e. is_eq (bkey_cmp bkey e.bkey) in
    elim (bool_cases (q (get_or xs k d))) [
      | inl passed ↦ let any = list_any-from_Any q xs (k, get_or xs k d, within, get_or_default xs k (get_or xs k d) d within, passed) in cc
      | inr failed ↦ failed
    ]

-- behind a new bkey's place all is above it
pub new_at : (bkey : Bkey) (xs : List Elem) (n : ℕ) → IsCutAt bkey xs n → has_bkey bkey xs ≡ false → IsNewAt bkey xs n
new_at bkey xs n cut absent = record {
  rising = cut.rising;
  within = cut.within;
  before = cut.before;
  behind = λ k d within. let y = get_or (drop n xs) k d in
      above_by (bkey_cmp y.bkey bkey) (bkey_cmp bkey y.bkey) (bkey_cmp_total.antisymm bkey y.bkey) (cut.behind k d within)
      (ap (λ (x : Elem). is_eq (bkey_cmp bkey x.bkey)) (get_or-drop n xs k d) ∙ other_than bkey xs (n + k) d absent (omega (arith, within, length-drop n xs, cut.within)));
}

-- the place that a position names
abbrev pub position_number : Position → ℕ
position_number (At place) = place
position_number (Before place) = place

number_either : (b : Bool) (place : ℕ) → position_number (if b then At place else Before place) ≡ place
number_either true place = refl
number_either false place = refl

pub position_cuts : (bkey : Bkey) (xs : List Elem) (position : Position) → IsRising xs → position ≡ position_in bkey xs → IsCutAt bkey xs (position_number position)
position_cuts bkey xs position rising is =
    subst (IsCutAt bkey xs) (sym (ap position_number is ∙ number_either (has_bkey bkey xs) (place_of bkey xs))) (place_cuts bkey xs rising)
