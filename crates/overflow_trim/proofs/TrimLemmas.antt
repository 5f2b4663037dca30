-- What trims leave of elements with a new one.
use Rattle.std.proofs.Common.{◌≡◌, ◌≢◌, ℕ, zero, suc, ◌+◌, ◌-◌, ◌<◌, ◌≤◌, Bool, true, false, not, cond, ◌&&◌, nat_lt, ◌==◌, List, [], ◌∷◌, ◌++◌, length, get_or, take, drop, refl, ap, sym, ◌∙◌, subst, arith}
use Rattle.std.specs.List.{All, filter}
use Rattle.std.specs.Ordering.{is_lt, is_gt, is_eq, nat_cmp, ordering_reverse}
use Rattle.std.specs.declared.cmp.Ordering.{Ordering}
use Rattle.std.specs.declared.cmp.Ordering.TheVariants.{Less, Equal, Greater}
use Rattle.std.proofs.lemmas.Bool.Decides.{nat_tests}
use Rattle.std.proofs.lemmas.List.{append-nil, take-append-drop, take_all, length-take-le, get_or-take, get_or_default}
use Rattle.std.proofs.lemmas.List.Elements.{All-cons, All-nil, All-take, All-drop, filter-append}
use Rattle.arc_core.specs.declared.bkeys.Bkey.{Bkey}
use Rattle.arc_core.specs.declared.bkeys.Bkey.TheVariants.{Number, Bytes}
use Rattle.arc_core.specs.declared.collections.Action.{Action}
use Rattle.arc_core.specs.declared.collections.Side.TheVariants.{Low, High}
use Rattle.arc_core.specs.declared.trees.Elem.{Elem}
use Rattle.arc_core.specs.BkeyOrder.{bkey_cmp}
use Rattle.arc_core.specs.BkeyLaws.{bkey_cmp_total}
use Rattle.arc_core.specs.Settling.{stored, out_of_range, overflowed, is_same, is_too_wide, least, greatest, lowered, raised, parted, trims_smallest, trims_greatest, settled_above, settled_below, settled_full}
use Rattle.arc_core.specs.TreeContents.{is_below, is_above, with_element}
use Rattle.overflow_trim.specs.NewPlace.{IsCutAt, IsCutAbove, IsNewAt}
use Rattle.overflow_trim.proofs.AroundLemmas.{filter_none, filter_every, with_front, with_back, all_with}
use Rattle.overflow_trim.proofs.EndLemmas.{same_self, below_other, above_other, first_read, first_below, least_first, least_new, last_alone, split_last, last_above, greatest_last, greatest_new, not_wide_self}

-- the first elements go
parted_low : (stays : Bkey → Bool) (e : Elem) (T D : List Elem) → All (λ x. is_below e.bkey x ≡ true) T → All (λ x. stays x.bkey ≡ false) T → All (λ x. stays x.bkey ≡ true) D → stays e.bkey ≡ true
    → stored (with_element e D) T ≡ parted stays (with_element e (T ++ D))
parted_low stays e T D below go stay here =
    let p : Elem → Bool = λ x. stays x.bkey in
    let q : Elem → Bool = λ x. not (stays x.bkey) in
    let W = with_element e D in
    let all = all_with (λ x. p x ≡ true) e D stay here in
    let kept = filter-append p T W ∙ (ap (λ ys. ys ++ filter p W) (filter_none p T go) ∙ filter_every p W all) in
    let trimmed = filter-append q T W ∙ (ap (λ ys. ys ++ filter q W) (filter_every q T (λ k d within. ap not (go k d within))) ∙ (ap (λ ys. T ++ ys) (filter_none q W (λ k d within. ap not (all k d within))) ∙ append-nil T)) in
    sym (ap (parted stays) (with_front e T D below) ∙ (ap (λ ys. stored ys (filter q (T ++ W))) kept ∙ ap (λ ys. stored W ys) trimmed))

-- the last elements go
parted_high : (stays : Bkey → Bool) (e : Elem) (D T : List Elem) → All (λ x. is_above e.bkey x ≡ true) T → All (λ x. stays x.bkey ≡ false) T → All (λ x. stays x.bkey ≡ true) D → stays e.bkey ≡ true
    → stored (with_element e D) T ≡ parted stays (with_element e (D ++ T))
parted_high stays e D T above go stay here =
    let p : Elem → Bool = λ x. stays x.bkey in
    let q : Elem → Bool = λ x. not (stays x.bkey) in
    let W = with_element e D in
    let all = all_with (λ x. p x ≡ true) e D stay here in
    let kept = filter-append p W T ∙ (ap (λ ys. filter p W ++ ys) (filter_none p T go) ∙ (append-nil (filter p W) ∙ filter_every p W all)) in
    let trimmed = filter-append q W T ∙ (ap (λ ys. ys ++ filter q T) (filter_none q W (λ k d within. ap not (all k d within))) ∙ filter_every q T (λ k d within. ap not (go k d within))) in
    sym (ap (parted stays) (with_back e D T above) ∙ (ap (λ ys. stored ys (filter q (W ++ T))) kept ∙ ap (λ ys. stored W ys) trimmed))

-- COMPARISONS

lt_cond : (a b : Bool) → is_lt (cond a Less (cond b Equal Greater)) ≡ a
lt_cond true b = refl
lt_cond false true = refl
lt_cond false false = refl

lt_is : (x y : ℕ) → is_lt (nat_cmp x y) ≡ nat_lt x y
lt_is x y = lt_cond (nat_lt x y) (x == y)

not_under : (n range : ℕ) → not (nat_lt n (n - range)) ≡ true
not_under n range = grind (arith, nat_tests)

not_over : (n range : ℕ) → not (nat_lt (n + range) n) ≡ true
not_over n range = grind (arith, nat_tests)

next_number : (n m : ℕ) → nat_lt n m ≡ not (nat_lt m (n + 1))
next_number n m = grind (arith, nat_tests)

-- what is above a number is not below the next one
above_next : (number : ℕ) (bkey : Bkey) → is_lt (bkey_cmp (Number number) bkey) ≡ not (is_lt (bkey_cmp bkey (Number (number + 1))))
above_next number (Number m) = lt_is number m ∙ (next_number number m ∙ ap not (sym (lt_is m (number + 1))))
above_next number (Bytes bytes) = refl

gt_turned : (o p : Ordering) → p ≡ ordering_reverse o → is_gt o ≡ is_lt p
gt_turned Less p rev = sym (ap is_lt rev)
gt_turned Equal p rev = sym (ap is_lt rev)
gt_turned Greater p rev = sym (ap is_lt rev)

gt_is : (x y : Bkey) → is_gt (bkey_cmp x y) ≡ is_lt (bkey_cmp y x)
gt_is x y = gt_turned (bkey_cmp x y) (bkey_cmp y x) (bkey_cmp_total.antisymm y x)

eq_not_lt : (o : Ordering) → is_eq o ≡ true → is_lt o ≡ false
eq_not_lt Less eq = cc eq
eq_not_lt Equal eq = refl
eq_not_lt Greater eq = cc eq

not_before_self : (bkey : Bkey) → is_lt (bkey_cmp bkey bkey) ≡ false
not_before_self bkey = eq_not_lt (bkey_cmp bkey bkey) (same_self bkey)

-- WIDE

-- Two numbers are further apart than the range.
pub record IsWide (range : ℕ) (above below : Bkey) : Type 0 where
  pub high : ℕ
  pub low : ℕ
  pub above_is : above ≡ Number high
  pub below_is : below ≡ Number low
  pub apart : low + range < high

apart_by : (range a b : ℕ) → (nat_lt 0 range && nat_lt range (a - b)) ≡ true → b + range < a
apart_by range a b is = grind (arith, nat_tests)

no_distance : (range : ℕ) → (nat_lt 0 range && nat_lt range 0) ≡ true → ⊥
no_distance range is = grind (arith, nat_tests)

pub wide : (range : ℕ) (above below : Bkey) → is_too_wide range above below ≡ true → IsWide range above below
wide range (Number a) (Number b) is = record { high = a; low = b; above_is = refl; below_is = refl; apart = apart_by range a b is }
wide range (Number a) (Bytes b) is = absurd (no_distance range is)
wide range (Bytes a) below is = absurd (no_distance range is)

-- ABOVE ALL

-- a new element too far above the least: what is below the lowest that may stay goes
pub above_trims : (range : ℕ) (action : Action) (e : Elem) (xs : List Elem) (q number : ℕ) → e.bkey ≡ Number number → trims_smallest action ≡ true → IsNewAt e.bkey xs (length xs) → IsCutAt (Number (number - range)) xs q
    → stored (with_element e (drop q xs)) (take q xs) ≡ settled_above range action e.bkey (with_element e xs)
above_trims range action e xs q number is trims at cut =
    let stays : Bkey → Bool = λ b. not (is_lt (bkey_cmp b (lowered range e.bkey))) in
    let low : lowered range e.bkey ≡ Number (number - range) = ap (lowered range) is in
    let below : All (λ x. is_below e.bkey x ≡ true) xs = subst (λ ys. All (λ x. is_below e.bkey x ≡ true) ys) (take_all (length xs) xs (omega arith)) at.before in
    let here : stays e.bkey ≡ true = ap (λ b. not (is_lt (bkey_cmp b (lowered range b)))) is ∙ (ap not (lt_is number (number - range)) ∙ not_under number range) in
    let done = parted_low stays e (take q xs) (drop q xs) (All-take (λ x. is_below e.bkey x ≡ true) q xs below)
    (λ k d within. ap (λ b. not (is_lt (bkey_cmp (get_or (take q xs) k d).bkey b))) low ∙ ap not (cut.before k d within))
    (λ k d within. ap (λ b. not (is_lt (bkey_cmp (get_or (drop q xs) k d).bkey b))) low ∙ ap not (cut.behind k d within)) here in
    rw trims (done ∙ ap (λ ys. parted stays (with_element e ys)) (take-append-drop q xs))

lowest_goes : (range number low : ℕ) → low + range < number → nat_lt low (number - range) ≡ true
lowest_goes range number low apart = grind (arith, nat_tests)

-- and that is one element at least
pub above_some : (range : ℕ) (e : Elem) (xs : List Elem) (q number : ℕ) → e.bkey ≡ Number number → is_too_wide range e.bkey (least e (with_element e xs)) ≡ true → IsNewAt e.bkey xs (length xs) → IsCutAt (Number (number - range)) xs q → 1 ≤ q
above_some range e [] q number is far at cut = let near = not_wide_self range e.bkey in cc
above_some range e (x ∷ rest) (suc q) number is far at cut = omega arith
above_some range e (x ∷ rest) zero number is far at cut =
    let below = first_below e x rest (length (x ∷ rest)) at (λ none. absurd (omega arith)) in
    let least_is = least_first e x rest below in
    let w = wide range (Number number) x.bkey (ap (λ b. is_too_wide range b x.bkey) (sym is) ∙ (ap (is_too_wide range e.bkey) (sym least_is) ∙ far)) in
    let same : number ≡ w.high = cc w.above_is in
    let goes : is_below (Number (number - range)) x ≡ true = ap (λ b. is_lt (bkey_cmp b (Number (number - range)))) w.below_is ∙ (lt_is w.low (number - range) ∙ lowest_goes range number w.low (omega (arith, w.apart, same))) in
    let stays = cut.behind 0 x (omega arith) in
    cc

-- BELOW ALL

-- the elements above a number are those not below the next one
pub cut_above : (number : ℕ) (xs : List Elem) (q : ℕ) → IsCutAt (Number (number + 1)) xs q → IsCutAbove number xs (length xs - q)
cut_above number xs q cut =
    let back : q ≡ length xs - (length xs - q) = omega (arith, cut.within) in
    record {
      within = omega arith;
      before = subst (λ n. All (λ x. is_above (Number number) x ≡ false) (take n xs)) back (λ k d within. above_next number (get_or (take q xs) k d).bkey ∙ ap not (cut.before k d within));
      behind = subst (λ n. All (λ x. is_above (Number number) x ≡ true) (drop n xs)) back (λ k d within. above_next number (get_or (drop q xs) k d).bkey ∙ ap not (cut.behind k d within));
    }

-- a new element too far below the greatest: what is above the highest that may stay goes
pub below_trims : (range : ℕ) (action : Action) (e : Elem) (xs : List Elem) (count number : ℕ) → e.bkey ≡ Number number → trims_greatest action ≡ true → IsNewAt e.bkey xs 0 → IsCutAbove (number + range) xs count
    → stored (with_element e (take (length xs - count) xs)) (drop (length xs - count) xs) ≡ settled_below range action e.bkey (with_element e xs)
below_trims range action e xs count number is trims at cut =
    let q = length xs - count in
    let stays : Bkey → Bool = λ b. not (is_gt (bkey_cmp b (raised range e.bkey))) in
    let high : raised range e.bkey ≡ Number (number + range) = ap (raised range) is in
    let here : stays e.bkey ≡ true = ap (λ b. not (is_gt (bkey_cmp b (raised range b)))) is ∙ (ap not (gt_is (Number number) (Number (number + range)) ∙ lt_is (number + range) number) ∙ not_over number range) in
    let done = parted_high stays e (take q xs) (drop q xs) (All-drop (λ x. is_above e.bkey x ≡ true) q xs at.behind)
    (λ k d within. let y = (get_or (drop q xs) k d).bkey in ap (λ b. not (is_gt (bkey_cmp y b))) high ∙ ap not (gt_is y (Number (number + range)) ∙ cut.behind k d within))
    (λ k d within. let y = (get_or (take q xs) k d).bkey in ap (λ b. not (is_gt (bkey_cmp y b))) high ∙ ap not (gt_is y (Number (number + range)) ∙ cut.before k d within)) here in
    rw trims (done ∙ ap (λ ys. parted stays (with_element e ys)) (take-append-drop q xs))

-- there is an element then
pub below_first : (range : ℕ) (e : Elem) (xs : List Elem) → is_too_wide range (greatest e (with_element e xs)) e.bkey ≡ true → 0 < length xs
below_first range e [] far = let near = not_wide_self range e.bkey in cc
below_first range e (x ∷ rest) far = omega arith

-- the greatest is the last of the old ones
pub below_wide : (range : ℕ) (e x : Elem) (xs : List Elem) → IsNewAt e.bkey xs 0 → is_too_wide range (greatest e (with_element e xs)) e.bkey ≡ true → get_or xs (length xs - 1) x ≡ x → IsWide range x.bkey e.bkey
below_wide range e x xs at far read =
    let some = below_first range e xs far in
    let above = last_above e x xs 0 at some read in
    wide range x.bkey e.bkey (ap (λ b. is_too_wide range b e.bkey) (sym (greatest_last e x xs above some read)) ∙ far)

pub below_far : (range : ℕ) (e x : Elem) (xs : List Elem) (number high : ℕ) → IsNewAt e.bkey xs 0 → is_too_wide range (greatest e (with_element e xs)) e.bkey ≡ true → get_or xs (length xs - 1) x ≡ x
    → x.bkey ≡ Number high → e.bkey ≡ Number number → number + range < high
below_far range e x xs number high at far read x_is e_is =
    let w = below_wide range e x xs at far read in
    let low : number ≡ w.low = cc (sym e_is ∙ w.below_is) in
    let top : high ≡ w.high = cc (sym x_is ∙ w.above_is) in
    omega (arith, w.apart, low, top)

highest_goes : (range number high : ℕ) → number + range < high → nat_lt (number + range) high ≡ true
highest_goes range number high apart = grind (arith, nat_tests)

pub below_some : (range : ℕ) (e : Elem) (xs : List Elem) (count number : ℕ) → e.bkey ≡ Number number → IsNewAt e.bkey xs 0 → is_too_wide range (greatest e (with_element e xs)) e.bkey ≡ true → IsCutAbove (number + range) xs count → 1 ≤ count
below_some range e xs (suc count) number is at far cut = omega arith
below_some range e xs zero number is at far cut =
    let m = length xs - 1 in
    let x = get_or xs m e in
    let some = below_first range e xs far in
    let read : get_or xs m x ≡ x = get_or_default xs m x e (omega (arith, some)) in
    let w = below_wide range e x xs at far read in
    let same : number ≡ w.low = cc (sym is ∙ w.below_is) in
    let goes : is_above (Number (number + range)) x ≡ true = ap (λ b. is_lt (bkey_cmp (Number (number + range)) b)) w.above_is ∙ (lt_is (number + range) w.high ∙ highest_goes range number w.high (omega (arith, w.apart, same))) in
    let there : get_or (take (length xs - 0) xs) m x ≡ x = get_or-take (length xs - 0) xs m x (omega (arith, some)) ∙ read in
    let stays = ap (λ (y : Elem). is_above (Number (number + range)) y) (sym there) ∙ cut.before m x (omega (arith, some, length-take-le (length xs - 0) xs (omega arith))) in
    cc

-- FULL

pub full_low_new : (action : Action) (e : Elem) (xs : List Elem) (n : ℕ) → trims_smallest action ≡ true → IsNewAt e.bkey xs n → n ≡ 0 → out_of_range Low ≡ settled_full action e (with_element e xs)
full_low_new action e xs n trims at first = rw trims (rw (ap (is_same e.bkey) (least_new e xs n at first) ∙ same_self e.bkey) refl)

pub full_high_new : (action : Action) (e : Elem) (xs : List Elem) (n : ℕ) → trims_smallest action ≡ false → trims_greatest action ≡ true → IsNewAt e.bkey xs n → n ≡ length xs → out_of_range High ≡ settled_full action e (with_element e xs)
full_high_new action e xs n keeps trims at last = rw keeps (rw trims (rw (ap (is_same e.bkey) (greatest_new e xs n at last) ∙ same_self e.bkey) refl))

full_low_at : (action : Action) (e x : Elem) (rest : List Elem) (n : ℕ) → trims_smallest action ≡ true → IsNewAt e.bkey (x ∷ rest) n → n ≢ 0
    → stored (with_element e rest) (x ∷ []) ≡ settled_full action e (with_element e (x ∷ rest))
full_low_at action e x rest n trims at other =
    let W = with_element e (x ∷ rest) in
    let below = first_below e x rest n at other in
    let least_is = least_first e x rest below in
    let stays : Bkey → Bool = λ b. is_gt (bkey_cmp b x.bkey) in
    let done = parted_low stays e (x ∷ []) rest (All-cons (λ y. is_below e.bkey y ≡ true) x [] below (All-nil (λ y. is_below e.bkey y ≡ true)))
    (All-cons (λ y. stays y.bkey ≡ false) x [] (gt_is x.bkey x.bkey ∙ not_before_self x.bkey) (All-nil (λ y. stays y.bkey ≡ false)))
    (λ k d within. gt_is (get_or rest k d).bkey x.bkey ∙ ap is_lt (at.rising 0 (suc k) d (omega arith) (omega arith)).below) (gt_is e.bkey x.bkey ∙ below) in
    rw trims (rw (ap (is_same e.bkey) least_is ∙ below_other e.bkey x below) (done ∙ ap (λ m. parted (λ b. is_gt (bkey_cmp b m)) W) (sym least_is)))

pub full_low : (action : Action) (e : Elem) (xs : List Elem) (n : ℕ) → trims_smallest action ≡ true → IsNewAt e.bkey xs n → n ≢ 0
    → stored (with_element e (drop 1 xs)) (take 1 xs) ≡ settled_full action e (with_element e xs)
full_low action e xs n trims at other =
    let first = first_read xs e (omega (arith, at.within)) in
    let P : List Elem → Type 0 = λ ys. stored (with_element e (drop 1 ys)) (take 1 ys) ≡ settled_full action e (with_element e ys) in
    subst P (sym first.is) (full_low_at action e (get_or xs 0 e) first.rest n trims (subst (λ ys. IsNewAt e.bkey ys n) first.is at) other)

pub full_high : (action : Action) (e : Elem) (xs : List Elem) (n : ℕ) → trims_smallest action ≡ false → trims_greatest action ≡ true → IsNewAt e.bkey xs n → n ≢ length xs
    → stored (with_element e (take (length xs - 1) xs)) (drop (length xs - 1) xs) ≡ settled_full action e (with_element e xs)
full_high action e xs n keeps trims at other =
    let W = with_element e xs in
    let m = length xs - 1 in
    let within : n < length xs = omega (arith, at.within) in
    let x = get_or xs m e in
    let read : get_or xs m x ≡ x = get_or_default xs m x e (omega arith) in
    let above = last_above e x xs n at within read in
    let greatest_is = greatest_last e x xs above (omega arith) read in
    let last : drop m xs ≡ x ∷ [] = last_alone xs x (omega arith) read in
    let stays : Bkey → Bool = λ b. is_lt (bkey_cmp b x.bkey) in
    let go : All (λ y. stays y.bkey ≡ false) (x ∷ []) = All-cons (λ y. stays y.bkey ≡ false) x [] (not_before_self x.bkey) (All-nil (λ y. stays y.bkey ≡ false)) in
    let high : All (λ y. is_above e.bkey y ≡ true) (x ∷ []) = All-cons (λ y. is_above e.bkey y ≡ true) x [] above (All-nil (λ y. is_above e.bkey y ≡ true)) in
    let stay : All (λ y. stays y.bkey ≡ true) (take m xs) = λ k d below. let k_low : k < m = omega (arith, below, length-take-le m xs (omega arith)) in
    ap (λ (y : Elem). is_lt (bkey_cmp y.bkey x.bkey)) (get_or-take m xs k d k_low)
    ∙ (ap (λ (y : Elem). is_lt (bkey_cmp (get_or xs k d).bkey y.bkey)) (get_or_default xs m e d (omega arith)) ∙ ap is_lt (at.rising k m d k_low (omega arith)).below) in
    let done = parted_high stays e (take m xs) (x ∷ []) high go stay above in
    rw keeps (rw trims (rw (ap (is_same e.bkey) greatest_is ∙ above_other e.bkey x above)
    (ap (λ ys. stored (with_element e (take m xs)) ys) last ∙ (done ∙ (ap (λ ys. parted stays (with_element e ys)) (sym (split_last xs x (omega arith) read)) ∙ ap (λ b. parted (λ o. is_lt (bkey_cmp o b)) W) (sym greatest_is))))))

pub full_error : (action : Action) (e : Elem) (all : List Elem) → trims_smallest action ≡ false → trims_greatest action ≡ false → overflowed ≡ settled_full action e all
full_error action e all keeps also = rw keeps (rw also refl)
