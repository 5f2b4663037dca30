-- Elements without those that were chosen.
use Rattle.std.proofs.Common.{◌≡◌, ◌≢◌, ◌⊎◌, ℕ, suc, ◌+◌, ◌-◌, ◌≤◌, ◌<◌, Bool, true, false, not, ◌&&◌, ◌||◌, cond, None, Some, List, [], ◌∷◌, ◌++◌, length, get_or, take, drop, reverse, refl, ap, sym, ◌∙◌, inl, inr, arith}
use Rattle.std.specs.List.{All, between, filter, list_any, remove_range, slice_get}
use Rattle.std.specs.Ordering.{is_eq, ordering_reverse}
use Rattle.std.proofs.lemmas.Bool.{cases_eq, cases_lt, and_from, and_left, and_right}
use Rattle.std.proofs.lemmas.List.{append-nil, append_assoc, take_at, drop_at, drop-drop, drop_more, take_more, length-take-le, length-drop, reverse-append, get_or-take, get_or-drop, get_or_default}
use Rattle.std.proofs.lemmas.Option.{slice_get_within, get_or_from_slice_get}
use Rattle.std.proofs.lemmas.List.Edits.{split_between, length-between, get_or-between, between_more, between_none}
use Rattle.std.proofs.lemmas.List.Elements.{All-head, All-tail, filter-append}
use Rattle.std.proofs.lemmas.List.Folds.{list_any_none, list_any_at, list_any-append}
use Rattle.arc_core.specs.declared.bkeys.Bkey.{Bkey}
use Rattle.arc_core.specs.declared.trees.Elem.{Elem}
use Rattle.arc_core.specs.declared.trees.TreeRead.{TreeRead}
use Rattle.arc_core.specs.BkeyOrder.{is_down}
use Rattle.arc_core.specs.BkeyLaws.{bkey_cmp_total}
use Rattle.arc_core.specs.Settling.{is_same}
use Rattle.arc_core.specs.TreeContents.{IsRising}
use Rattle.arc_core.specs.TreeReading.{chosen, is_selected}
use Rattle.btree_scan.proofs.SpanLemmas.{filter_every, filter_none}
use Rattle.btree_scan.specs.Directions.{facing}
use Rattle.overflow_trim.proofs.EndLemmas.{same_self}
use Rattle.tree_coll.specs.TreeOutcomes.{is_there, without}
use Rattle.tree_coll.specs.TreePlanning.{AreChosen, without_between}

-- WHETHER A BKEY IS AMONG THOSE

or_turned : (a b : Bool) → (a || (b || false)) ≡ (b || a)
or_turned true true = refl
or_turned true false = refl
or_turned false true = refl
or_turned false false = refl

any_reverse : (t : Elem → Bool) (xs : List Elem) → list_any t (reverse xs) ≡ list_any t xs
any_reverse t [] = refl
any_reverse t (x ∷ xs) =
    ap (list_any t) (reverse-append (x ∷ []) xs) ∙ (list_any-append t (reverse xs) (x ∷ []) ∙ (ap (λ b. b || list_any t (x ∷ [])) (any_reverse t xs) ∙ or_turned (list_any t xs) (t x)))

any_facing : (t : Elem → Bool) (down : Bool) (xs : List Elem) → list_any t (facing down xs) ≡ list_any t xs
any_facing t true xs = any_reverse t xs
any_facing t false xs = refl

any_head : (t : Elem → Bool) (b : Bool) (x : Elem) (xs : List Elem) (rest : Bool) → list_any t xs ≡ rest → list_any t (cond b (x ∷ xs) xs) ≡ ((b && t x) || rest)
any_head t true x xs rest is = ap (λ r. t x || r) is
any_head t false x xs rest is = is

any_filter : (t p : Elem → Bool) (xs : List Elem) → list_any t (filter p xs) ≡ list_any (λ x. p x && t x) xs
any_filter t p [] = refl
any_filter t p (x ∷ xs) = any_head t (p x) x (filter p xs) (list_any (λ y. p y && t y) xs) (any_filter t p xs)

there_by : (bkey : Bkey) (down : Bool) (p : Elem → Bool) (xs : List Elem) → is_there bkey (facing down (filter p xs)) ≡ list_any (λ x. p x && is_same bkey x.bkey) xs
there_by bkey down p xs = any_facing (λ x. is_same bkey x.bkey) down (filter p xs) ∙ any_filter (λ x. is_same bkey x.bkey) p xs

-- elements in two places have two bkeys
apart_below : (xs : List Elem) (i j : ℕ) (d : Elem) → IsRising xs → i < j → j < length xs → is_same (get_or xs i d).bkey (get_or xs j d).bkey ≡ false
apart_below xs i j d rising order within = ap is_eq (rising i j d order within).below

apart_above : (xs : List Elem) (i j : ℕ) (d : Elem) → IsRising xs → i < j → j < length xs → is_same (get_or xs j d).bkey (get_or xs i d).bkey ≡ false
apart_above xs i j d rising order within =
    ap is_eq (bkey_cmp_total.antisymm (get_or xs j d).bkey (get_or xs i d).bkey ∙ ap ordering_reverse (rising i j d order within).below)

apart : (xs : List Elem) (i j : ℕ) (d : Elem) → IsRising xs → (i < j) ⊎ (j ≤ i) → i ≢ j → i < length xs → j < length xs → is_same (get_or xs i d).bkey (get_or xs j d).bkey ≡ false
apart xs i j d rising (inl order) other i_in j_in = apart_below xs i j d rising order j_in
apart xs i j d rising (inr back) other i_in j_in = apart_above xs j i d rising (omega (arith, back, other)) i_in

-- an element in another place than those between two
pub out_of_them : (xs : List Elem) (low high k : ℕ) (d : Elem) (down : Bool) (p : Elem → Bool) → IsRising xs → high ≤ length xs → (k < low) ⊎ (high ≤ k) → k < length xs
    → is_there (get_or xs k d).bkey (facing down (filter p (between low high xs))) ≡ false
out_of_them xs low high k d down p rising within out k_in =
    let x = get_or xs k d in
    let M = between low high xs in
    there_by x.bkey down p M
    ∙ list_any_none (λ y. p y && is_same x.bkey y.bkey) M (λ j e below.
    let j_in : low + j < high = omega (arith, below, length-between xs low high within) in
    let other : k ≢ low + j = elim out [ inl l ↦ (omega (arith, l)) | inr h ↦ (omega (arith, h, j_in)) ] in
    and_right (p (get_or M j e)) (is_same x.bkey (get_or M j e).bkey)
    (ap (λ (y : Elem). is_same x.bkey y.bkey) (get_or-between xs low high j e j_in)
    ∙ (ap (λ (y : Elem). is_same y.bkey (get_or xs (low + j) e).bkey) (get_or_default xs k d e k_in) ∙ apart xs k (low + j) e rising (cases_lt k (low + j)) other k_in (omega (arith, j_in, within)))))

not_passing : (p : Elem → Bool) (xs : List Elem) (low high k j : ℕ) (d e : Elem) → IsRising xs → low + j < high → high ≤ length xs → k < length xs → p (get_or xs k d) ≡ false → (low + j ≡ k) ⊎ (low + j ≡ k → ⊥)
    → (p (get_or xs (low + j) e) && is_same (get_or xs k d).bkey (get_or xs (low + j) e).bkey) ≡ false
not_passing p xs low high k j d e rising j_in within k_in fails (inl same) =
    and_left (p (get_or xs (low + j) e)) (is_same (get_or xs k d).bkey (get_or xs (low + j) e).bkey) (ap (λ n. p (get_or xs n e)) same ∙ (ap p (get_or_default xs k e d k_in) ∙ fails))
not_passing p xs low high k j d e rising j_in within k_in fails (inr other) =
    and_right (p (get_or xs (low + j) e)) (is_same (get_or xs k d).bkey (get_or xs (low + j) e).bkey)
    (ap (λ (y : Elem). is_same y.bkey (get_or xs (low + j) e).bkey) (get_or_default xs k d e k_in)
    ∙ apart xs k (low + j) e rising (cases_lt k (low + j)) (λ eq. other (sym eq)) k_in (omega (arith, j_in, within)))

among : (b : Bool) (xs : List Elem) (low high k : ℕ) (d : Elem) (p : Elem → Bool) → p (get_or xs k d) ≡ b → IsRising xs → high ≤ length xs → low ≤ k → k < high
    → list_any (λ y. p y && is_same (get_or xs k d).bkey y.bkey) (between low high xs) ≡ b
among true xs low high k d p passes rising within low_le below =
    let x = get_or xs k d in
    let M = between low high xs in
    let at : low + (k - low) ≡ k = omega (arith, low_le) in
    let here : get_or M (k - low) d ≡ x = get_or-between xs low high (k - low) d (omega (arith, low_le, below)) ∙ ap (λ n. get_or xs n d) at in
    list_any_at (λ y. p y && is_same x.bkey y.bkey) M (k - low) d (omega (arith, low_le, below, length-between xs low high within))
    (ap (λ (y : Elem). p y && is_same x.bkey y.bkey) here ∙ and_from (p x) (is_same x.bkey x.bkey) passes (same_self x.bkey))
among false xs low high k d p fails rising within low_le below =
    let x = get_or xs k d in
    let M = between low high xs in
    list_any_none (λ y. p y && is_same x.bkey y.bkey) M (λ j e inside.
    let j_in : low + j < high = omega (arith, inside, length-between xs low high within) in
    ap (λ (y : Elem). p y && is_same x.bkey y.bkey) (get_or-between xs low high j e j_in)
    ∙ not_passing p xs low high k j d e rising j_in within (omega (arith, below, within)) fails (cases_eq (low + j) k))

-- an element between them is there exactly where it passes
pub one_of_them : (xs : List Elem) (low high k : ℕ) (d : Elem) (down : Bool) (p : Elem → Bool) → IsRising xs → high ≤ length xs → low ≤ k → k < high
    → is_there (get_or xs k d).bkey (facing down (filter p (between low high xs))) ≡ p (get_or xs k d)
one_of_them xs low high k d down p rising within low_le below =
    there_by (get_or xs k d).bkey down p (between low high xs) ∙ among (p (get_or xs k d)) xs low high k d p refl rising within low_le below

-- WHAT IS LEFT

both_heads : (b c : Bool) (x : Elem) (xs ys : List Elem) → b ≡ c → xs ≡ ys → cond b (x ∷ xs) xs ≡ cond c (x ∷ ys) ys
both_heads b c x xs ys same rest = ap (λ t. cond t (x ∷ xs) xs) same ∙ ap (λ zs. cond c (x ∷ zs) zs) rest

-- two tests that agree on these elements
filter_same : (p q : Elem → Bool) (xs : List Elem) → All (λ x. p x ≡ q x) xs → filter p xs ≡ filter q xs
filter_same p q [] all = refl
filter_same p q (x ∷ xs) all = let P : Elem → Type 0 = λ y. p y ≡ q y in both_heads (p x) (q x) x (filter p xs) (filter q xs) (All-head P x xs all) (filter_same p q xs (All-tail P x xs all))

-- without the elements between two places that pass
pub without_them : (xs : List Elem) (low high : ℕ) (down : Bool) (p : Elem → Bool) → IsRising xs → low ≤ high → high ≤ length xs
    → without (facing down (filter p (between low high xs))) xs ≡ without_between p low high xs
without_them xs low high down p rising order within =
    let A = take low xs in
    let M = between low high xs in
    let D = drop high xs in
    let gone = facing down (filter p M) in
    let q : Elem → Bool = λ x. not (is_there x.bkey gone) in
    let front = filter_every q A (λ k d below.
    let k_low : k < low = omega (arith, below, length-take-le low xs (omega (arith, order, within))) in
    ap q (get_or-take low xs k d k_low) ∙ ap not (out_of_them xs low high k d down p rising within (inl k_low) (omega (arith, k_low, order, within)))) in
    let middle = filter_same q (λ x. not (p x)) M (λ k d below.
    let k_in : low + k < high = omega (arith, below, length-between xs low high within) in
    ap (λ x. not (is_there x.bkey gone)) (get_or-between xs low high k d k_in)
    ∙ (ap not (one_of_them xs low high (low + k) d down p rising within (omega arith) k_in) ∙ ap (λ x. not (p x)) (sym (get_or-between xs low high k d k_in)))) in
    let back = filter_every q D (λ k d below.
    ap q (get_or-drop high xs k d) ∙ ap not (out_of_them xs low high (high + k) d down p rising within (inr (omega arith)) (omega (arith, below, length-drop high xs)))) in
    ap (filter q) (split_between xs low high order) ∙ (filter-append q A (M ++ D) ∙ (ap (λ ys. ys ++ filter q (M ++ D)) front
    ∙ (ap (λ ys. A ++ ys) (filter-append q M D ∙ (ap (λ ys. ys ++ filter q D) middle ∙ ap (λ ys. filter (λ x. not (p x)) M ++ ys) back))
    ∙ sym (append_assoc A (filter (λ x. not (p x)) M) D))))

-- what a read leaves that takes out what it chooses
pub without_chosen : (read : TreeRead) (xs : List Elem) (low high : ℕ) → AreChosen read xs low high → without (chosen read xs) xs ≡ without_between (is_selected read.filter) low high xs
without_chosen read xs low high are =
    ap (λ gone. without gone xs) are.chosen_are ∙ without_them xs low high (is_down read.range) (is_selected read.filter) are.rising are.order are.within

-- REMOVING THEM

-- without a filter all between two places go
pub all_removed : (low high : ℕ) (xs : List Elem) → remove_range xs low high ≡ without_between (is_selected None) low high xs
all_removed low high xs =
    let none = filter_none (λ x. not (is_selected None x)) (between low high xs) (λ k d within. refl) in
    ap (λ ys. ys ++ drop high xs) (sym (append-nil (take low xs)) ∙ ap (λ ys. take low xs ++ ys) (sym none))

one_between : (n : ℕ) (xs : List Elem) (x : Elem) → n < length xs → get_or xs n x ≡ x → between n (n + 1) xs ≡ x ∷ []
one_between n xs x within at =
    between_more xs n n x (omega arith) within ∙ (ap (λ ys. ys ++ get_or xs n x ∷ []) (between_none xs n) ∙ ap (λ y. y ∷ []) at)

-- the element in one place goes
pub one_removed : (p : Elem → Bool) (n m : ℕ) (xs : List Elem) (x : Elem) → m ≡ n + 1 → slice_get xs n ≡ Some x → p x ≡ true → remove_range xs n m ≡ without_between p n m xs
one_removed p n m xs x next at passes =
    let alone : between n m xs ≡ x ∷ [] = ap (λ k. between n k xs) next ∙ one_between n xs x (slice_get_within xs n x at) (get_or_from_slice_get xs n x x at) in
    let gone : filter (λ y. not (p y)) (between n m xs) ≡ [] = ap (filter (λ y. not (p y))) alone ∙ ap (λ b. cond (not b) (x ∷ []) []) passes in
    ap (λ ys. ys ++ drop m xs) (sym (append-nil (take n xs)) ∙ ap (λ ys. take n xs ++ ys) (sym gone))

-- or stays
pub one_stays : (p : Elem → Bool) (n m : ℕ) (xs : List Elem) (x : Elem) → m ≡ n + 1 → slice_get xs n ≡ Some x → p x ≡ false → xs ≡ without_between p n m xs
one_stays p n m xs x next at fails =
    let alone : between n m xs ≡ x ∷ [] = ap (λ k. between n k xs) next ∙ one_between n xs x (slice_get_within xs n x at) (get_or_from_slice_get xs n x x at) in
    let here : filter (λ y. not (p y)) (between n m xs) ≡ x ∷ [] = ap (filter (λ y. not (p y))) alone ∙ ap (λ b. cond (not b) (x ∷ []) []) fails in
    split_between xs n m (omega (arith, next)) ∙ (ap (λ ys. take n xs ++ (ys ++ drop m xs)) (alone ∙ sym here) ∙ sym (append_assoc (take n xs) (filter (λ y. not (p y)) (between n m xs)) (drop m xs)))

-- an element that stands in a place
n_th : (n : ℕ) (xs : List Elem) → n < length xs → Elem
n_th n [] within = absurd (omega (arith, within))
n_th n (x ∷ xs) within = x

-- one place more in front
more_between : (n m high : ℕ) (xs : List Elem) (d : Elem) → m ≡ n + 1 → m ≤ high → high ≤ length xs → between n high xs ≡ get_or xs n d ∷ between m high xs
more_between n m high xs d is order within =
    let count : high - n ≡ suc (high - m) = omega (arith, is, order) in
    ap (λ k. take k (drop n xs)) count ∙ (ap (take (suc (high - m))) (drop_more xs n d (omega (arith, is, order, within)))
    ∙ ap (λ k. get_or xs n d ∷ take (high - m) (drop k xs)) (sym is))

-- one more place before those from which elements went
pub one_before : (p : Elem → Bool) (n m high : ℕ) (xs ys new : List Elem) → m ≡ n + 1 → m ≤ high → high ≤ length xs → ys ≡ without_between p m high xs → new ≡ without_between p n m ys → new ≡ without_between p n high xs
one_before p n m high xs ys new is order within so_far now =
    let d = n_th n xs (omega (arith, is, order, within)) in
    let x = get_or xs n d in
    let q : Elem → Bool = λ y. not (p y) in
    let A = take n xs in
    let F = filter q (between m high xs) in
    let D = drop high xs in
    let long : length A ≡ n = length-take-le n xs (omega (arith, is, order, within)) in
    let front : take m xs ≡ A ++ x ∷ [] = ap (λ k. take k xs) is ∙ take_more xs n d (omega (arith, is, order, within)) in
    let shape : ys ≡ A ++ (x ∷ (F ++ D)) =
    so_far ∙ (ap (λ zs. zs ++ F ++ D) front ∙ (append_assoc (A ++ x ∷ []) F D ∙ append_assoc A (x ∷ []) (F ++ D))) in
    let first : take n ys ≡ A = ap (take n) shape ∙ take_at A (x ∷ (F ++ D)) n long in
    let rest : drop n ys ≡ x ∷ (F ++ D) = ap (drop n) shape ∙ drop_at A (x ∷ (F ++ D)) n long in
    let one : m - n ≡ 1 = omega (arith, is) in
    let middle : between n m ys ≡ x ∷ [] = ap (λ k. take k (drop n ys)) one ∙ ap (take 1) rest in
    let behind : drop m ys ≡ F ++ D = ap (λ k. drop k ys) is ∙ (sym (drop-drop 1 n ys) ∙ ap (drop 1) rest) in
    let more : between n high xs ≡ x ∷ between m high xs = more_between n m high xs d is order within in
    now ∙ (ap (λ zs. zs ++ filter q (between n m ys) ++ drop m ys) first
    ∙ (ap (λ zs. A ++ filter q zs ++ drop m ys) middle
    ∙ (ap (λ zs. A ++ filter q (x ∷ []) ++ zs) behind
    ∙ (append_assoc A (filter q (x ∷ [])) (F ++ D) ∙ (ap (λ zs. A ++ zs) (sym (append_assoc (filter q (x ∷ [])) F D) ∙ ap (λ zs. zs ++ D) (sym (filter-append q (x ∷ []) (between m high xs)) ∙ ap (filter q) (sym more)))
    ∙ sym (append_assoc A (filter q (between n high xs)) D))))))
