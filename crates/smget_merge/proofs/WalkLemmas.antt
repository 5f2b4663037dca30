-- The rows of walks of which one is first.
use Rattle.std.proofs.Common.{◌≡◌, ℕ, suc, ◌+◌, ◌<◌, Bool, true, false, List, [], ◌∷◌, ◌++◌, length, get_or, set, take, drop, Some, None, refl, ap, sym, ◌∙◌, subst, inl, inr, arith}
use Rattle.std.specs.List.{All, slice_get, sum_by}
use Rattle.std.specs.Ordering.{nat_cmp, is_lt, ordering_then, ordering_reverse}
use Rattle.std.specs.declared.cmp.Ordering.{Ordering}
use Rattle.std.specs.declared.cmp.Ordering.TheVariants.{Less, Equal, Greater}
use Rattle.std.proofs.lemmas.Bool.{cases_Bool}
use Rattle.std.proofs.lemmas.Bool.Decides.{nat_tests}
use Rattle.std.proofs.lemmas.List.{length-append, length-map, length-take-le, length-drop, get_or-take, get_or-drop, get_or-map, set_split, set-get_or}
use Rattle.std.proofs.lemmas.List.Concat.{flat_map-append, flat_map-cons}
use Rattle.std.proofs.lemmas.List.Elements.{All-nil, All-cons, All-head, All-tail, All-append, All-from_get_or, All-map, All-weaker, All-get_or}
use Rattle.std.proofs.lemmas.List.Sums.{sum_by-cons, sum_by-set}
use Rattle.arc_core.specs.declared.trees.Elem.{Elem}
use Rattle.smget_merge.specs.MergedRows.{TreeRow, bkey_order, is_before, rows_of, sorted}
use Rattle.smget_merge.specs.Tournaments.{goes_before, IsFirst}
use Rattle.smget_merge.specs.Walks.{WalkLeft, all_credit, all_rows, heads_of, IsFacing}
use Rattle.smget_merge.proofs.OrderLemmas.{order_total, before_weak, not_back}
use Rattle.smget_merge.proofs.SortLemmas.{sorted_first}
use Rattle.smget_merge.proofs.TournamentLemmas.{IsLater}

-- ELEMENTS OF ONE WALK

pub facing_head : (down : Bool) (x : Elem) (xs : List Elem) → IsFacing down (x ∷ xs) → All (λ y. is_before down x y ≡ true) xs
facing_head down x xs facing k d within = facing 0 (suc k) d (omega arith) (omega arith)

pub facing_tail : (down : Bool) (x : Elem) (xs : List Elem) → IsFacing down (x ∷ xs) → IsFacing down xs
facing_tail down x xs facing i j d order within = facing (suc i) (suc j) d (omega arith) (omega arith)

before_chain : (down : Bool) (x y z : Elem) → is_before down x y ≡ true → is_before down y z ≡ true → is_before down x z ≡ true
before_chain down x y z first second = elim (cases_Bool (is_before down x z)) [
  | inl is ↦ is
  | inr none ↦ let back = (before_weak down).chain x z y none (not_back down y z second) in cc
]

-- what is behind an element does not come before one that the element does not come before
not_behind : (down : Bool) (x y z : Elem) → is_before down y x ≡ false → is_before down y z ≡ true → is_before down z x ≡ false
not_behind down x y z none before = (before_weak down).chain z y x (not_back down y z before) none

-- TWO WALKS

greater_then : (o : Ordering) → is_lt (ordering_then o Less) ≡ false → o ≡ Greater
greater_then Less none = cc
greater_then Equal none = cc
greater_then Greater none = refl

not_less_then : (o p : Ordering) → is_lt (ordering_then o p) ≡ false → is_lt o ≡ false
not_less_then Less p none = none
not_less_then Equal p none = refl
not_less_then Greater p none = refl

module _ (down : Bool) where
  -- over an earlier walk one wins by its bkey alone
  early : (b place : ℕ) (x y : Elem) → b < place → goes_before down b (Some y) place (Some x) ≡ false → is_before down x y ≡ true
  early b place x y earlier none =
      let less : nat_cmp b place ≡ Less = grind (arith, nat_tests) in
      let greater : bkey_order down y.bkey x.bkey ≡ Greater = greater_then (bkey_order down y.bkey x.bkey) (rw less at none) in
      ap is_lt ((order_total down).antisymm x.bkey y.bkey ∙ ap ordering_reverse greater)

  late : (b place : ℕ) (x y : Elem) → goes_before down b (Some y) place (Some x) ≡ false → is_before down y x ≡ false
  late b place x y none = not_less_then (bkey_order down y.bkey x.bkey) (nat_cmp b place) none

  -- all of an earlier walk is behind the element that is next
  all_early : (b place : ℕ) (x : Elem) (ys : List Elem) → b < place → IsFacing down ys → goes_before down b (slice_get ys 0) place (Some x) ≡ false → All (λ y. is_before down x y ≡ true) ys
  all_early b place x [] earlier facing none = All-nil (λ y. is_before down x y ≡ true)
  all_early b place x (y ∷ ys) earlier facing none =
      let first = early b place x y earlier none in
      All-cons (λ (z : Elem). is_before down x z ≡ true) y ys first (All-weaker (λ (z : Elem). is_before down y z ≡ true) (λ (z : Elem). is_before down x z ≡ true) (λ z before. before_chain down x y z first before) ys (facing_head down y ys facing))

  -- nothing of a later walk comes before it
  all_late : (b place : ℕ) (x : Elem) (ys : List Elem) → IsFacing down ys → goes_before down b (slice_get ys 0) place (Some x) ≡ false → All (λ y. is_before down y x ≡ false) ys
  all_late b place x [] facing none = All-nil (λ y. is_before down y x ≡ false)
  all_late b place x (y ∷ ys) facing none =
      let first = late b place x y none in
      All-cons (λ (z : Elem). is_before down z x ≡ false) y ys first (All-weaker (λ (z : Elem). is_before down y z ≡ true) (λ (z : Elem). is_before down z x ≡ false) (λ z before. not_behind down x y z first before) ys (facing_head down y ys facing))

-- ROWS

rows_all : (P : Elem → Type 0) (number : ℕ) (elements : List Elem) → All P elements → All (λ (row : TreeRow). P row.element) (rows_of number elements)
rows_all P number elements all = All-map (λ (row : TreeRow). P row.element) (λ (element : Elem). record { number = number; element = element }) elements all

all_rows_all : (P : Elem → Type 0) (walks : List WalkLeft) → All (λ (walk : WalkLeft). All P walk.elements) walks → All (λ (row : TreeRow). P row.element) (all_rows walks)
all_rows_all P [] all = All-nil (λ (row : TreeRow). P row.element)
all_rows_all P (walk ∷ walks) all =
    let Q : WalkLeft → Type 0 = λ w. All P w.elements in
    All-append (λ (row : TreeRow). P row.element) (rows_of walk.number walk.elements) (all_rows walks) (rows_all P walk.number walk.elements (All-head Q walk walks all)) (all_rows_all P walks (All-tail Q walk walks all))

-- a walk within others
pub rows_with : (walks : List WalkLeft) (place : ℕ) (walk : WalkLeft) → place < length walks → all_rows (set walks place walk) ≡ all_rows (take place walks) ++ (rows_of walk.number walk.elements ++ all_rows (drop (suc place) walks))
rows_with walks place walk within =
    let f : WalkLeft → List TreeRow = λ w. rows_of w.number w.elements in
    ap all_rows (set_split walks place walk within) ∙ (flat_map-append f (take place walks) (walk ∷ drop (suc place) walks) ∙ ap (λ rows. all_rows (take place walks) ++ rows) (flat_map-cons f walk (drop (suc place) walks)))

pub head_at : (walks : List WalkLeft) (place : ℕ) (d : WalkLeft) → place < length walks → get_or (heads_of walks) place None ≡ slice_get (get_or walks place d).elements 0
head_at walks place d within = get_or-map (λ (walk : WalkLeft). slice_get walk.elements 0) walks place d None within

-- the next element of the first walk is the first row
pub first_row : (down : Bool) (walks : List WalkLeft) (place : ℕ) (old new : WalkLeft) (x : Elem) → old ≡ get_or walks place old → IsFirst down (heads_of walks) (length walks) place → All (λ walk. IsFacing down walk.elements) walks
    → new.number ≡ old.number → old.elements ≡ x ∷ new.elements
    → sorted down (all_rows walks) ≡ record { number = old.number; element = x } ∷ sorted down (all_rows (set walks place new))
first_row down walks place old new x is first facing same elements =
    let front = all_rows (take place walks) in
    let back = all_rows (drop (suc place) walks) in
    let F : WalkLeft → Type 0 = λ walk. IsFacing down walk.elements in
    let B : Elem → Type 0 = λ y. is_before down x y ≡ true in
    let N : Elem → Type 0 = λ y. is_before down y x ≡ false in
    let top : get_or (heads_of walks) place None ≡ Some x = head_at walks place old first.within ∙ (ap (λ (walk : WalkLeft). slice_get walk.elements 0) (sym is) ∙ ap (λ xs. slice_get xs 0) elements) in
    let game : (b : ℕ) → b < length walks → goes_before down b (slice_get (get_or walks b old).elements 0) place (Some x) ≡ false = λ b within.
    rw top at (subst (λ head. goes_before down b head place (get_or (heads_of walks) place None) ≡ false) (head_at walks b old within) (first.first b within)) in
    let faces : (b : ℕ) → b < length walks → IsFacing down (get_or walks b old).elements = λ b within. All-get_or F walks b old within facing in
    let before : All (λ (row : TreeRow). B row.element) front = all_rows_all B (take place walks) (All-from_get_or (λ (walk : WalkLeft). All B walk.elements) (take place walks) old (λ b below.
    let b_below : b < place = omega (arith, below, length-take-le place walks (omega (arith, first.within))) in
    let b_within : b < length walks = omega (arith, first.within, b_below) in
    subst (λ (walk : WalkLeft). All B walk.elements) (sym (get_or-take place walks b old b_below)) (all_early down b place x (get_or walks b old).elements b_below (faces b b_within) (game b b_within)))) in
    let none : All (λ (row : TreeRow). N row.element) back = all_rows_all N (drop (suc place) walks) (All-from_get_or (λ (walk : WalkLeft). All N walk.elements) (drop (suc place) walks) old (λ b below.
    let b_within : suc place + b < length walks = omega (arith, below, length-drop (suc place) walks) in
    subst (λ (walk : WalkLeft). All N walk.elements) (sym (get_or-drop (suc place) walks b old)) (all_late down (suc place + b) place x (get_or walks (suc place + b) old).elements (faces (suc place + b) b_within) (game (suc place + b) b_within)))) in
    let mine : IsFacing down (x ∷ new.elements) = subst (IsFacing down) (ap (λ (walk : WalkLeft). walk.elements) (sym is) ∙ elements) (faces place first.within) in
    let rest : All N new.elements = All-weaker B N (λ y ahead. not_back down x y ahead) new.elements (facing_head down x new.elements mine) in
    let behind : All (λ (row : TreeRow). N row.element) (rows_of new.number new.elements ++ back) = All-append (λ (row : TreeRow). N row.element) (rows_of new.number new.elements) back (rows_all N new.number new.elements rest) none in
    let whole : all_rows walks ≡ front ++ (rows_of old.number old.elements ++ back) = ap all_rows (sym (ap (set walks place) is ∙ set-get_or walks place old)) ∙ rows_with walks place old first.within in
    let split : rows_of old.number old.elements ≡ record { number = old.number; element = x } ∷ rows_of new.number new.elements = ap (rows_of old.number) elements ∙ ap (λ n. record { number = old.number; element = x } ∷ rows_of n new.elements) (sym same) in
    ap (sorted down) (whole ∙ ap (λ rows. front ++ (rows ++ back)) split)
    ∙ (sorted_first down front (record { number = old.number; element = x }) (rows_of new.number new.elements ++ back) before behind
    ∙ ap (λ rows. record { number = old.number; element = x } ∷ sorted down rows) (sym (rows_with walks place new first.within)))

-- where the first walk has no next element, no walk has one
no_rows : (walks : List WalkLeft) → All (λ walk. walk.elements ≡ []) walks → all_rows walks ≡ []
no_rows [] all = refl
no_rows (walk ∷ walks) all =
    let P : WalkLeft → Type 0 = λ w. w.elements ≡ [] in
    ap (λ elements. rows_of walk.number elements ++ all_rows walks) (All-head P walk walks all) ∙ no_rows walks (All-tail P walk walks all)

without_head : (down : Bool) (b place : ℕ) (ys : List Elem) → goes_before down b (slice_get ys 0) place None ≡ false → ys ≡ []
without_head down b place [] none = refl
without_head down b place (y ∷ ys) none = cc

pub none_left : (down : Bool) (walks : List WalkLeft) (place : ℕ) (walk : WalkLeft) → walk ≡ get_or walks place walk → IsFirst down (heads_of walks) (length walks) place → walk.elements ≡ [] → sorted down (all_rows walks) ≡ []
none_left down walks place walk is first empty =
    let top : get_or (heads_of walks) place None ≡ None = head_at walks place walk first.within ∙ (ap (λ (w : WalkLeft). slice_get w.elements 0) (sym is) ∙ ap (λ xs. slice_get xs 0) empty) in
    ap (sorted down) (no_rows walks (All-from_get_or (λ (w : WalkLeft). w.elements ≡ []) walks walk (λ b within.
    without_head down b place (get_or walks b walk).elements
    (rw top at (subst (λ head. goes_before down b head place (get_or (heads_of walks) place None) ≡ false) (head_at walks b walk within) (first.first b within))))))

-- the first walk has come on
pub comes_on : (down : Bool) (x : Elem) (xs : List Elem) → IsFacing down (x ∷ xs) → IsLater down (Some x) (slice_get xs 0)
comes_on down x [] facing = tt
comes_on down x (y ∷ ys) facing = All-head (λ (z : Elem). is_before down x z ≡ true) y ys (facing_head down x (y ∷ ys) facing)

-- COUNTS

pub rows_length : (walks : List WalkLeft) → length (all_rows walks) ≡ sum_by (λ (walk : WalkLeft). length walk.elements) walks
rows_length [] = refl
rows_length (walk ∷ walks) =
    let rest = rows_length walks in
    omega (arith, length-append (rows_of walk.number walk.elements) (all_rows walks), length-map {B = TreeRow} walk.elements (λ element. record { number = walk.number; element = element }), sum_by-cons (λ (w : WalkLeft). length w.elements) walk walks)

pub rows_left : (walks : List WalkLeft) (place : ℕ) (old new : WalkLeft) → place < length walks → old ≡ get_or walks place old → length (all_rows (set walks place new)) + length old.elements ≡ length (all_rows walks) + length new.elements
rows_left walks place old new within is =
    let sums = sum_by-set (λ (w : WalkLeft). length w.elements) walks place new old within in
    omega (arith, rows_length walks, rows_length (set walks place new), sums, ap (λ (w : WalkLeft). length w.elements) is)

pub credit_left : (walks : List WalkLeft) (place : ℕ) (old new : WalkLeft) → place < length walks → old ≡ get_or walks place old → all_credit (set walks place new) + old.credit ≡ all_credit walks + new.credit
credit_left walks place old new within is =
    let sums = sum_by-set (λ (w : WalkLeft). w.credit) walks place new old within in
    omega (arith, sums, ap (λ (w : WalkLeft). w.credit) is)
