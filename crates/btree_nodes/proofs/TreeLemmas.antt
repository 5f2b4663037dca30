-- The elements of a tree after a change rise, and when a tree has room.
use Rattle.std.proofs.Common.{◌≡◌, ◌⊎◌, ℕ, zero, suc, ◌+◌, ◌-◌, ◌*◌, ◌^◌, ◌<◌, ◌≤◌, Bool, true, false, cond, ◌&&◌, ◌||◌, nat_lt, nat_le, ◌==◌, List, [], ◌∷◌, length, get_or, take, drop, refl, ap, sym, ◌∙◌, subst, inl, inr, arith}
use Rattle.std.specs.List.{All, insert, remove_range, list_any}
use Rattle.std.specs.Ordering.{is_lt, is_eq, ordering_reverse}
use Rattle.std.specs.declared.cmp.Ordering.{Ordering}
use Rattle.std.specs.declared.cmp.Ordering.TheVariants.{Less, Equal, Greater}
use Rattle.std.proofs.lemmas.Bool.{cases_eq, cases_lt}
use Rattle.std.proofs.lemmas.Grind.{pow_more}
use Rattle.std.proofs.lemmas.List.{length-append, length-take, length-take-le, length-drop, get_or_append_left, get_or-append_right, get_or-take, get_or-drop, get_or_default}
use Rattle.std.proofs.lemmas.List.Edits.{length-insert, get_or-insert_below, get_or-insert_at, get_or-insert_above}
use Rattle.std.proofs.lemmas.List.Folds.{list_any-from_Any}
use Rattle.arc_core.specs.declared.bkeys.Bkey.{Bkey}
use Rattle.arc_core.specs.declared.bkeys.Bkey.TheVariants.{Number, Bytes}
use Rattle.btree_nodes.proofs.BalanceLemmas.{pow_some}
use Rattle.arc_core.specs.declared.trees.Elem.{Elem}
use Rattle.arc_core.specs.BkeyOrder.{bkey_cmp, are_of_one_kind}
use Rattle.arc_core.specs.BkeyLaws.{bkey_cmp_total}
use Rattle.arc_core.specs.TreeContents.{MayPrecede, IsRising, is_below, place_of}
use Rattle.btree_nodes.specs.Ways.{FitsKind, has_bkey}
use Rattle.btree_nodes.specs.Subtree.{Subtree, IsDense}
use Rattle.btree_nodes.specs.TreeRules.{IsRoot, is_ready, has_place, has_nodes}
use Rattle.btree_nodes.specs.Rooting.{IsTrimmedRoot}
use Rattle.btree_nodes.specs.Removal.{IsRun}
use Rattle.btree_nodes.specs.declared.runs.Run.{Run}
use Rattle.btree_nodes.specs.declared.spare.Spare.{Spare}
use Rattle.std.proofs.lemmas.Bool.Decides.{nat_tests}
use Rattle.btree_nodes.proofs.SearchLemmas.{bool_cases, less, not_below_up, count_front}
use Rattle.btree_nodes.proofs.WayLemmas.{rising_behind}

moved : (high low k : ℕ) → low ≤ high → low ≤ k → high + (k - low) ≡ k + (high - low)
moved high low k order behind = omega arith

-- a place among those that are left of a list, as a place of the list
pub left_place : (elements : List Elem) (low high k : ℕ) (d : Elem) → low ≤ high → high ≤ length elements → k < length (remove_range elements low high)
    → ((k < low) × (get_or (remove_range elements low high) k d ≡ get_or elements k d)) ⊎ ((low ≤ k) × (k + (high - low) < length elements) × (get_or (remove_range elements low high) k d ≡ get_or elements (k + (high - low)) d))
left_place elements low high k d order within below =
    let len = length-take-le low elements (omega arith) in
    let all = length-append (take low elements) (drop high elements) in
    let rest = length-drop high elements in
    elim (cases_lt k low) [
      | inl front ↦ inl (front, get_or_append_left (take low elements) (drop high elements) d k (omega arith) ∙ get_or-take low elements k d front)
      | inr behind ↦ inr (behind, omega arith, get_or-append_right (take low elements) (drop high elements) low k d len behind ∙ (get_or-drop high elements (k - low) d ∙ ap (λ n. get_or elements n d) (moved high low k order behind)))
    ]

rising_pair : (elements : List Elem) (low high : ℕ) (x y : Elem) (i j : ℕ) (d : Elem) → IsRising elements → i < j → low ≤ high → high ≤ length elements
    → ((i < low) × (x ≡ get_or elements i d)) ⊎ ((low ≤ i) × (i + (high - low) < length elements) × (x ≡ get_or elements (i + (high - low)) d))
    → ((j < low) × (y ≡ get_or elements j d)) ⊎ ((low ≤ j) × (j + (high - low) < length elements) × (y ≡ get_or elements (j + (high - low)) d)) → MayPrecede x y
rising_pair elements low high x y i j d rising before order within (inl a) (inl b) =
    subst (λ (e : Elem). MayPrecede e y) (sym a.1) (subst (λ (e : Elem). MayPrecede (get_or elements i d) e) (sym b.1) (rising i j d before (omega arith)))
rising_pair elements low high x y i j d rising before order within (inl a) (inr b) =
    subst (λ (e : Elem). MayPrecede e y) (sym a.1) (subst (λ (e : Elem). MayPrecede (get_or elements i d) e) (sym b.2) (rising i (j + (high - low)) d (omega arith) b.1))
rising_pair elements low high x y i j d rising before order within (inr a) (inl b) = absurd (omega arith)
rising_pair elements low high x y i j d rising before order within (inr a) (inr b) =
    subst (λ (e : Elem). MayPrecede e y) (sym a.2) (subst (λ (e : Elem). MayPrecede (get_or elements (i + (high - low)) d) e) (sym b.2) (rising (i + (high - low)) (j + (high - low)) d (omega arith) b.1))

-- what is left after a removal rises
pub rising_left : (elements : List Elem) (low high : ℕ) → low ≤ high → high ≤ length elements → IsRising elements → IsRising (remove_range elements low high)
rising_left elements low high order within rising i j d before below =
    let x = left_place elements low high i d order within (omega arith) in
    let y = left_place elements low high j d order within below in
    rising_pair elements low high (get_or (remove_range elements low high) i d) (get_or (remove_range elements low high) j d) i j d rising before order within x y

first_before : (bkey : Bkey) (x : Elem) (elements : List Elem) (n : ℕ) → is_below bkey x ≡ true → ((k : ℕ) (d : Elem) → k < n → is_below bkey (get_or elements k d) ≡ true) → (k : ℕ) (d : Elem) → k < suc n → is_below bkey (get_or (x ∷ elements) k d) ≡ true
first_before bkey x elements n is before zero d below = is
first_before bkey x elements n is before (suc k) d below = before k d (omega arith)

rest_behind : (bkey : Bkey) (x : Elem) (elements : List Elem) (n : ℕ) → ((k : ℕ) (d : Elem) → n ≤ k → k < length elements → is_below bkey (get_or elements k d) ≡ false) → (k : ℕ) (d : Elem) → suc n ≤ k → k < length (x ∷ elements) → is_below bkey (get_or (x ∷ elements) k d) ≡ false
rest_behind bkey x elements n behind zero d low below = absurd (omega arith)
rest_behind bkey x elements n behind (suc k) d low below = behind k d (omega arith) (omega arith)

-- Where a list falls into what is below a bkey and what is not.
pub record Cut (bkey : Bkey) (elements : List Elem) : Type 0 where
  pub at : ℕ
  pub within : at ≤ length elements
  pub before : (k : ℕ) (d : Elem) → k < at → is_below bkey (get_or elements k d) ≡ true
  pub behind : (k : ℕ) (d : Elem) → at ≤ k → k < length elements → is_below bkey (get_or elements k d) ≡ false

cut_more : (bkey : Bkey) (x : Elem) (elements : List Elem) (b : Bool) → is_below bkey x ≡ b → IsRising (x ∷ elements) → Cut bkey elements → Cut bkey (x ∷ elements)
cut_more bkey x elements true is rising cut = record {
  at = suc cut.at;
  within = omega (arith, cut.within);
  before = first_before bkey x elements cut.at is cut.before;
  behind = rest_behind bkey x elements cut.at cut.behind;
}
cut_more bkey x elements false is rising cut = record {
  at = 0;
  within = omega arith;
  before = λ k d below. absurd (omega arith);
  behind = λ k d low below. not_below_up bkey (x ∷ elements) k 0 d rising low below is;
}

cut : (bkey : Bkey) (elements : List Elem) → IsRising elements → Cut bkey elements
cut bkey [] rising = record { at = 0; within = omega arith; before = λ k d below. absurd (omega arith); behind = λ k d low below. absurd (omega arith) }
cut bkey (x ∷ elements) rising = cut_more bkey x elements (is_below bkey x) refl rising (cut bkey elements (rising_behind (x ∷ []) elements rising))

-- a bkey's place is behind all smaller ones and before the others
pub record IsPlace (bkey : Bkey) (elements : List Elem) (place : ℕ) : Type 0 where
  pub within : place ≤ length elements
  pub before : (k : ℕ) (d : Elem) → k < place → is_below bkey (get_or elements k d) ≡ true
  pub behind : (k : ℕ) (d : Elem) → place ≤ k → k < length elements → is_below bkey (get_or elements k d) ≡ false

pub place_splits : (bkey : Bkey) (elements : List Elem) → IsRising elements → IsPlace bkey elements (place_of bkey elements)
place_splits bkey elements rising =
    let c = cut bkey elements rising in
    subst (IsPlace bkey elements) (sym (count_front (is_below bkey) elements c.at c.within c.before c.behind)) (record { within = c.within; before = c.before; behind = c.behind })

one_less : (k place : ℕ) → place ≤ k → (k ≡ place → ⊥) → k ≡ k - 1 + 1
one_less k place behind other = omega arith

above_by : (o p : Ordering) → p ≡ ordering_reverse o → is_lt o ≡ false → is_eq p ≡ false → p ≡ Less
above_by Less p rev lt eq = cc lt
above_by Equal p rev lt eq = let e = ap is_eq rev in cc
above_by Greater p rev lt eq = rev

list_any_at : (q : Elem → Bool) (elements : List Elem) (k : ℕ) (d : Elem) → list_any q elements ≡ false → k < length elements → q (get_or elements k d) ≡ false
list_any_at q elements k d none within =
    elim (bool_cases (q (get_or elements k d))) [
      | inl passed ↦ let any = list_any-from_Any q elements (k, get_or elements k d, within, get_or_default elements k (get_or elements k d) d within, passed) in cc
      | inr failed ↦ failed
    ]

kind_back : (x y : Bkey) → are_of_one_kind x y ≡ true → are_of_one_kind y x ≡ true
kind_back (Number a) (Number b) same = refl
kind_back (Number a) (Bytes b) same = cc same
kind_back (Bytes a) (Number b) same = cc same
kind_back (Bytes a) (Bytes b) same = refl

-- an element that is there and not below the bkey is above it
pub above_others : (bkey : Bkey) (elements : List Elem) (k : ℕ) (d : Elem) → has_bkey bkey elements ≡ false → k < length elements → is_below bkey (get_or elements k d) ≡ false → bkey_cmp bkey (get_or elements k d).bkey ≡ Less
above_others bkey elements k d absent within not_below =
    above_by (bkey_cmp (get_or elements k d).bkey bkey) (bkey_cmp bkey (get_or elements k d).bkey) (bkey_cmp_total.antisymm bkey (get_or elements k d).bkey) not_below
    (list_any_at (λ (e : Elem). is_eq (bkey_cmp bkey e.bkey)) elements k d absent within)

-- a place among elements to which one was added
inserted_place : (elements : List Elem) (elem : Elem) (place k : ℕ) (d : Elem) → place ≤ length elements → k < length (insert elements place elem)
    → ((k < place) × (get_or (insert elements place elem) k d ≡ get_or elements k d)) ⊎ (((k ≡ place) × (get_or (insert elements place elem) k d ≡ elem)) ⊎ ((place < k) × (k - 1 < length elements) × (get_or (insert elements place elem) k d ≡ get_or elements (k - 1) d)))
inserted_place elements elem place k d within below =
    let len = length-insert elements place elem within in
    elim (cases_lt k place) [
      | inl front ↦ inl (front, get_or-insert_below elements place elem d k front within)
      | inr behind ↦ elim (cases_eq k place) [
        | inl same ↦ inr (inl (same, ap (λ n. get_or (insert elements place elem) n d) same ∙ get_or-insert_at elements place elem d within))
        | inr other ↦ inr (inr (omega arith, omega arith, ap (λ n. get_or (insert elements place elem) n d) (one_less k place behind other) ∙ get_or-insert_above elements place elem d (k - 1) (omega arith) within))
      ]
    ]

rising_three : (elements : List Elem) (elem : Elem) (place : ℕ) (x y : Elem) (i j : ℕ) (d : Elem) → IsRising elements → has_bkey elem.bkey elements ≡ false → All (λ other. are_of_one_kind other.bkey elem.bkey ≡ true) elements
    → IsPlace elem.bkey elements place → i < j
    → ((i < place) × (x ≡ get_or elements i d)) ⊎ (((i ≡ place) × (x ≡ elem)) ⊎ ((place < i) × (i - 1 < length elements) × (x ≡ get_or elements (i - 1) d)))
    → ((j < place) × (y ≡ get_or elements j d)) ⊎ (((j ≡ place) × (y ≡ elem)) ⊎ ((place < j) × (j - 1 < length elements) × (y ≡ get_or elements (j - 1) d))) → MayPrecede x y
rising_three elements elem place x y i j d rising absent kind at before (inl a) (inl b) =
    subst (λ (e : Elem). MayPrecede e y) (sym a.1) (subst (λ (e : Elem). MayPrecede (get_or elements i d) e) (sym b.1) (rising i j d before (omega (arith, at.within))))
rising_three elements elem place x y i j d rising absent kind at before (inl a) (inr (inl b)) =
    subst (λ (e : Elem). MayPrecede e y) (sym a.1) (subst (λ (e : Elem). MayPrecede (get_or elements i d) e) (sym b.1)
    (record { below = less (bkey_cmp (get_or elements i d).bkey elem.bkey) (at.before i d a.0); of_one_kind = kind i d (omega (arith, at.within)) }))
rising_three elements elem place x y i j d rising absent kind at before (inl a) (inr (inr b)) =
    subst (λ (e : Elem). MayPrecede e y) (sym a.1) (subst (λ (e : Elem). MayPrecede (get_or elements i d) e) (sym b.2) (rising i (j - 1) d (omega arith) b.1))
rising_three elements elem place x y i j d rising absent kind at before (inr (inl a)) (inl b) = absurd (omega arith)
rising_three elements elem place x y i j d rising absent kind at before (inr (inl a)) (inr (inl b)) = absurd (omega arith)
rising_three elements elem place x y i j d rising absent kind at before (inr (inl a)) (inr (inr b)) =
    subst (λ (e : Elem). MayPrecede e y) (sym a.1) (subst (λ (e : Elem). MayPrecede elem e) (sym b.2)
    (record { below = above_others elem.bkey elements (j - 1) d absent b.1 (at.behind (j - 1) d (omega arith) b.1); of_one_kind = kind_back (get_or elements (j - 1) d).bkey elem.bkey (kind (j - 1) d b.1) }))
rising_three elements elem place x y i j d rising absent kind at before (inr (inr a)) (inl b) = absurd (omega arith)
rising_three elements elem place x y i j d rising absent kind at before (inr (inr a)) (inr (inl b)) = absurd (omega arith)
rising_three elements elem place x y i j d rising absent kind at before (inr (inr a)) (inr (inr b)) =
    subst (λ (e : Elem). MayPrecede e y) (sym a.2) (subst (λ (e : Elem). MayPrecede (get_or elements (i - 1) d) e) (sym b.2) (rising (i - 1) (j - 1) d (omega arith) b.1))

-- a new element in its place rises with the others
pub rising_insert : (elements : List Elem) (elem : Elem) (place : ℕ) → IsRising elements → has_bkey elem.bkey elements ≡ false → All (λ other. are_of_one_kind other.bkey elem.bkey ≡ true) elements
    → place ≡ place_of elem.bkey elements → IsRising (insert elements place elem)
rising_insert elements elem place rising absent kind is i j d before below =
    let at = subst (IsPlace elem.bkey elements) (sym is) (place_splits elem.bkey elements rising) in
    let len = length-insert elements place elem at.within in
    rising_three elements elem place (get_or (insert elements place elem) i d) (get_or (insert elements place elem) j d) i j d rising absent kind at before
    (inserted_place elements elem place i d at.within (omega arith)) (inserted_place elements elem place j d at.within below)

pub pow_above : (h : ℕ) → h ≤ 16 ^ h
pow_above zero = omega arith
pow_above (suc h) = omega (arith, pow_above h, pow_more 16 h, pow_some h)

-- the height of a full root is far below 2^32
pub height_fits : (root : Subtree) → IsDense root → root.width ≡ 32 → length root.elements < 2 ^ 32 → root.height + 1 < 2 ^ 32
height_fits root dense full fits =
    let filled = subst (λ width. width * 16 ^ root.height ≤ 16 * length root.elements) full dense in
    omega (arith, filled, fits, pow_above root.height)

-- the tests of a root's room, by numbers
ready_same : (n n' h w w' r r' leaves branches : ℕ) → n' ≤ n → w' ≤ w → r ≤ r'
    → (nat_lt n 4294967295 && (((h == 1) && nat_lt w 32 && nat_lt w r) || (nat_le 32 r && nat_le 1 leaves && nat_le (cond (nat_lt w 32) h (h + 2)) (branches + 2)))) ≡ true
    → (nat_lt n' 4294967295 && (((h == 1) && nat_lt w' 32 && nat_lt w' r') || (nat_le 32 r' && nat_le 1 leaves && nat_le (cond (nat_lt w' 32) h (h + 2)) (branches + 2)))) ≡ true
ready_same n n' h w w' r r' leaves branches fewer narrower roomier ready = grind (arith, nat_tests)

ready_lower : (n n' h h' w w' r r' leaves branches : ℕ) → n' ≤ n → h' + 1 ≡ h → 1 ≤ h' → w' < 32 → 32 ≤ r'
    → (nat_lt n 4294967295 && (((h == 1) && nat_lt w 32 && nat_lt w r) || (nat_le 32 r && nat_le 1 leaves && nat_le (cond (nat_lt w 32) h (h + 2)) (branches + 2)))) ≡ true
    → (nat_lt n' 4294967295 && (((h' == 1) && nat_lt w' 32 && nat_lt w' r') || (nat_le 32 r' && nat_le 1 leaves && nat_le (cond (nat_lt w' 32) h' (h' + 2)) (branches + 2)))) ≡ true
ready_lower n n' h h' w w' r r' leaves branches fewer lower high not_full roomy ready = grind (arith, nat_tests)

-- no more elements are left than there were
fewer_left : (old new : List Elem) (place limit : ℕ) (run : Run) → IsRun old place limit new run → length new ≤ length old
fewer_left old new place limit run is =
    omega (arith, is.within, ap length is.elements, length-append (take place old) (drop (place + run.count) old), length-take place old, length-drop (place + run.count) old)

ready_by_height : (old new : Subtree) (spare : Spare) → new.height ≡ old.height → length new.elements ≤ length old.elements → new.width ≤ old.width → old.room ≤ new.room → is_ready old spare ≡ true → is_ready new spare ≡ true
ready_by_height old new spare same fewer narrower roomier ready =
    subst (λ h. (nat_lt (length new.elements) 4294967295 && (((h == 1) && nat_lt new.width 32 && nat_lt new.width new.room) || (nat_le 32 new.room && nat_le 1 spare.leaves && nat_le (cond (nat_lt new.width 32) h (h + 2)) (spare.branches + 2)))) ≡ true) (sym same)
    (ready_same (length old.elements) (length new.elements) old.height old.width new.width old.room new.room spare.leaves spare.branches fewer narrower roomier ready)

-- a root that lost a run has room where it had
pub ready_kept : (old new : Subtree) (spare : Spare) (place limit : ℕ) (run : Run) → IsTrimmedRoot old place limit new run → is_ready old spare ≡ true → is_ready new spare ≡ true
ready_kept old new spare place limit run trimmed ready =
    elim trimmed.level [
      | inl same ↦ ready_by_height old new spare same.0 (fewer_left old.elements new.elements place limit run trimmed.removed) same.1 same.2 ready
      | inr lower ↦ ready_lower (length old.elements) (length new.elements) old.height new.height old.width new.width old.room new.room spare.leaves spare.branches
          (fewer_left old.elements new.elements place limit run trimmed.removed) lower.0 lower.1 lower.3 lower.4 ready
    ]

-- the spare number tells a ready tree
pub spare_kept : (a b : Bool) → (a ≡ true → b ≡ true) → cond a 1 0 ≤ cond b 1 0
spare_kept true b keeps = rw (keeps refl) (omega arith)
spare_kept false b keeps = omega arith

-- it keeps the rules of a root
pub trimmed_root : (old new : Subtree) (place limit : ℕ) (run : Run) → IsRoot old → IsTrimmedRoot old place limit new run → IsRoot new
trimmed_root old new place limit run is_root trimmed =
    elim trimmed.level [
      | inl same ↦ record { high = omega (arith, same.0, is_root.high); two = same.3; roomy = λ high. omega (arith, same.2, is_root.roomy (omega (arith, same.0, high))); dense = trimmed.dense }
      | inr lower ↦ record { high = lower.1; two = λ high. omega (arith, lower.2); roomy = λ high. lower.4; dense = trimmed.dense }
    ]

fits_by : (n : ℕ) (others : Bool) → 1 ≤ cond (nat_lt n 4294967295 && others) 1 0 → n < 4294967295
fits_by n others ready = grind (arith, nat_tests)

-- a tree that has room has fewer than 2^32 - 1 elements
pub ready_fits : (root : Subtree) (spare : Spare) → 1 ≤ cond (is_ready root spare) 1 0 → length root.elements < 4294967295
ready_fits root spare ready = fits_by (length root.elements) (has_place root || has_nodes root spare) ready

kind_joined : (x y z : Bkey) → are_of_one_kind x y ≡ true → are_of_one_kind x z ≡ true → are_of_one_kind y z ≡ true
kind_joined (Number a) (Number b) (Number c) p q = refl
kind_joined (Number a) (Number b) (Bytes c) p q = cc q
kind_joined (Number a) (Bytes b) z p q = cc p
kind_joined (Bytes a) (Number b) z p q = cc p
kind_joined (Bytes a) (Bytes b) (Number c) p q = cc q
kind_joined (Bytes a) (Bytes b) (Bytes c) p q = refl

kind_at : (bkey : Bkey) (elements : List Elem) (k : ℕ) (d : Elem) → IsRising elements → FitsKind bkey elements → k < length elements → (0 ≡ k) ⊎ (0 ≡ k → ⊥) → are_of_one_kind (get_or elements k d).bkey bkey ≡ true
kind_at bkey elements k d rising fits within (inl same) = ap (λ n. are_of_one_kind (get_or elements n d).bkey bkey) (sym same) ∙ fits d (omega arith)
kind_at bkey elements k d rising fits within (inr other) =
    kind_joined (get_or elements 0 d).bkey (get_or elements k d).bkey bkey (rising 0 k d (omega arith) within).of_one_kind (fits d (omega arith))

-- all elements are of the first one's kind
pub kind_of_all : (bkey : Bkey) (elements : List Elem) → IsRising elements → FitsKind bkey elements → All (λ other. are_of_one_kind other.bkey bkey ≡ true) elements
kind_of_all bkey elements rising fits k d within = kind_at bkey elements k d rising fits within (cases_eq 0 k)
