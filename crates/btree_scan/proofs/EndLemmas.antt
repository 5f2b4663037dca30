-- Where a walk comes to a bkey among elements by rising bkeys.
use Rattle.std.proofs.Common.{◌≡◌, ℕ, Bool, true, false, not, cond, if◌then◌else◌, ◌+◌, ◌-◌, ◌<◌, ◌≤◌, List, [], ◌∷◌, ◌++◌, ◌&&◌, length, get_or, take, drop, reverse, refl, ap, sym, ◌∙◌, subst, inl, inr, arith}
use Rattle.std.specs.List.{between, filter}
use Rattle.std.proofs.lemmas.Bool.{cases_lt}
use Rattle.std.proofs.lemmas.List.{length-append, append-nil, append_assoc, get_or_append_left, get_or-append-add, take-append-drop, take_all, length-drop}
use Rattle.std.proofs.lemmas.List.Elements.{filter-append, filter_agree}
use Rattle.arc_core.specs.declared.bkeys.Bkey.{Bkey}
use Rattle.arc_core.specs.declared.trees.Elem.{Elem}
use Rattle.arc_core.specs.declared.bkeys.BkeyRange.{BkeyRange}
use Rattle.std.specs.Ordering.{is_gt}
use Rattle.arc_core.specs.BkeyOrder.{bkey_cmp, is_down, is_in_range, span}
use Rattle.arc_core.specs.BkeyLaws.{bkey_cmp_total}
use Rattle.arc_core.specs.TreeContents.{IsRising, place_of}
use Rattle.btree_nodes.proofs.TreeLemmas.{place_splits}
use Rattle.btree_nodes.proofs.WayLemmas.{rising_behind, rising_front}
use Rattle.btree_scan.specs.Directions.{joined, facing, is_within}
use Rattle.btree_scan.specs.Spans.{number_up_to}
use Rattle.btree_scan.proofs.DirectionLemmas.{as_many}
use Rattle.btree_scan.proofs.SpanLemmas.{filter_none, filter_every, filter_between, up_to, back_lt, back_not_lt}

-- The test of an end turns at this place: it fails before it and passes from it on where the walk goes down, and the other
-- way round where it goes up.
pub record Turns (down : Bool) (end : Bkey) (xs : List Elem) (place : ℕ) : Type 0 where
  pub within : place ≤ length xs
  pub before : (k : ℕ) (d : Elem) → k < place → is_within down end (get_or xs k d) ≡ not down
  pub behind : (k : ℕ) (d : Elem) → place ≤ k → k < length xs → is_within down end (get_or xs k d) ≡ down

-- where it turns
abbrev pub turning : Bool → Bkey → List Elem → ℕ
turning true end xs = place_of end xs
turning false end xs = number_up_to end xs

pub turns : (down : Bool) (end : Bkey) (xs : List Elem) → IsRising xs → Turns down end xs (turning down end xs)
turns true end xs rising =
    let at = place_splits end xs rising in
    record {
      within = at.within;
      before = λ k d below. let x = (get_or xs k d).bkey in ap not (back_lt (bkey_cmp x end) (bkey_cmp end x) (bkey_cmp_total.antisymm end x) (at.before k d below));
      behind = λ k d low within. let x = (get_or xs k d).bkey in ap not (back_not_lt (bkey_cmp x end) (bkey_cmp end x) (bkey_cmp_total.antisymm end x) (at.behind k d low within));
    }
turns false end xs rising =
    let at = up_to end xs rising in
    record {
      within = at.within;
      before = λ k d below. ap not (at.before k d below);
      behind = λ k d low within. ap not (at.behind k d low within);
    }

pub within_down : (end : Bkey) (xs : List Elem) → IsRising xs → between (place_of end xs) (length xs) xs ≡ filter (is_within true end) xs
within_down end xs rising =
    let at = turns true end xs rising in
    sym (filter_between (is_within true end) xs (place_of end xs) (length xs) at.within (omega arith) at.before at.behind (λ k d past below. absurd (omega arith)))

pub within_up : (end : Bkey) (xs : List Elem) → IsRising xs → take (number_up_to end xs) xs ≡ filter (is_within false end) xs
within_up end xs rising =
    let at = turns false end xs rising in
    let all : number_up_to end xs ≡ number_up_to end xs - 0 = omega arith in
    ap (λ n. take n xs) all ∙ sym (filter_between (is_within false end) xs 0 (number_up_to end xs) (omega arith) at.within (λ k d below. absurd (omega arith)) (λ k d low below. at.before k d below) at.behind)

-- where a leaf has elements behind the end, nothing that is ahead is within it
pub nothing_within : (down : Bool) (end : Bkey) (near more : List Elem) → IsRising (joined down near more) → length (filter (is_within down end) near) < length near → filter (is_within down end) more ≡ []
nothing_within true end near more rising short =
    let p = is_within true end in
    let xs = more ++ near in
    let at = turns true end xs rising in
    let both = length-append more near in
    elim (cases_lt (length more) (place_of end xs)) [
      | inl past ↦ filter_none p more (λ k d below. ap p (sym (get_or_append_left more near d k below)) ∙ at.before k d (omega arith))
      | inr front ↦ let all = filter_every p near (λ k d below. ap p (sym (get_or-append-add more near k d)) ∙ at.behind (length more + k) d (omega arith) (omega arith)) in
          absurd (omega (arith, ap length all))
    ]
nothing_within false end near more rising short =
    let p = is_within false end in
    let xs = near ++ more in
    let at = turns false end xs rising in
    let both = length-append near more in
    elim (cases_lt (length near) (number_up_to end xs)) [
      | inl past ↦ let all = filter_every p near (λ k d below. ap p (sym (get_or_append_left near more d k below)) ∙ at.before k d (omega arith)) in
          absurd (omega (arith, ap length all))
      | inr front ↦ filter_none p more (λ k d below. ap p (sym (get_or-append-add near more k d)) ∙ at.behind (length near + k) d (omega arith) (omega arith))
    ]

-- of elements before, below and behind a child in which the walk begins: those that it comes to
pub begun : (down : Bool) (near : Bkey) (A M R : List Elem) (place : ℕ) → Turns (not down) near (A ++ (M ++ R)) place → length A ≤ place → place ≤ length A + length M
    → filter (is_within (not down) near) (A ++ (M ++ R)) ≡ joined down (filter (is_within (not down) near) M) (if down then A else R)
begun true near A M R place at low high =
    let q = is_within false near in
    let both = length-append A (M ++ R) in
    let rest = length-append M R in
    let front = filter_every q A (λ k d below. ap q (sym (get_or_append_left A (M ++ R) d k below)) ∙ at.before k d (omega arith)) in
    let none = filter_none q R (λ k d below. ap q (sym (get_or-append-add A (M ++ R) (length M + k) d ∙ get_or-append-add M R k d)) ∙ at.behind (length A + (length M + k)) d (omega arith) (omega arith)) in
    filter-append q A (M ++ R) ∙ (ap (λ xs. xs ++ filter q (M ++ R)) front ∙ ap (λ xs. A ++ xs) (filter-append q M R ∙ (ap (λ xs. filter q M ++ xs) none ∙ append-nil (filter q M))))
begun false near A M R place at low high =
    let q = is_within true near in
    let both = length-append A (M ++ R) in
    let rest = length-append M R in
    let front = filter_none q A (λ k d below. ap q (sym (get_or_append_left A (M ++ R) d k below)) ∙ at.before k d (omega arith)) in
    let all = filter_every q R (λ k d below. ap q (sym (get_or-append-add A (M ++ R) (length M + k) d ∙ get_or-append-add M R k d)) ∙ at.behind (length A + (length M + k)) d (omega arith) (omega arith)) in
    filter-append q A (M ++ R) ∙ (ap (λ xs. xs ++ filter q (M ++ R)) front ∙ (filter-append q M R ∙ ap (λ xs. filter q M ++ xs) all))

-- and those behind which the walk begins rise with what was ahead
pub begun_rising : (down : Bool) (A M R more : List Elem) → IsRising (joined down (A ++ (M ++ R)) more) → IsRising (joined down M (joined down (if down then A else R) more))
begun_rising true A M R more rising =
    let whole : more ++ (A ++ (M ++ R)) ≡ ((more ++ A) ++ M) ++ R = sym (append_assoc more A (M ++ R)) ∙ sym (append_assoc (more ++ A) M R) in
    rising_front ((more ++ A) ++ M) R (subst IsRising whole rising)
begun_rising false A M R more rising =
    let whole : (A ++ (M ++ R)) ++ more ≡ A ++ (M ++ (R ++ more)) = append_assoc A (M ++ R) more ∙ ap (λ xs. A ++ xs) (append_assoc M R more) in
    rising_behind A (M ++ (R ++ more)) (subst IsRising whole rising)

least_by : (b : Bool) (x : Elem) (ys : List Elem) (n : ℕ) → length ys ≤ n → length (cond b (x ∷ ys) ys) ≤ n + 1
least_by true x ys n least = omega arith
least_by false x ys n least = omega arith

pub filter_least : (p : Elem → Bool) (xs : List Elem) → length (filter p xs) ≤ length xs
filter_least p [] = omega arith
filter_least p (x ∷ xs) = omega (arith, least_by (p x) x (filter p xs) (length xs) (filter_least p xs))

full_by : (b : Bool) (x : Elem) (ys xs : List Elem) → length ys ≤ length xs → (length ys ≡ length xs → ys ≡ xs) → length (cond b (x ∷ ys) ys) ≡ length xs + 1 → cond b (x ∷ ys) ys ≡ x ∷ xs
full_by true x ys xs least same full = ap (λ zs. x ∷ zs) (same (omega arith))
full_by false x ys xs least same full = absurd (omega arith)

-- where as many pass as there are, all do
pub filter_full : (p : Elem → Bool) (xs : List Elem) → length (filter p xs) ≡ length xs → filter p xs ≡ xs
filter_full p [] full = refl
filter_full p (x ∷ xs) full = full_by (p x) x (filter p xs) xs (filter_least p xs) (filter_full p xs) (omega arith)

-- what is left of a leaf from the near end on rises with what is ahead
pub from_near_rising : (down : Bool) (near : Bkey) (leaf more : List Elem) → IsRising (joined down leaf more) → IsRising (joined down (filter (is_within (not down) near) leaf) more)
from_near_rising true near leaf more rising =
    let n = number_up_to near leaf in
    let whole : more ++ leaf ≡ (more ++ take n leaf) ++ drop n leaf = ap (λ xs. more ++ xs) (sym (take-append-drop n leaf)) ∙ sym (append_assoc more (take n leaf) (drop n leaf)) in
    subst (λ xs. IsRising (more ++ xs)) (within_up near leaf (rising_behind more leaf rising)) (rising_front (more ++ take n leaf) (drop n leaf) (subst IsRising whole rising))
from_near_rising false near leaf more rising =
    let n = place_of near leaf in
    let whole : leaf ++ more ≡ take n leaf ++ (drop n leaf ++ more) = ap (λ xs. xs ++ more) (sym (take-append-drop n leaf)) ∙ append_assoc (take n leaf) (drop n leaf) more in
    let rest : drop n leaf ≡ between n (length leaf) leaf = sym (take_all (length leaf - n) (drop n leaf) (omega (arith, length-drop n leaf))) in
    subst (λ xs. IsRising (xs ++ more)) (rest ∙ within_down near leaf (rising_front leaf more rising)) (rising_behind (take n leaf) (drop n leaf ++ more) (subst IsRising whole rising))

both_by : (p q : Elem → Bool) (b : Bool) (x : Elem) (ys zs : List Elem) → q x ≡ b → filter p ys ≡ zs → filter p (cond b (x ∷ ys) ys) ≡ cond (b && p x) (x ∷ zs) zs
both_by p q true x ys zs is rest = ap (λ all. cond (p x) (x ∷ all) all) rest
both_by p q false x ys zs is rest = rest

-- two tests one after the other
pub filter_both : (p q : Elem → Bool) (xs : List Elem) → filter p (filter q xs) ≡ filter (λ x. q x && p x) xs
filter_both p q [] = refl
filter_both p q (x ∷ xs) = both_by p q (q x) x (filter q xs) (filter (λ x. q x && p x) xs) refl (filter_both p q xs)

and_comm : (a b : Bool) → (a && b) ≡ (b && a)
and_comm true true = refl
and_comm true false = refl
and_comm false true = refl
and_comm false false = refl

spanned_by : (down : Bool) (first last : Bkey) (xs : List Elem) → facing down (filter (is_within down last) (filter (is_within (not down) first) xs))
    ≡ (if down then reverse (filter (λ e. not (is_gt (bkey_cmp (if down then last else first) e.bkey)) && not (is_gt (bkey_cmp e.bkey (if down then first else last)))) xs)
    else filter (λ e. not (is_gt (bkey_cmp (if down then last else first) e.bkey)) && not (is_gt (bkey_cmp e.bkey (if down then first else last)))) xs)
spanned_by true first last xs =
    let p = is_within true last in
    let q = is_within false first in
    ap reverse (filter_both p q xs ∙ filter_agree (λ x. q x && p x) (λ x. p x && q x) (λ x. and_comm (q x) (p x)) xs)
spanned_by false first last xs = filter_both (is_within false last) (is_within true first) xs

-- the elements that are neither before the near end nor behind the far one are the range's
pub spanned : (range : BkeyRange) (down : Bool) (xs : List Elem) → down ≡ is_down range → facing down (filter (is_within down range.last) (filter (is_within (not down) range.first) xs)) ≡ span (λ element. element.bkey) range xs
spanned range down xs is = ap (λ b. facing b (filter (is_within b range.last) (filter (is_within (not b) range.first) xs))) is ∙ spanned_by (is_down range) range.first range.last xs

-- a range has no more elements than there are
pub span_least : (range : BkeyRange) (xs : List Elem) → length (span (λ element. element.bkey) range xs) ≤ length xs
span_least range xs =
    let test : Elem → Bool = λ element. is_in_range range element.bkey in
    omega (arith, as_many (is_down range) (filter test xs), filter_least test xs)
