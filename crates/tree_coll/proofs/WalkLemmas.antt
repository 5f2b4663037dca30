-- A walk, element by element.
use Rattle.std.proofs.Common.{◌≡◌, ◌≢◌, ℕ, zero, suc, ◌+◌, ◌≤◌, ◌<◌, List, [], ◌∷◌, ◌++◌, length, map, take, drop, slice_get, Option, Some, None, refl, ap, sym, ◌∙◌, arith}
use Rattle.std.proofs.lemmas.Option.{slice_get_past}
use Rattle.std.proofs.lemmas.List.{length-drop, map_push, take_more}
use Rattle.std.proofs.lemmas.Option.{slice_get_within, get_or_from_slice_get}
use Rattle.std.specs.Prelude.{get_or}
use Rattle.std.specs.Prelude.{Bool, not}
use Rattle.std.specs.List.{filter}
use Rattle.std.specs.Option.{option_map, option_map_or}
use Rattle.std.proofs.lemmas.List.{take_all}
use Rattle.std.proofs.lemmas.List.Filters.{length-filter_both}
use Rattle.arc_core.specs.declared.bkeys.Bkey.{Bkey}
use Rattle.arc_core.specs.declared.bkeys.BkeyRange.{BkeyRange}
use Rattle.arc_core.specs.declared.filters.Filter.{Filter}
use Rattle.arc_core.specs.declared.trees.TreeRead.{TreeRead}
use Rattle.arc_core.specs.BkeyOrder.{is_down, is_in_range, span}
use Rattle.btree_scan.proofs.DirectionLemmas.{as_many}
use Rattle.tree_coll.specs.TreeHolding.{completed, covered_to, limit_of}
use Rattle.arc_core.specs.declared.rows.Row.{Row}
use Rattle.arc_core.specs.declared.trees.Elem.{Elem}
use Rattle.arc_core.specs.TreeReading.{chosen, completing, covered_range, is_selected, selected, take_count}
use Rattle.tree_coll.specs.TreeOutcomes.{tree_row}

module _ {X : Type 0} where
  -- what stands first behind i others
  pub at_drop : (i : ℕ) (xs rest : List X) (x : X) → drop i xs ≡ x ∷ rest → slice_get xs i ≡ Some x
  at_drop zero [] rest x eq = cc eq
  at_drop zero (y ∷ xs) rest x eq = cc eq
  at_drop (suc i) [] rest x eq = cc eq
  at_drop (suc i) (y ∷ xs) rest x eq = at_drop i xs rest x eq

  drop_suc : (i : ℕ) (xs rest : List X) (x : X) → drop i xs ≡ x ∷ rest → drop (suc i) xs ≡ rest
  drop_suc zero [] rest x eq = cc eq
  drop_suc zero (y ∷ xs) rest x eq = cc eq
  drop_suc (suc i) [] rest x eq = cc eq
  drop_suc (suc i) (y ∷ xs) rest x eq = drop_suc i xs rest x eq

  pub drop_more : (i : ℕ) (xs rest : List X) (x : X) → drop i xs ≡ x ∷ rest → drop (i + 1) xs ≡ rest
  drop_more i xs rest x eq = let same : i + 1 ≡ suc i = omega arith in ap (λ n. drop n xs) same ∙ drop_suc i xs rest x eq

  -- where nothing is left, nothing is behind
  pub drop_past : (i n : ℕ) (xs : List X) → i ≤ n → drop i xs ≡ [] → drop n xs ≡ []
  drop_past zero zero [] le eq = refl
  drop_past zero (suc n) [] le eq = refl
  drop_past zero n (y ∷ xs) le eq = cc eq
  drop_past (suc i) zero xs le eq = absurd (omega arith)
  drop_past (suc i) (suc n) [] le eq = refl
  drop_past (suc i) (suc n) (y ∷ xs) le eq = drop_past i n xs (omega arith) eq

  pub take_past : (i n : ℕ) (xs : List X) → i ≤ n → drop i xs ≡ [] → take i xs ≡ take n xs
  take_past zero zero [] le eq = refl
  take_past zero (suc n) [] le eq = refl
  take_past zero n (y ∷ xs) le eq = cc eq
  take_past (suc i) zero xs le eq = absurd (omega arith)
  take_past (suc i) (suc n) [] le eq = refl
  take_past (suc i) (suc n) (y ∷ xs) le eq = ap (λ ys. y ∷ ys) (take_past i n xs (omega arith) eq)

  pub none_past : (i n : ℕ) (xs : List X) → i ≤ n → drop i xs ≡ [] → slice_get xs n ≡ None
  none_past i n xs le eq = slice_get_past xs n (omega (arith, ap length eq, length-drop i xs))

  -- the rows so far, and one more
  pub row_more : {Y : Type 0} (row : X → Y) (xs rest : List X) (i : ℕ) (x : X) (rows new : List Y) → drop i xs ≡ x ∷ rest
      → rows ≡ map row (take i xs) → new ≡ rows ++ row x ∷ [] → new ≡ map row (take (i + 1) xs)
  row_more row xs rest i x rows new left so_far now =
      let at = at_drop i xs rest x left in
      let one = ap (λ y. map row (take i xs) ++ row y ∷ []) (get_or_from_slice_get xs i x x at) in
      now ∙ ap (λ l. l ++ row x ∷ []) so_far
      ∙ sym (ap (map row) (take_more xs i x (slice_get_within xs i x at)) ∙ map_push row (take i xs) (get_or xs i x) ∙ one)

get_drop : (n i : ℕ) (xs : List Elem) → slice_get (drop n xs) i ≡ slice_get xs (n + i)
get_drop zero i xs = let same : 0 + i ≡ i = omega arith in sym (ap (slice_get xs) same)
get_drop (suc n) i [] = refl
get_drop (suc n) i (x ∷ xs) = let same : suc n + i ≡ suc (n + i) = omega arith in get_drop n i xs ∙ sym (ap (slice_get (x ∷ xs)) same)

no_more : (p : Elem → Bool) (xs : List Elem) → length (filter p xs) ≤ length xs
no_more p xs = omega (arith, length-filter_both p (λ x. not (p x)) (λ x. refl) xs)

-- the selected elements are no more than the tree has
pub few_selected : (range : BkeyRange) (asked : Option Filter) (elements : List Elem) → length (selected range asked elements) ≤ length elements
few_selected range asked elements =
    let inside = filter (λ element. is_in_range range element.bkey) elements in
    omega (arith, no_more (is_selected asked) (span (λ element. element.bkey) range elements), as_many (is_down range) inside, no_more (λ element. is_in_range range element.bkey) elements)

pub limited : (count all : ℕ) (xs : List Elem) → length xs ≤ all → take (limit_of count all) xs ≡ take_count count xs
limited zero all xs le = take_all all xs le
limited (suc n) all xs le = refl

-- what was collected is what the read chooses
pub chosen_rows : (read : TreeRead) (elements left : List Elem) (all limit : ℕ) (rows : List Row) → all ≡ length elements → limit ≡ limit_of read.count all → left ≡ drop read.offset (selected read.range read.filter elements)
    → rows ≡ map tree_row (take limit left) → rows ≡ map tree_row (chosen read elements)
chosen_rows read elements left all limit rows all_is limit_is left_is rows_are =
    let most = few_selected read.range read.filter elements in
    rows_are ∙ (ap (λ n. map tree_row (take n left)) limit_is ∙ (ap (λ xs. map tree_row (take (limit_of read.count all) xs)) left_is
    ∙ ap (map tree_row) (limited read.count all (drop read.offset (selected read.range read.filter elements)) (omega (arith, all_is, most, length-drop read.offset (selected read.range read.filter elements))))))

mapped_range : (range : BkeyRange) (element : Option Elem)
    → covered_to range (option_map (λ (x : Elem). x.bkey) element) ≡ option_map_or (λ (x : Elem). record { first = range.first; last = x.bkey }) element range
mapped_range range None = refl
mapped_range range (Some x) = refl

covered_by : (range : BkeyRange) (offset count all : ℕ) (others : List Elem)
    → covered_to range (completed count (option_map (λ (x : Elem). x.bkey) (completing 0 (limit_of count all) (drop offset others))))
    ≡ option_map_or (λ (x : Elem). record { first = range.first; last = x.bkey }) (completing offset count others) range
covered_by range offset zero all others = refl
covered_by range offset (suc n) all others =
    let same : offset + (0 + n) ≡ offset + n = omega arith in
    mapped_range range (slice_get (drop offset others) (0 + n))
    ∙ ap (λ element. option_map_or (λ (x : Elem). record { first = range.first; last = x.bkey }) element range) (get_drop offset (0 + n) others ∙ ap (slice_get others) same)

-- up to where the read covers its range
pub covered_is : (read : TreeRead) (elements left : List Elem) (all limit : ℕ) (last : Option Bkey) (range : BkeyRange) → limit ≡ limit_of read.count all → left ≡ drop read.offset (selected read.range read.filter elements)
    → last ≡ option_map (λ (x : Elem). x.bkey) (completing 0 limit left) → range ≡ covered_to read.range (completed read.count last) → range ≡ covered_range read elements
covered_is read elements left all limit last range limit_is left_is last_is is =
    is ∙ (ap (λ l. covered_to read.range (completed read.count l)) (last_is ∙ (ap (λ n. option_map (λ (x : Elem). x.bkey) (completing 0 n left)) limit_is ∙ ap (λ xs. option_map (λ (x : Elem). x.bkey) (completing 0 (limit_of read.count all) xs)) left_is))
    ∙ covered_by read.range read.offset read.count all (selected read.range read.filter elements))

-- a walk that ends before its offset
pub skip_end : (xs old new : List Elem) (i n : ℕ) → i < n → old ≡ drop i xs → (old ≡ []) × (new ≡ []) → new ≡ drop n xs
skip_end xs old new i n lt inv none = none.1 ∙ sym (drop_past i n xs (omega arith) (sym inv ∙ none.0))

pub skip_more : (xs old new : List Elem) (i : ℕ) (x : Elem) → old ≡ drop i xs → old ≡ x ∷ new → new ≡ drop (i + 1) xs
skip_more xs old new i x inv some = sym (drop_more i xs new x (sym inv ∙ some))

-- a walk that ends before its count
pub rows_end : (xs old new : List Elem) (rows : List Row) (i n : ℕ) → i < n → old ≡ drop i xs → rows ≡ map tree_row (take i xs) → (old ≡ []) × (new ≡ []) → rows ≡ map tree_row (take n xs)
rows_end xs old new rows i n lt inv so_far none = so_far ∙ ap (map tree_row) (take_past i n xs (omega arith) (sym inv ∙ none.0))

pub last_end : (xs old new : List Elem) (i n : ℕ) → i < n → old ≡ drop i xs → (old ≡ []) × (new ≡ []) → None ≡ option_map (λ (x : Elem). x.bkey) (completing 0 n xs)
last_end xs old new i zero lt inv none = refl
last_end xs old new i (suc n) lt inv none = sym (ap (option_map (λ (x : Elem). x.bkey)) (none_past i (0 + n) xs (omega arith) (sym inv ∙ none.0)))

completed_more : (xs : List Elem) (i m : ℕ) (x : Elem) → m ≡ suc i → slice_get xs i ≡ Some x → Some x.bkey ≡ option_map (λ (y : Elem). y.bkey) (completing 0 m xs)
completed_more xs i m x is at =
    let same : 0 + i ≡ i = omega arith in
    sym (ap (λ k. option_map (λ (y : Elem). y.bkey) (completing 0 k xs)) is ∙ ap (option_map (λ (y : Elem). y.bkey)) (ap (slice_get xs) same ∙ at))

pub last_more : (xs old new : List Elem) (i : ℕ) (x : Elem) → old ≡ drop i xs → old ≡ x ∷ new → Some x.bkey ≡ option_map (λ (y : Elem). y.bkey) (completing 0 (i + 1) xs)
last_more xs old new i x inv some = completed_more xs i (i + 1) x (omega arith) (at_drop i xs new x (sym inv ∙ some))

-- a count of 0, and another one
pub limit_at : (n all : ℕ) → n ≢ 0 → n ≡ limit_of n all
limit_at zero all ne = absurd (ne refl)
limit_at (suc n) all ne = refl

pub all_at : (n all : ℕ) → n ≡ 0 → all ≡ limit_of n all
all_at n all is = sym (ap (λ k. limit_of k all) is)

pub completed_at : (n : ℕ) (last : Option Bkey) → n ≢ 0 → last ≡ completed n last
completed_at zero last ne = absurd (ne refl)
completed_at (suc n) last ne = refl

pub none_at : (n : ℕ) (last : Option Bkey) → n ≡ 0 → None ≡ completed n last
none_at n last is = sym (ap (λ k. completed k last) is)
