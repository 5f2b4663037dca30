-- Parts of a walk, and the places that they have.
use Rattle.std.proofs.Common.{◌≡◌, ℕ, zero, suc, ◌+◌, ◌-◌, ◌≤◌, min, Bool, true, false, cond, if◌then◌else◌, ◌==◌, Option, None, List, [], ◌∷◌, ◌++◌, length, get_or, take, drop, reverse, refl, ap, sym, ◌∙◌, arith}
use Rattle.std.specs.List.{between, filter}
use Rattle.std.proofs.lemmas.Bool.{ne_eqb}
use Rattle.std.proofs.lemmas.List.{append-nil, append_assoc, take-append-drop, take_all, drop_all, take_at, drop_at, take-take, drop-take, drop-drop, take_min, drop_min, length-take-le, length-drop, length-reverse, reverse-append, nil_from_length}
use Rattle.std.proofs.lemmas.List.Edits.{split_between, length-between}
use Rattle.std.proofs.lemmas.List.Elements.{filter-append}
use Rattle.std.proofs.lemmas.List.Filters.{length-filter_more}
use Rattle.std.proofs.lemmas.Option.{slice_get_within, get_or_from_slice_get}
use Rattle.arc_core.specs.declared.bkeys.BkeyRange.{BkeyRange}
use Rattle.arc_core.specs.declared.filters.Filter.{Filter}
use Rattle.arc_core.specs.declared.trees.Elem.{Elem}
use Rattle.arc_core.specs.declared.trees.TreeRead.{TreeRead}
use Rattle.arc_core.specs.BkeyOrder.{is_down, is_in_range, span}
use Rattle.arc_core.specs.TreeContents.{IsRising}
use Rattle.arc_core.specs.TreeReading.{chosen, is_selected, selected}
use Rattle.btree_scan.proofs.SpanLemmas.{filter_every}
use Rattle.btree_scan.proofs.DirectionLemmas.{length_facing}
use Rattle.btree_scan.specs.Directions.{facing}
use Rattle.btree_scan.specs.Spans.{ArePlaces}
use Rattle.tree_coll.specs.TreeHolding.{limit_of}
use Rattle.tree_coll.specs.TreePlanning.{IsPart, AreChosen}
use Rattle.tree_coll.proofs.WalkLemmas.{at_drop, few_selected, limited}

-- A WALK PAST SELECTED ELEMENTS

module _ {X : Type 0} (p : X → Bool) where
  split_filter : (n : ℕ) (xs : List X) → filter p (take n xs) ++ filter p (drop n xs) ≡ filter p xs
  split_filter n xs = sym (filter-append p (take n xs) (drop n xs)) ∙ ap (filter p) (take-append-drop n xs)

  -- as many as were asked for
  pub full_selected : (n most : ℕ) (xs : List X) → length (filter p (take n xs)) ≡ most → filter p (take n xs) ≡ take most (filter p xs)
  full_selected n most xs is = sym (ap (take most) (sym (split_filter n xs)) ∙ take_at (filter p (take n xs)) (filter p (drop n xs)) most is)

  pub full_rest : (n most : ℕ) (xs new : List X) → new ≡ drop n xs → length (filter p (take n xs)) ≡ most → filter p new ≡ drop most (filter p xs)
  full_rest n most xs new left is = ap (filter p) left ∙ sym (ap (drop most) (sym (split_filter n xs)) ∙ drop_at (filter p (take n xs)) (filter p (drop n xs)) most is)

  -- or all
  pub end_selected : (n most : ℕ) (xs : List X) → length xs ≤ n → length (filter p (take n xs)) ≤ most → filter p (take n xs) ≡ take most (filter p xs)
  end_selected n most xs all few =
      let same = ap (filter p) (take_all n xs all) in
      same ∙ sym (take_all most (filter p xs) (omega (arith, few, ap length same)))

  pub end_rest : (n most : ℕ) (xs new : List X) → length xs ≤ n → length (filter p (take n xs)) ≤ most → new ≡ [] → filter p new ≡ drop most (filter p xs)
  end_rest n most xs new all few none =
      let same = ap (filter p) (take_all n xs all) in
      ap (filter p) none ∙ sym (drop_all most (filter p xs) (omega (arith, few, ap length same)))

  -- where nothing is left all was passed
  pub all_passed : (n : ℕ) (xs old : List X) → n ≤ length xs → old ≡ drop n xs → old ≡ [] → length xs ≤ n
  all_passed n xs old within left none = omega (arith, length-drop n xs, ap length (sym left ∙ none))

  -- one more
  pub found_more : (n m : ℕ) (xs old new : List X) (x : X) (found : ℕ) → m ≡ n + 1 → old ≡ drop n xs → old ≡ x ∷ new → found ≡ length (filter p (take n xs))
      → found + (if p x then 1 else 0) ≡ length (filter p (take m xs))
  found_more n m xs old new x found is left some so_far =
      let at = at_drop n xs new x (sym left ∙ some) in
      let here : get_or xs n x ≡ x = get_or_from_slice_get xs n x x at in
      ap (λ k. k + cond (p x) 1 0) so_far ∙ (ap (λ y. length (filter p (take n xs)) + cond (p y) 1 0) (sym here)
      ∙ (sym (length-filter_more p xs n x (slice_get_within xs n x at)) ∙ ap (λ k. length (filter p (take k xs))) (sym is)))

  pub within_more : (n : ℕ) (xs old new : List X) (x : X) → old ≡ drop n xs → old ≡ x ∷ new → n + 1 ≤ length xs
  within_more n xs old new x left some = omega (arith, slice_get_within xs n x (at_drop n xs new x (sym left ∙ some)))

  -- REVERSED

  reversed_head : (b : Bool) (x : X) (ys : List X) → reverse ys ++ cond b (x ∷ []) [] ≡ reverse (cond b (x ∷ ys) ys)
  reversed_head true x ys = sym (reverse-append (x ∷ []) ys)
  reversed_head false x ys = append-nil (reverse ys)

  pub filter_reverse : (xs : List X) → filter p (reverse xs) ≡ reverse (filter p xs)
  filter_reverse [] = refl
  filter_reverse (x ∷ xs) =
      ap (filter p) (reverse-append (x ∷ []) xs) ∙ (filter-append p (reverse xs) (x ∷ [])
      ∙ (ap (λ ys. ys ++ filter p (x ∷ [])) (filter_reverse xs) ∙ reversed_head (p x) x (filter p xs)))

module _ {X : Type 0} where
  -- a part of what stands between two places
  pub part_between : (low high before passed : ℕ) (xs : List X) → low + before + passed ≤ high → take passed (drop before (between low high xs)) ≡ between (low + before) (low + before + passed) xs
  part_between low high before passed xs within =
      let m = high - low - before in
      let all : high - low ≡ before + m = omega (arith, within) in
      let count : passed ≡ (low + before + passed) - (low + before) = omega arith in
      ap (λ n. take passed (drop before (take n (drop low xs)))) all
      ∙ (ap (take passed) (drop-take before m (drop low xs))
      ∙ (take-take passed m (drop before (drop low xs)) (omega (arith, within))
      ∙ (ap (take passed) (drop-drop before low xs) ∙ ap (λ n. take n (drop (low + before) xs)) count)))

  -- and of a list that is walked backwards
  pub part_reverse : (before passed : ℕ) (xs : List X) → before + passed ≤ length xs → take passed (drop before (reverse xs)) ≡ reverse (take passed (drop (length xs - before - passed) xs))
  part_reverse before passed xs within =
      let i = length xs - before - passed in
      let j = i + passed in
      let A = take i xs in
      let B = between i j xs in
      let D = drop j xs in
      let b : length (reverse D) ≡ before = omega (arith, within, length-reverse D, length-drop j xs) in
      let m : length (reverse B) ≡ passed = omega (arith, within, length-reverse B, length-between xs i j (omega (arith, within))) in
      let count : j - i ≡ passed = omega arith in
      let turned = ap reverse (split_between xs i j (omega arith)) ∙ (reverse-append A (B ++ D)
      ∙ (ap (λ ys. ys ++ reverse A) (reverse-append B D) ∙ append_assoc (reverse D) (reverse B) (reverse A))) in
      ap (λ ys. take passed (drop before ys)) turned
      ∙ (ap (take passed) (drop_at (reverse D) (reverse B ++ reverse A) before b)
      ∙ (take_at (reverse B) (reverse A) passed m ∙ ap (λ n. reverse (take n (drop i xs))) count))

-- THE PART OF A READ

-- without a filter
every : (xs : List Elem) → filter (is_selected None) xs ≡ xs
every xs = filter_every (is_selected None) xs (λ k d within. refl)

pub part_all : (offset limit number before passed : ℕ) (inside : List Elem) → number ≡ length inside → before ≡ min offset number → passed ≡ min limit (number - before) → IsPart None offset limit inside before passed
part_all offset limit number before passed inside number_is before_is passed_is =
    let rest = drop before inside in
    let long : length rest ≡ number - before = omega (arith, length-drop before inside, number_is) in
    let same : rest ≡ drop offset inside = ap (λ n. drop n inside) (before_is ∙ ap (min offset) number_is) ∙ drop_min offset inside in
    let taken : take passed rest ≡ take limit rest = ap (λ n. take n rest) (passed_is ∙ ap (min limit) (sym long)) ∙ take_min limit rest in
    record {
      within = omega (arith, number_is, before_is, passed_is);
      chosen_are = every (take passed rest) ∙ (taken ∙ (ap (take limit) same ∙ ap (λ ys. take limit (drop offset ys)) (sym (every inside))));
      some = λ one. omega (arith, one, ap length (every (take passed rest)), length-take-le passed rest (omega (arith, long, passed_is)));
    }

-- by a walk past the offset and one past the limit
pub part_walked : (asked : Option Filter) (offset limit : ℕ) (inside left : List Elem) (before gone found passed : ℕ)
    → left ≡ drop before inside → before ≤ length inside → gone ≤ length left
    → filter (is_selected asked) left ≡ drop offset (filter (is_selected asked) inside)
    → filter (is_selected asked) (take gone left) ≡ take limit (filter (is_selected asked) left)
    → found ≡ length (filter (is_selected asked) (take gone left))
    → passed ≡ (if found == 0 then 0 else gone) → IsPart asked offset limit inside before passed
part_walked asked offset limit inside left before gone zero passed left_is before_in gone_in rest_is chosen_is found_is passed_is =
    let p = is_selected asked in
    let none : filter p (take gone left) ≡ [] = nil_from_length (filter p (take gone left)) (sym found_is) in
    record {
      within = omega (arith, before_in, passed_is);
      chosen_are = ap (λ n. filter p (take n (drop before inside))) passed_is ∙ (sym none ∙ (chosen_is ∙ ap (take limit) rest_is));
      some = λ one. absurd (omega (arith, one, passed_is));
    }
part_walked asked offset limit inside left before gone (suc n) passed left_is before_in gone_in rest_is chosen_is found_is passed_is =
    let p = is_selected asked in
    let all : passed ≡ gone = passed_is ∙ ap (λ b. if b then 0 else gone) (ne_eqb (suc n) 0 (λ e. omega (arith, e))) in
    let same : filter p (take passed (drop before inside)) ≡ filter p (take gone left) = ap (λ m. filter p (take m (drop before inside))) all ∙ ap (λ ys. filter p (take gone ys)) (sym left_is) in
    record {
      within = omega (arith, before_in, all, gone_in, ap length left_is, length-drop before inside);
      chosen_are = same ∙ (chosen_is ∙ ap (take limit) rest_is);
      some = λ one. omega (arith, ap length same, found_is);
    }

-- THE PLACES OF A PART

by_direction : (down : Bool) (xs ys : List Elem) → xs ≡ ys → (if down then reverse xs else xs) ≡ facing down ys
by_direction true xs ys same = ap reverse same
by_direction false xs ys same = same

spanned : (range : BkeyRange) (xs : List Elem) (low high : ℕ) → ArePlaces range xs low high → span (λ element. element.bkey) range xs ≡ facing (is_down range) (between low high xs)
spanned range xs low high places = by_direction (is_down range) (filter (λ element. is_in_range range element.bkey) xs) (between low high xs) places.elements_are

pub span_length : (range : BkeyRange) (xs : List Elem) (low high : ℕ) → ArePlaces range xs low high → high - low ≡ length (span (λ element. element.bkey) range xs)
span_length range xs low high places =
    sym (ap length (spanned range xs low high places) ∙ (length_facing (is_down range) (between low high xs) ∙ length-between xs low high places.within))

chosen_by : (read : TreeRead) (xs : List Elem) (limit before passed : ℕ) → limit ≡ limit_of read.count (length xs) → IsPart read.filter read.offset limit (span (λ element. element.bkey) read.range xs) before passed
    → chosen read xs ≡ filter (is_selected read.filter) (take passed (drop before (span (λ element. element.bkey) read.range xs)))
chosen_by read xs limit before passed limit_is part =
    let all = selected read.range read.filter xs in
    sym (part.chosen_are ∙ (ap (λ n. take n (drop read.offset all)) limit_is
    ∙ limited read.count (length xs) (drop read.offset all) (omega (arith, few_selected read.range read.filter xs, length-drop read.offset all))))

some_by : (read : TreeRead) (xs : List Elem) (limit before passed : ℕ) → limit ≡ limit_of read.count (length xs) → IsPart read.filter read.offset limit (span (λ element. element.bkey) read.range xs) before passed
    → 1 ≤ passed → 1 ≤ length (chosen read xs)
some_by read xs limit before passed limit_is part one = omega (arith, part.some one, ap length (chosen_by read xs limit before passed limit_is part))

pub places_up : (read : TreeRead) (xs : List Elem) (low high limit before passed : ℕ) → IsRising xs → ArePlaces read.range xs low high → limit ≡ limit_of read.count (length xs)
    → IsPart read.filter read.offset limit (span (λ element. element.bkey) read.range xs) before passed → is_down read.range ≡ false → AreChosen read xs (low + before) (low + before + passed)
places_up read xs low high limit before passed rising places limit_is part up =
    let p = is_selected read.filter in
    let inside = span (λ element. element.bkey) read.range xs in
    let here : inside ≡ between low high xs = spanned read.range xs low high places ∙ ap (λ d. facing d (between low high xs)) up in
    let fits : low + before + passed ≤ high = omega (arith, part.within, span_length read.range xs low high places, places.order) in
    record {
      rising = rising;
      order = omega arith;
      within = omega (arith, fits, places.within);
      chosen_are = chosen_by read xs limit before passed limit_is part
          ∙ (ap (λ ys. filter p (take passed (drop before ys))) here ∙ (ap (filter p) (part_between low high before passed xs fits)
          ∙ sym (ap (λ d. facing d (filter p (between (low + before) (low + before + passed) xs))) up)));
      some = λ other. some_by read xs limit before passed limit_is part (omega (arith, other));
    }

pub places_down : (read : TreeRead) (xs : List Elem) (low high limit before passed : ℕ) → IsRising xs → ArePlaces read.range xs low high → limit ≡ limit_of read.count (length xs)
    → IsPart read.filter read.offset limit (span (λ element. element.bkey) read.range xs) before passed → is_down read.range ≡ true → AreChosen read xs (high - before - passed) (high - before)
places_down read xs low high limit before passed rising places limit_is part down =
    let p = is_selected read.filter in
    let inside = span (λ element. element.bkey) read.range xs in
    let M = between low high xs in
    let here : inside ≡ reverse M = spanned read.range xs low high places ∙ ap (λ d. facing d M) down in
    let long : length M ≡ high - low = length-between xs low high places.within in
    let fits : low + before + passed ≤ high = omega (arith, part.within, span_length read.range xs low high places, places.order) in
    let i = length M - before - passed in
    let from : low + i ≡ high - before - passed = omega (arith, long, fits) in
    let to : low + i + passed ≡ high - before = omega (arith, long, fits) in
    let these : take passed (drop before inside) ≡ reverse (between (high - before - passed) (high - before) xs) =
    ap (λ ys. take passed (drop before ys)) here ∙ (part_reverse before passed M (omega (arith, long, fits))
    ∙ ap reverse (part_between low high i passed xs (omega (arith, long, fits)) ∙ (ap (λ n. between n (low + i + passed) xs) from ∙ ap (λ n. between (high - before - passed) n xs) to))) in
    record {
      rising = rising;
      order = omega arith;
      within = omega (arith, places.within);
      chosen_are = chosen_by read xs limit before passed limit_is part
          ∙ (ap (filter p) these ∙ (filter_reverse p (between (high - before - passed) (high - before) xs)
          ∙ sym (ap (λ d. facing d (filter p (between (high - before - passed) (high - before) xs))) down)));
      some = λ other. some_by read xs limit before passed limit_is part (omega (arith, other));
    }
