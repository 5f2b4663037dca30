-- What a read answers that does not meet the zone.
use Rattle.std.proofs.Common.{◌≡◌, ℕ, zero, suc, ◌+◌, Bool, true, false, not, ◌&&◌, ◌||◌, if◌then◌else◌, List, take, drop, reverse, slice_get, Option, Some, None, refl, ap, sym, ◌∙◌}
use Rattle.std.specs.List.{filter}
use Rattle.std.specs.Option.{option_map_or}
use Rattle.std.specs.Ordering.{is_gt, is_lt}
use Rattle.std.proofs.lemmas.Bool.{and_from, and_parts, both_ways, not-false, not-true, or_parts}
use Rattle.std.proofs.lemmas.Cmp.{upto}
use Rattle.arc_core.specs.declared.bkeys.Bkey.{Bkey}
use Rattle.arc_core.specs.declared.bkeys.BkeyRange.{BkeyRange}
use Rattle.arc_core.specs.declared.filters.Filter.{Filter}
use Rattle.arc_core.specs.declared.trees.Edges.{Edges}
use Rattle.arc_core.specs.declared.trees.Elem.{Elem}
use Rattle.arc_core.specs.BkeyOrder.{bkey_cmp, greater_end, is_down, is_in_range, lesser_end}
use Rattle.arc_core.specs.BkeyLaws.{bkey_cmp_total}
use Rattle.arc_core.specs.TreeReading.{completing, is_above_all, is_below_all, is_in_high_zone, is_in_low_zone, is_selected, meets_zone, selected, take_count}
use Rattle.tree_history.specs.Agreement.{AreByBkey, is_above_edge, is_below_edge, is_clear}
use Rattle.tree_history.proofs.EdgeLemmas.{greater_is}
use Rattle.tree_history.proofs.Lists.{agree_narrower, below_then_up, filter-reverse, filter_comm, filter_within, up_then_below}
use Rattle.tree_history.proofs.OrderLemmas.{comes_before, is_up_to, same_part, same_start, selected_go}

-- A RANGE OUTSIDE THE ZONE IS CLEAR OF THE EDGES

above_low : (edge : Option Bkey) (elements : List Elem) (end x : Bkey) → option_map_or (λ low. not (is_gt (bkey_cmp end low)) || is_below_all end elements) edge false ≡ false → is_gt (bkey_cmp end x) ≡ false
    → is_above_edge edge x ≡ true
above_low None elements end x outside inside = refl
above_low (Some low) elements end x outside inside =
    below_then_up low end x (sym (greater_is end low) ∙ not-false (is_gt (bkey_cmp end low)) (or_parts (not (is_gt (bkey_cmp end low))) (is_below_all end elements) outside).0)
    (sym (greater_is end x) ∙ inside)

below_high : (edge : Option Bkey) (elements : List Elem) (end x : Bkey) → option_map_or (λ high. not (is_lt (bkey_cmp end high)) || is_above_all end elements) edge false ≡ false → is_gt (bkey_cmp x end) ≡ false
    → is_below_edge edge x ≡ true
below_high None elements end x outside inside = refl
below_high (Some high) elements end x outside inside =
    up_then_below x end high (sym (greater_is x end) ∙ inside) (not-false (is_lt (bkey_cmp end high)) (or_parts (not (is_lt (bkey_cmp end high))) (is_above_all end elements) outside).0)

clear_in_range : (edges : Edges) (elements : List Elem) (range : BkeyRange) → meets_zone edges elements range ≡ false → (x : Elem) → is_in_range range x.bkey ≡ true → is_clear edges x ≡ true
clear_in_range edges elements range outside x inside =
    let zones = or_parts (is_in_low_zone edges elements (lesser_end range)) (is_in_high_zone edges elements (greater_end range)) outside in
    let ends = and_parts (not (is_gt (bkey_cmp (lesser_end range) x.bkey))) (not (is_gt (bkey_cmp x.bkey (greater_end range)))) inside in
    and_from (is_above_edge edges.low x.bkey) (is_below_edge edges.high x.bkey)
    (above_low edges.low elements (lesser_end range) x.bkey zones.0 (not-true (is_gt (bkey_cmp (lesser_end range) x.bkey)) ends.0))
    (below_high edges.high elements (greater_end range) x.bkey zones.1 (not-true (is_gt (bkey_cmp x.bkey (greater_end range))) ends.1))

-- THE ENDS OF A RANGE

abbrev Bounds : (down : Bool) → (first last x : Bkey) → Type 0
Bounds false first last x = (is_gt (bkey_cmp first x) ≡ false) × (is_gt (bkey_cmp x last) ≡ false)
Bounds true first last x = (is_gt (bkey_cmp last x) ≡ false) × (is_gt (bkey_cmp x first) ≡ false)

bounds : (down : Bool) (first last x : Bkey) → (not (is_gt (bkey_cmp (if down then last else first) x)) && not (is_gt (bkey_cmp x (if down then first else last)))) ≡ true → Bounds down first last x
bounds false first last x inside =
    let parts = and_parts (not (is_gt (bkey_cmp first x))) (not (is_gt (bkey_cmp x last))) inside in
    (not-true (is_gt (bkey_cmp first x)) parts.0, not-true (is_gt (bkey_cmp x last)) parts.1)
bounds true first last x inside =
    let parts = and_parts (not (is_gt (bkey_cmp last x))) (not (is_gt (bkey_cmp x first))) inside in
    (not-true (is_gt (bkey_cmp last x)) parts.0, not-true (is_gt (bkey_cmp x first)) parts.1)

from_bounds : (down : Bool) (first last x : Bkey) → Bounds down first last x → (not (is_gt (bkey_cmp (if down then last else first) x)) && not (is_gt (bkey_cmp x (if down then first else last)))) ≡ true
from_bounds false first last x both = and_from (not (is_gt (bkey_cmp first x))) (not (is_gt (bkey_cmp x last))) (ap not both.0) (ap not both.1)
from_bounds true first last x both = and_from (not (is_gt (bkey_cmp last x))) (not (is_gt (bkey_cmp x first))) (ap not both.0) (ap not both.1)

-- what is in a range and up to an end of it is in the range to that end
nearer : (down other : Bool) (first last : Bkey) (end x : Elem) → is_gt (bkey_cmp first end.bkey) ≡ other → Bounds down first last x.bkey → comes_before down end x ≡ false → Bounds other first end.bkey x.bkey
nearer false false first last end x way inside near = (inside.0, near)
nearer false true first last end x way inside near = absurd (both_ways (is_gt (bkey_cmp first end.bkey)) (upto bkey_cmp_total first x.bkey end.bkey inside.0 near) way)
nearer true true first last end x way inside near = (near, inside.1)
nearer true false first last end x way inside near = (upto bkey_cmp_total first end.bkey x.bkey way near, upto bkey_cmp_total x.bkey first end.bkey inside.1 way)

in_covered : (range : BkeyRange) (end x : Elem) → is_up_to (is_down range) end x ≡ true → is_in_range range x.bkey ≡ true → is_in_range (record { first = range.first; last = end.bkey }) x.bkey ≡ true
in_covered range end x near inside =
    let other = is_gt (bkey_cmp range.first end.bkey) in
    from_bounds other range.first end.bkey x.bkey
    (nearer (is_down range) other range.first range.last end x refl (bounds (is_down range) range.first range.last x.bkey inside) (not-true (comes_before (is_down range) end x) near))

-- WHAT IS SELECTED

module _ (edges : Edges) (elements kept : List Elem) (agree : filter (is_clear edges) kept ≡ filter (is_clear edges) elements) where
  inside_same : (range : BkeyRange) → meets_zone edges elements range ≡ false → filter (λ (x : Elem). is_in_range range x.bkey) kept ≡ filter (λ (x : Elem). is_in_range range x.bkey) elements
  inside_same range outside = agree_narrower (is_clear edges) (λ (x : Elem). is_in_range range x.bkey) kept elements (clear_in_range edges elements range outside) agree

  -- of a range outside the zone the same is selected
  pub selected_same : (range : BkeyRange) (asked : Option Filter) → meets_zone edges elements range ≡ false → selected range asked kept ≡ selected range asked elements
  selected_same range asked outside = ap (λ ys. filter (is_selected asked) (if is_down range then reverse ys else ys)) (inside_same range outside)

  up_to_in : (range : BkeyRange) (end : Elem) → meets_zone edges elements (record { first = range.first; last = end.bkey }) ≡ false
      → filter (is_up_to (is_down range) end) (filter (λ (x : Elem). is_in_range range x.bkey) kept) ≡ filter (is_up_to (is_down range) end) (filter (λ (x : Elem). is_in_range range x.bkey) elements)
  up_to_in range end outside =
      let p = is_up_to (is_down range) end in
      let r : Elem → Bool = λ x. is_in_range range x.bkey in
      let covered : BkeyRange = record { first = range.first; last = end.bkey } in
      let q : Elem → Bool = λ x. is_in_range covered x.bkey in
      sym (filter_within p r q kept (in_covered range end)) ∙ (ap (λ ys. filter p (filter r ys)) (inside_same covered outside) ∙ filter_within p r q elements (in_covered range end))

  turned : (down : Bool) (p : Elem → Bool) (xs : List Elem) → filter p (if down then reverse xs else xs) ≡ (if down then reverse (filter p xs) else filter p xs)
  turned true p xs = filter-reverse p xs
  turned false p xs = refl

  -- up to an element the same is selected, where the range that is covered up to it is outside the zone
  up_to_same : (range : BkeyRange) (asked : Option Filter) (end : Elem) → meets_zone edges elements (record { first = range.first; last = end.bkey }) ≡ false
      → filter (is_up_to (is_down range) end) (selected range asked kept) ≡ filter (is_up_to (is_down range) end) (selected range asked elements)
  up_to_same range asked end outside =
      let down = is_down range in
      let p = is_up_to down end in
      let r : Elem → Bool = λ x. is_in_range range x.bkey in
      let all : (xs : List Elem) → filter p (selected range asked xs) ≡ filter (is_selected asked) (if down then reverse (filter p (filter r xs)) else filter p (filter r xs)) =
      λ xs. filter_comm p (is_selected asked) (if down then reverse (filter r xs) else filter r xs) ∙ ap (filter (is_selected asked)) (turned down p (filter r xs)) in
      all kept ∙ (ap (λ ys. filter (is_selected asked) (if down then reverse ys else ys)) (up_to_in range end outside) ∙ sym (all elements))

  -- CHOSEN ELEMENTS

  module _ (elements_rise : AreByBkey elements) (kept_rise : AreByBkey kept) where
    cut : (range : BkeyRange) (asked : Option Filter) (offset n : ℕ) (end : Option Elem) → slice_get (selected range asked elements) (offset + n) ≡ end
        → meets_zone edges elements (option_map_or (λ (element : Elem). record { first = range.first; last = element.bkey }) end range) ≡ false
        → take (suc n) (drop offset (selected range asked kept)) ≡ take (suc n) (drop offset (selected range asked elements))
    cut range asked offset n None at outside = ap (λ ys. take (suc n) (drop offset ys)) (selected_same range asked outside)
    cut range asked offset n (Some end) at outside =
        same_part (selected range asked elements) (selected range asked kept) offset n
        (same_start (is_down range) end (selected range asked elements) (selected range asked kept) (offset + n) (selected_go range asked elements elements_rise) (selected_go range asked kept kept_rise) at
        (up_to_same range asked end outside))

    -- a read whose covered range is outside the zone
    pub chosen_same : (range : BkeyRange) (asked : Option Filter) (offset count : ℕ)
        → meets_zone edges elements (option_map_or (λ (element : Elem). record { first = range.first; last = element.bkey }) (completing offset count (selected range asked elements)) range) ≡ false
        → take_count count (drop offset (selected range asked kept)) ≡ take_count count (drop offset (selected range asked elements))
    chosen_same range asked offset zero outside = ap (drop offset) (selected_same range asked outside)
    chosen_same range asked offset (suc n) outside = cut range asked offset n (slice_get (selected range asked elements) (offset + n)) refl outside
