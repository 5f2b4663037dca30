-- A tree's range in its direction.
use Rattle.std.proofs.Common.{◌≡◌, ◌-◌, ◌<◌, Bool, true, false, if◌then◌else◌, List, ◌∷◌, [], ◌++◌, length, get_or, reverse, ap, sym, ◌∙◌, subst, arith}
use Rattle.std.specs.List.{filter}
use Rattle.std.specs.Ordering.{is_lt}
use Rattle.std.proofs.lemmas.List.{append-nil, get_or-reverse, length-reverse}
use Rattle.std.proofs.lemmas.List.Concat.{flat_map-append}
use Rattle.std.proofs.lemmas.List.Kept.{AllPairs-filter}
use Rattle.arc_core.specs.declared.bkeys.BkeyRange.{BkeyRange}
use Rattle.arc_core.specs.declared.trees.Elem.{Elem}
use Rattle.arc_core.specs.BkeyOrder.{is_down, is_in_range, span}
use Rattle.arc_core.specs.TreeContents.{MayPrecede, IsRising}
use Rattle.smget_merge.specs.MergedRows.{TreeRow, is_before, rows_of, sorted}
use Rattle.smget_merge.specs.Walks.{WalkLeft, all_rows, IsFacing}
use Rattle.smget_merge.proofs.SortLemmas.{sorted_again}

facing : (down : Bool) (xs : List Elem) → IsRising xs → IsFacing down (if down then reverse xs else xs)
facing false xs rising i j d order within = ap is_lt (rising i j d order within).below
facing true xs rising i j d order within =
    let many = length-reverse xs in
    let low : j < length xs = omega arith in
    let x = get_or-reverse xs i d (omega arith) in
    let y = get_or-reverse xs j d low in
    let below = ap is_lt (rising (length xs - 1 - j) (length xs - 1 - i) d (omega arith) (omega arith)).below in
    subst (λ (e : Elem). is_before true e (get_or (reverse xs) j d) ≡ true) (sym x) (subst (λ (e : Elem). is_before true (get_or xs (length xs - 1 - i) d) e ≡ true) (sym y) below)

-- a range's elements go in its direction
pub span_facing : (range : BkeyRange) (xs : List Elem) → IsRising xs → IsFacing (is_down range) (span (λ element. element.bkey) range xs)
span_facing range xs rising = facing (is_down range) (filter (λ (element : Elem). is_in_range range element.bkey) xs) (AllPairs-filter MayPrecede (λ (element : Elem). is_in_range range element.bkey) xs rising)

-- one walk more
pub add_rows : (down : Bool) (walks : List WalkLeft) (walk : WalkLeft) → sorted down (all_rows (walks ++ walk ∷ [])) ≡ sorted down (sorted down (all_rows walks) ++ rows_of walk.number walk.elements)
add_rows down walks walk =
    let f : WalkLeft → List TreeRow = λ w. rows_of w.number w.elements in
    ap (sorted down) (flat_map-append f walks (walk ∷ []) ∙ ap (λ rows. all_rows walks ++ rows) (append-nil (rows_of walk.number walk.elements)))
    ∙ sym (sorted_again down (all_rows walks) (rows_of walk.number walk.elements))
