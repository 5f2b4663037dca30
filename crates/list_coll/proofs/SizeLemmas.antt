-- What a removal takes from the elements' stated sizes together.
use Rattle.std.proofs.Common.{◌≡◌, ℕ, ◌+◌, ◌-◌, ◌%◌, ◌^◌, ◌≤◌, List, ◌++◌, length, take, drop, slice_range, length-append, length-take, length-drop, ap, sym, subst, ◌∙◌, arith}
use Rattle.std.specs.List.{remove_range}
use Rattle.std.proofs.lemmas.List.Edits.{split_between}
use Rattle.std.proofs.lemmas.List.Sums.{sum_by-append}
use Rattle.arc_core.specs.CollectionSize.{value_size, values_size}

-- a number modulo 2^64 is lowered by another
lowered : (all left gone size lost : ℕ) → left + gone ≡ all → size ≡ all % 2 ^ 64 → lost ≡ gone % 2 ^ 64 → (size + (2 ^ 64 - lost)) % 2 ^ 64 ≡ left % 2 ^ 64
lowered all left gone size lost sum size_is lost_is = omega arith

-- the sizes of what is left and of what is removed
range_size : (xs : List (List ℕ)) (low high : ℕ) → low ≤ high → values_size (remove_range xs low high) + values_size (slice_range xs low high) ≡ values_size xs
range_size xs low high order =
    let whole = ap values_size (split_between xs low high order) ∙ sum_by-append value_size (take low xs) (slice_range xs low high ++ drop high xs) in
    omega (arith, whole, sum_by-append value_size (slice_range xs low high) (drop high xs), sum_by-append value_size (take low xs) (drop high xs))

-- the elements behind a removal are no more than before
range_short : (xs : List (List ℕ)) (low high most : ℕ) → low ≤ high → length xs ≤ most → length (remove_range xs low high) ≤ most
range_short xs low high most order short =
    omega (arith, length-append (take low xs) (drop high xs), length-take low xs, length-drop high xs)

-- the number that stands for the sizes is right behind a removal
pub range_removed : (xs new : List (List ℕ)) (low high most size lost : ℕ) → low ≤ high → new ≡ remove_range xs low high
    → (length xs ≤ most) × (size ≡ values_size xs % 2 ^ 64) → lost ≡ values_size (slice_range xs low high) % 2 ^ 64
    → (length new ≤ most) × ((size + (2 ^ 64 - lost)) % 2 ^ 64 ≡ values_size new % 2 ^ 64)
range_removed xs new low high most size lost order is kept lost_is = (
  subst (λ ys. length ys ≤ most) (sym is) (range_short xs low high most order kept.0),
  lowered (values_size xs) (values_size (remove_range xs low high)) (values_size (slice_range xs low high)) size lost (range_size xs low high order) kept.1 lost_is
      ∙ ap (λ ys. values_size ys % 2 ^ 64) (sym is),
)
