-- What a change does to the number that stands for the pairs' stated sizes together.
use Rattle.std.proofs.Common.{◌≡◌, ℕ, zero, suc, ◌+◌, ◌-◌, ◌%◌, ◌^◌, ◌<◌, List, [], ◌∷◌, ◌++◌, length, take, drop, remove, slice_get, is_some, unwrap_or, Some, ap, sym, ◌∙◌, arith}
use Rattle.std.specs.Option.{option_map}
use Rattle.std.proofs.lemmas.Bool.{false≢true}
use Rattle.std.proofs.lemmas.List.Sums.{sum_by-cons, sum_by_push, sum_by-remove, sum_by-take-drop, sum_by-drop_more}
use Rattle.std.proofs.lemmas.Option.{slice_get_within, get_or_from_slice_get}
use Rattle.arc_core.specs.CollectionSize.{pair_size, pairs_size}
use Rattle.arc_core.specs.MapReading.{with_value_at}

-- a number modulo 2^64 is lowered by another
pub lowered : (all left gone size lost : ℕ) → left + gone ≡ all → size ≡ all % 2 ^ 64 → lost ≡ gone % 2 ^ 64 → (size + (2 ^ 64 - lost)) % 2 ^ 64 ≡ left % 2 ^ 64
lowered all left gone size lost sum size_is lost_is = omega arith

-- one more pair, last
pub size_pushed : (xs new : List (List ℕ × List ℕ)) (pair : List ℕ × List ℕ) (size gained : ℕ) → new ≡ xs ++ pair ∷ []
    → size ≡ pairs_size xs % 2 ^ 64 → gained ≡ pair_size pair % 2 ^ 64 → (size + gained) % 2 ^ 64 ≡ pairs_size new % 2 ^ 64
size_pushed xs new pair size gained is size_is gained_is = omega (arith, ap pairs_size is, sum_by_push pair_size xs pair, size_is, gained_is)

-- the pair at a place is gone
pub size_removed : (xs new : List (List ℕ × List ℕ)) (i : ℕ) (pair : List ℕ × List ℕ) (size lost : ℕ) → new ≡ remove xs i → slice_get xs i ≡ Some pair
    → size ≡ pairs_size xs % 2 ^ 64 → lost ≡ pair_size pair % 2 ^ 64 → (size + (2 ^ 64 - lost)) % 2 ^ 64 ≡ pairs_size new % 2 ^ 64
size_removed xs new i pair size lost is at size_is lost_is =
    let sum = sum_by-remove pair_size xs i pair (slice_get_within xs i pair at) in
    let same = ap pair_size (get_or_from_slice_get xs i pair pair at) in
    lowered (pairs_size xs) (pairs_size (remove xs i)) (pair_size pair) size lost (omega (arith, sum, same)) size_is lost_is
    ∙ ap (λ ys. pairs_size ys % 2 ^ 64) (sym is)

-- the first n pairs are gone
pub size_dropped : (xs new : List (List ℕ × List ℕ)) (n size lost : ℕ) → new ≡ drop n xs → size ≡ pairs_size xs % 2 ^ 64
    → lost ≡ pairs_size (take n xs) % 2 ^ 64 → (size + (2 ^ 64 - lost)) % 2 ^ 64 ≡ pairs_size new % 2 ^ 64
size_dropped xs new n size lost is size_is lost_is =
    lowered (pairs_size xs) (pairs_size (drop n xs)) (pairs_size (take n xs)) size lost (omega (arith, sum_by-take-drop pair_size xs n)) size_is lost_is
    ∙ ap (λ ys. pairs_size ys % 2 ^ 64) (sym is)

-- one more of the first pairs is counted
pub size_counted : (xs : List (List ℕ × List ℕ)) (i : ℕ) (pair : List ℕ × List ℕ) (size gained : ℕ) → slice_get xs i ≡ Some pair
    → size ≡ pairs_size (take i xs) % 2 ^ 64 → gained ≡ pair_size pair % 2 ^ 64 → (size + gained) % 2 ^ 64 ≡ pairs_size (take (i + 1) xs) % 2 ^ 64
size_counted xs i pair size gained at size_is gained_is =
    let same = ap pair_size (get_or_from_slice_get xs i pair pair at) in
    let next = sum_by-drop_more pair_size xs i pair (slice_get_within xs i pair at) in
    omega (arith, same, next, sum_by-take-drop pair_size xs i, sum_by-take-drop pair_size xs (i + 1), size_is, gained_is)

-- the pair at a place has another value
replaced : (xs : List (List ℕ × List ℕ)) (i : ℕ) (value old : List ℕ) → option_map (λ pair. pair.1) (slice_get xs i) ≡ Some old
    → pairs_size (with_value_at xs i value) + length old ≡ pairs_size xs + length value
replaced [] i value old at = absurd (false≢true (ap is_some at))
replaced (pair ∷ xs) zero value old at =
    let same : length pair.1 ≡ length old = ap length (ap (λ o. unwrap_or o old) at) in
    omega (arith, same, sum_by-cons pair_size pair xs, sum_by-cons pair_size (pair.0, value) xs)
replaced (pair ∷ xs) (suc i) value old at =
    let others = replaced xs i value old at in
    omega (arith, others, sum_by-cons pair_size pair xs, sum_by-cons pair_size pair (with_value_at xs i value))

pub size_replaced : (xs new : List (List ℕ × List ℕ)) (i : ℕ) (value old : List ℕ) (size gained lost : ℕ) → new ≡ with_value_at xs i value
    → option_map (λ pair. pair.1) (slice_get xs i) ≡ Some old → size ≡ pairs_size xs % 2 ^ 64 → gained ≡ length value → lost ≡ length old → lost < 2 ^ 64
    → ((size + gained) % 2 ^ 64 + (2 ^ 64 - lost)) % 2 ^ 64 ≡ pairs_size new % 2 ^ 64
size_replaced xs new i value old size gained lost is at size_is gained_is lost_is fits =
    omega (arith, ap pairs_size is, replaced xs i value old at, size_is, gained_is, lost_is, fits)
