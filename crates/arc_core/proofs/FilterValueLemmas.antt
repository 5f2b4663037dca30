-- Filter values between commas.
use Rattle.std.proofs.Common.{◌≡◌, ℕ, ◌+◌, ◌-◌, ◌<◌, ◌≤◌, Bool, true, List, [], ◌∷◌, length, take, drop, arith, Option, Some, None, length-drop}
use Rattle.std.specs.List.{position, position_or_len}
use Rattle.std.specs.Iterator.{YieldsFirstRef}
use Rattle.std.specs.Option.{is_some}
use Rattle.std.specs.Borrow.{Bor}
use Rattle.std.proofs.lemmas.Grind.{common_steps}
use Rattle.std.proofs.lemmas.List.{take_all}
use Rattle.std.proofs.lemmas.List.Elements.{All-nil, All-tail}
use Rattle.std.proofs.lemmas.List.Sums.{fails_before_first}
use Rattle.std.proofs.lemmas.List.Splits.{slice_split_first, slice_split_none}
use Rattle.arc_core.specs.HexText.{comma_parts, is_comma, eflag_word, AreFlags}

first_place : (p : ℕ → Bool) (xs : List ℕ) (i : ℕ) → position p xs ≡ Some i → (position_or_len p xs ≡ i) × (i < length xs)
first_place p xs i h = grind (arith, common_steps)

no_place : (p : ℕ → Bool) (xs : List ℕ) → position p xs ≡ None → length xs ≤ position_or_len p xs
no_place p xs h = grind (arith, common_steps)

-- a text with a comma: what stands before the first, and the parts behind it
pub comma_parts-some : (xs : List ℕ) (i : ℕ) → position is_comma xs ≡ Some i
    → comma_parts xs ≡ take i xs ∷ comma_parts (take (length xs - (i + 1)) (drop (i + 1) xs))
comma_parts-some xs i h =
    let place = first_place is_comma xs i h in
    let whole : take (length xs - (i + 1)) (drop (i + 1) xs) ≡ drop (i + 1) xs = take_all _ (drop (i + 1) xs) (omega (arith, length-drop (i + 1) xs)) in
    let before : position_or_len is_comma xs < length xs = omega (arith, place.0, place.1) in
    rw whole (rw place.0 at (slice_split_first is_comma xs 0 before))

-- a text without a comma is one part
pub comma_parts-none : (xs : List ℕ) → position is_comma xs ≡ None → comma_parts xs ≡ xs ∷ []
comma_parts-none xs h =
    let all = no_place is_comma xs h in
    slice_split_none is_comma xs (λ k d l. fails_before_first is_comma xs k d (omega (arith, all, l)))

-- the words behind a flag are flags, where all were
pub AreFlags-left : (old new : List (List ℕ)) (first : Option (Bor (List ℕ))) → YieldsFirstRef (λ left. left) old first new → AreFlags old → AreFlags new
AreFlags-left old new None h flags = rw h.1 (All-nil (λ part. is_some (eflag_word part) ≡ true))
AreFlags-left old new (Some part) h flags = All-tail (λ part. is_some (eflag_word part) ≡ true) part.now new (rw h at flags)
