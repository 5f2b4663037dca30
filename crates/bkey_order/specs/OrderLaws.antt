-- The order of bkeys, said without how it is computed. With its being total these laws determine it.
use Rattle.std.specs.Prelude.{◌≡◌, ℕ, ◌<◌, List, [], ◌∷◌, ◌++◌, refl}
use Rattle.std.proofs.Common.{ap, ◌∙◌}
use Rattle.std.specs.Ordering.{nat_cmp, ordering_then}
use Rattle.std.specs.declared.cmp.Ordering.TheVariants.{Less}
use Rattle.std.specs.Cmp.Lexicographic.{slice_cmp}
use Rattle.std.proofs.lemmas.Cmp.{nat_cmp_total, tied_itself}
use Rattle.std.proofs.lemmas.Bool.{lt-ltb}
use Rattle.arc_core.specs.declared.bkeys.Bkey.TheVariants.{Number, Bytes}
use Rattle.arc_core.specs.BkeyOrder.{bkey_cmp}

-- every number is below every byte bkey
pub number-below_bytes : (n : ℕ) (bytes : List ℕ) → bkey_cmp (Number n) (Bytes bytes) ≡ Less
number-below_bytes n bytes = refl

-- numbers are ordered by value
pub number-by_value : (a b : ℕ) → a < b → bkey_cmp (Number a) (Number b) ≡ Less
number-by_value a b h = rw (lt-ltb a b h)

same_front : (front xs ys : List ℕ) → slice_cmp nat_cmp (front ++ xs) (front ++ ys) ≡ slice_cmp nat_cmp xs ys
same_front [] xs ys = refl
same_front (a ∷ front) xs ys = rw (tied_itself nat_cmp_total a) (same_front front xs ys)

-- a proper prefix is below
pub bytes-prefix_below : (front : List ℕ) (b : ℕ) (more : List ℕ) → bkey_cmp (Bytes front) (Bytes (front ++ b ∷ more)) ≡ Less
bytes-prefix_below [] b more = refl
bytes-prefix_below (a ∷ front) b more = rw (tied_itself nat_cmp_total a) (bytes-prefix_below front b more)

-- the first byte in which two byte bkeys differ decides
pub bytes-by_first_difference : (front : List ℕ) (a b : ℕ) (xs ys : List ℕ) → a < b
    → bkey_cmp (Bytes (front ++ a ∷ xs)) (Bytes (front ++ b ∷ ys)) ≡ Less
bytes-by_first_difference front a b xs ys h = same_front front (a ∷ xs) (b ∷ ys) ∙ ap (λ o. ordering_then o (slice_cmp nat_cmp xs ys)) (number-by_value a b h)
