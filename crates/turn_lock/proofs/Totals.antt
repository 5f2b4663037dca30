-- Sums over all views, where one or two views change; and how often a number stands in a list.
use Rattle.std.proofs.Common.{◌≡◌, ◌≢◌, ℕ, zero, suc, ◌+◌, ◌<◌, ◌≤◌, List, [], ◌∷◌, ◌++◌, set, sym, refl, ap, arith}
use Rattle.std.proofs.lemmas.Bool.Decides.{nat_tests}
use mathlib.Core.Option.{some, some-injective, some-ne-none}
use lib.ListN.{get_elem?}
use Rattle.turn_lock.specs.View.{View, times, total}
use Rattle.turn_lock.specs.Rule.{once_within}

-- one view changes
pub total_set : (f : View → ℕ) (views : List View) (id : ℕ) (v w : View) → get_elem? views id ≡ some v → total f (set views id w) + f v ≡ total f views + f w
total_set f [] id v w at = absurd (some-ne-none v (sym at))
total_set f (x ∷ xs) zero v w at = let e = ap f (some-injective x v at) in omega arith
total_set f (x ∷ xs) (suc id) v w at = let e = total_set f xs id v w at in omega arith

-- one view changes, and counts as before
pub total_same : (f : View → ℕ) (views : List View) (id : ℕ) (v w : View) → get_elem? views id ≡ some v → f w ≡ f v → total f (set views id w) ≡ total f views
total_same f views id v w at same = let e = total_set f views id v w at in omega arith

-- one view comes
pub total_snoc : (f : View → ℕ) (views : List View) (w : View) → total f (views ++ w ∷ []) ≡ total f views + f w
total_snoc f [] w = omega arith
total_snoc f (x ∷ xs) w = let e = total_snoc f xs w in omega arith

pub total_le : (f g : View → ℕ) (views : List View) → ((id : ℕ) (v : View) → get_elem? views id ≡ some v → f v ≤ g v) → total f views ≤ total g views
total_le f g [] le = omega arith
total_le f g (x ∷ xs) le = let e = total_le f g xs (λ id. le (suc id)) in let h = le 0 x refl in omega arith

-- the one view makes the difference
pub total_below : (f g : View → ℕ) (views : List View) (id : ℕ) (v : View) (d : ℕ) → get_elem? views id ≡ some v → f v + d ≤ g v → ((j : ℕ) (w : View) → get_elem? views j ≡ some w → f w ≤ g w) → total f views + d ≤ total g views
total_below f g [] id v d at here le = absurd (some-ne-none v (sym at))
total_below f g (x ∷ xs) zero v d at here le =
    let e = total_le f g xs (λ j. le (suc j)) in let a = ap f (some-injective x v at) in let b = ap g (some-injective x v at) in omega arith
total_below f g (x ∷ xs) (suc id) v d at here le = let e = total_below f g xs id v d at here (λ j. le (suc j)) in let h = le 0 x refl in omega arith

-- a view counts
pub total_at : (f : View → ℕ) (views : List View) (id : ℕ) (v : View) → get_elem? views id ≡ some v → f v ≤ total f views
total_at f [] id v at = absurd (some-ne-none v (sym at))
total_at f (x ∷ xs) zero v at = let a = ap f (some-injective x v at) in omega arith
total_at f (x ∷ xs) (suc id) v at = let e = total_at f xs id v at in omega arith

-- two views count
pub total_two : (f : View → ℕ) (views : List View) (i j : ℕ) (v w : View) → get_elem? views i ≡ some v → get_elem? views j ≡ some w → j ≢ i → f v + f w ≤ total f views
total_two f [] i j v w at there apart = absurd (some-ne-none v (sym at))
total_two f (x ∷ xs) zero zero v w at there apart = absurd (apart refl)
total_two f (x ∷ xs) zero (suc j) v w at there apart = let a = ap f (some-injective x v at) in let e = total_at f xs j w there in omega arith
total_two f (x ∷ xs) (suc i) zero v w at there apart = let a = ap f (some-injective x w there) in let e = total_at f xs i v at in omega arith
total_two f (x ∷ xs) (suc i) (suc j) v w at there apart = let e = total_two f xs i j v w at there (λ s. apart (ap suc s)) in omega arith

pub times-append : (n : ℕ) (xs ys : List ℕ) → times n (xs ++ ys) ≡ times n xs + times n ys
times-append n [] ys = omega arith
times-append n (x ∷ xs) ys = let e = times-append n xs ys in omega arith

-- a number by itself
pub times_yes : (n x : ℕ) → x ≡ n → times n (x ∷ []) ≡ 1
times_yes n x e = grind (arith, nat_tests)

pub times_no : (n x : ℕ) → x ≢ n → times n (x ∷ []) ≡ 0
times_no n x e = grind (arith, nat_tests)

pub within_yes : (low high n : ℕ) → low ≤ n → n < high → once_within low high n ≡ 1
within_yes low high n a b = grind (arith, nat_tests)

pub within_below : (low high n : ℕ) → n < low → once_within low high n ≡ 0
within_below low high n a = grind (arith, nat_tests)

pub within_above : (low high n : ℕ) → high ≤ n → once_within low high n ≡ 0
within_above low high n a = grind (arith, nat_tests)
