-- Worked examples of merged reads that compute.
use Rattle.std.specs.Prelude.{◌≡◌, ℕ, true, false, List, [], ◌∷◌, codes, None, Some, refl}
use Rattle.arc_core.specs.declared.bkeys.Bkey.TheVariants.{Number}
use Rattle.arc_core.specs.declared.bkeys.BkeyRange.{BkeyRange}
use Rattle.arc_core.specs.declared.filters.CompOp.TheVariants as comp
use Rattle.arc_core.specs.declared.filters.Filter.{Filter}
use Rattle.arc_core.specs.declared.trees.Elem.{Elem}
use Rattle.smget_merge.specs.MergedRows.{TreeRow, merged, wanted}

-- an element with a number as bkey, no flag and a text as value
abbrev elem : ℕ → List ℕ → Elem
elem number value = record { bkey = Number number; eflag = None; value = value }

-- one with a flag of one byte
abbrev flagged : ℕ → ℕ → List ℕ → Elem
flagged number flag value = record { bkey = Number number; eflag = Some (flag ∷ []); value = value }

abbrev row : ℕ → Elem → TreeRow
row number element = record { number = number; element = element }

abbrev from_to : ℕ → ℕ → BkeyRange
from_to first last = record { first = Number first; last = Number last }

-- two trees that both hold 3, and one without elements
abbrev a_and_b : List (ℕ × List Elem)
a_and_b = (0, elem 1 (codes "a") ∷ elem 3 (codes "b") ∷ []) ∷ (1, elem 3 (codes "c") ∷ elem 5 (codes "d") ∷ []) ∷ (2, []) ∷ []

all_downwards : merged (from_to 5 1) None false a_and_b ≡ row 1 (elem 5 (codes "d")) ∷ row 0 (elem 3 (codes "b")) ∷ row 1 (elem 3 (codes "c")) ∷ row 0 (elem 1 (codes "a")) ∷ []
all_downwards = refl

unique_downwards : merged (from_to 5 1) None true a_and_b ≡ row 1 (elem 5 (codes "d")) ∷ row 0 (elem 3 (codes "b")) ∷ row 0 (elem 1 (codes "a")) ∷ []
unique_downwards = refl

all_upwards : merged (from_to 1 5) None false a_and_b ≡ row 0 (elem 1 (codes "a")) ∷ row 0 (elem 3 (codes "b")) ∷ row 1 (elem 3 (codes "c")) ∷ row 1 (elem 5 (codes "d")) ∷ []
all_upwards = refl

unique_upwards : merged (from_to 1 5) None true a_and_b ≡ row 0 (elem 1 (codes "a")) ∷ row 0 (elem 3 (codes "b")) ∷ row 1 (elem 5 (codes "d")) ∷ []
unique_upwards = refl

-- a range that meets the second tree alone, and one that meets none
second_alone : merged (from_to 9 4) None false a_and_b ≡ row 1 (elem 5 (codes "d")) ∷ []
second_alone = refl

nothing_met : merged (from_to 6 9) None true a_and_b ≡ []
nothing_met = refl

-- one tree that is read under two numbers
abbrev twice : List (ℕ × List Elem)
twice = (0, elem 1 (codes "a") ∷ elem 3 (codes "b") ∷ []) ∷ (1, elem 1 (codes "a") ∷ elem 3 (codes "b") ∷ []) ∷ []

twice_all : merged (from_to 3 1) None false twice ≡ row 0 (elem 3 (codes "b")) ∷ row 1 (elem 3 (codes "b")) ∷ row 0 (elem 1 (codes "a")) ∷ row 1 (elem 1 (codes "a")) ∷ []
twice_all = refl

twice_unique : merged (from_to 1 3) None true twice ≡ row 0 (elem 1 (codes "a")) ∷ row 0 (elem 3 (codes "b")) ∷ []
twice_unique = refl

-- the flag 1 is asked for: the first tree's element of bkey 3 does not pass, so that the second tree's row is the first of it
abbrev is_one : Filter
is_one = record { fwhere = 0; bits = None; comp = comp.Eq; values = (1 ∷ []) ∷ [] }

first_that_passes : merged (from_to 1 5) (Some is_one) true ((0, flagged 3 2 (codes "b") ∷ []) ∷ (1, flagged 3 1 (codes "c") ∷ []) ∷ (2, flagged 3 1 (codes "d") ∷ []) ∷ []) ≡ row 1 (flagged 3 1 (codes "c")) ∷ []
first_that_passes = refl

-- what is left behind a row of bkey 3 that was handed out
behind_three : wanted None true (Some (Number 3)) (row 1 (elem 3 (codes "c")) ∷ row 1 (elem 5 (codes "d")) ∷ []) ≡ row 1 (elem 5 (codes "d")) ∷ []
behind_three = refl
