-- What a test has seen of a tree.
use Rattle.std.proofs.Common.{◌≡◌, ℕ, ◌+◌, ◌-◌, ◌^◌, ◌<◌, ◌≤◌, arith, inl, inr, zero, suc, true, false, Bool, if◌then◌else◌, List, refl, ap, ◌∙◌, Some}
use Rattle.std.specs.List.{slice_get}
use Rattle.std.proofs.lemmas.Bool.{cases_lt}
use Rattle.std.proofs.lemmas.Grind.{pow_more}
use Rattle.std.proofs.lemmas.Option.{get_or_from_slice_get}
use Rattle.arc_core.specs.declared.bkeys.Bkey.{Bkey}
use Rattle.arc_core.specs.declared.bkeys.Bkey.TheVariants.{Number}
use Rattle.arc_core.specs.declared.trees.Elem.{Elem}
use Rattle.arc_core.specs.BkeyOrder.{are_of_one_kind}
use Rattle.arc_core.specs.TreeContents.{place_of}
use Rattle.btree_nodes.specs.Ways.{FitsKind, has_bkey}
use Rattle.btree_scan.specs.declared.positions.Position.TheVariants.{At, Before}
use Rattle.btree_scan.specs.Positions.{position_in}

absent_by : (b : Bool) (place n : ℕ) → Before place ≡ (if b then At n else Before n) → b ≡ false
absent_by true place n is = cc is
absent_by false place n is = refl

-- a bkey before which so many stand is not there
pub absent_before : (bkey : Bkey) (xs : List Elem) (place : ℕ) → Before place ≡ position_in bkey xs → has_bkey bkey xs ≡ false
absent_before bkey xs place is = absent_by (has_bkey bkey xs) place (place_of bkey xs) is

-- a number fits a tree whose first bkey is a number
pub number_fits : (bkey : Bkey) (xs : List Elem) (x : Elem) (m n : ℕ) → slice_get xs 0 ≡ Some x → x.bkey ≡ Number m → bkey ≡ Number n → FitsKind bkey xs
number_fits bkey xs x m n first x_is is d some =
    ap (λ (y : Elem). are_of_one_kind y.bkey bkey) (get_or_from_slice_get xs 0 x d first) ∙ (ap (λ b. are_of_one_kind b bkey) x_is ∙ ap (λ b. are_of_one_kind (Number m) b) is)

one_up : (k : ℕ) → suc k + 4 ≡ k + 4 + 1
one_up k = omega arith

power_high : (k : ℕ) → 65536 ≤ 16 ^ (k + 4)
power_high zero = omega arith
power_high (suc k) = omega (arith, ap (λ n. 16 ^ n) (one_up k), pow_more 16 (k + 4), power_high k)

high_is : (h : ℕ) → 4 < h → h - 5 + 4 ≡ h - 1
high_is h high = omega arith

-- a tree of 50,000 elements is four levels high at most
pub low_tree : (h : ℕ) → (2 ≤ h → 16 ^ (h - 1) ≤ 50000) → h ≤ 4
low_tree h may =
    elim (cases_lt 4 h) [
      | inl high ↦ let more = power_high (h - 5) in let same = ap (λ k. 16 ^ k) (high_is h high) in absurd (omega (arith, more, same, may (omega arith)))
      | inr low ↦ low
    ]

power_higher : (k : ℕ) → 4294967296 ≤ 16 ^ (k + 8)
power_higher zero = omega arith
power_higher (suc k) = let up : suc k + 8 ≡ k + 8 + 1 = omega arith in omega (arith, ap (λ n. 16 ^ n) up, pow_more 16 (k + 8), power_higher k)

-- a tree of fewer than 2^32 elements is eight levels high at most
pub tree_low : (count h : ℕ) → count < 4294967296 → (2 ≤ h → 16 ^ (h - 1) ≤ count) → h ≤ 8
tree_low count h fits may =
    elim (cases_lt 8 h) [
      | inl high ↦ let more = power_higher (h - 9) in let up : h - 9 + 8 ≡ h - 1 = omega arith in let same = ap (λ k. 16 ^ k) up in absurd (omega (arith, more, same, may (omega arith)))
      | inr low ↦ low
    ]
