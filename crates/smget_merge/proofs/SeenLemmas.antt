-- What a test has seen of its trees.
use Rattle.std.proofs.Common.{◌≡◌, ℕ, zero, suc, ◌+◌, ◌-◌, ◌^◌, ◌≤◌, false, List, [], ◌∷◌, length, None, refl, ap, sym, ◌∙◌, inl, inr, arith}
use Rattle.std.specs.List.{filter}
use Rattle.std.proofs.lemmas.Bool.{cases_lt}
use Rattle.std.proofs.lemmas.Grind.{pow_more}
use Rattle.arc_core.specs.TreeReading.{is_selected}
use Rattle.smget_merge.specs.MergedRows.{TreeRow}
use Rattle.smget_merge.specs.Merges.{HandsOut, Merging}

power_high : (k : ℕ) → 256 ≤ 16 ^ (k + 2)
power_high zero = omega arith
power_high (suc k) = let up : suc k + 2 ≡ k + 2 + 1 = omega arith in omega (arith, ap (λ n. 16 ^ n) up, pow_more 16 (k + 2), power_high k)

-- a tree of 100 elements is two levels high at most
pub hundred_low : (h : ℕ) → (2 ≤ h → 16 ^ (h - 1) ≤ 100) → h ≤ 2
hundred_low h may = elim (cases_lt 2 h) [
  | inl high ↦ let more = power_high (h - 3) in let up : h - 3 + 2 ≡ h - 1 = omega arith in let same = ap (λ k. 16 ^ k) up in absurd (omega (arith, more, same, may (omega arith)))
  | inr low ↦ low
]

all_selected : (rows : List TreeRow) → filter (λ row. is_selected None row.element) rows ≡ rows
all_selected [] = refl
all_selected (row ∷ rows) = ap (λ list. row ∷ list) (all_selected rows)

-- without a filter and with rows of one bkey, the first row that is left is handed out
pub one_less : (old new : Merging) (row : TreeRow) → HandsOut None false old row new → length old.left ≡ length new.left + 1
one_less old new row is =
    let rows = sym (all_selected old.left) ∙ (is.first ∙ ap (λ list. row ∷ list) (all_selected new.left)) in
    ap length rows ∙ omega arith
