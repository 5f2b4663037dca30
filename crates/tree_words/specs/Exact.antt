-- What it is for a row to be read exactly from the left.
use Rattle.std.specs.Prelude.{◌≡◌, ◌↔◌, ℕ, List, Some}
use Rattle.arc_core.specs.Rows.{Row, Spells, row_read}

-- What is read of words, from the left, is what the row spells by them, and nothing is read of words by which it spells nothing.
abbrev pub ReadsWhatItSpells : {A : Type 0} → Row A → Type 0
ReadsWhatItSpells {A = A} row = (list : List (List ℕ)) (a : A) → Spells row list a ↔ (row_read row list ≡ Some a)
