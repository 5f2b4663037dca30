-- Behind which units a session handles no other, and where it stands between two of them.
use Rattle.std.specs.Prelude.{◌≡◌, ◌⊎◌, ℕ, List, [], ◌∷◌, ◌++◌, None}
use Rattle.std.specs.List.{AllByRecursion}
use Rattle.arc_core.specs.Framing.{Whole, line_too_long}
use Rattle.arc_core.specs.CollectionLines.{coll_line_needs}
use Rattle.pipe_session.specs.SessionText.{IsQuitUnit}
use Rattle.frame_reader.specs.Progress.{Progress, StandsFor, ready_unit}

-- The unit is a line that is too long.
abbrev pub IsTooLong : Whole → Type 0
IsTooLong unit = unit ≡ line_too_long

-- Behind the unit no other is handled: it is a line that is too long, or it is `quit`.
abbrev pub IsFinal : Whole → Type 0
IsFinal unit = IsTooLong unit ⊎ IsQuitUnit unit

-- None of the units is one behind which no other is handled.
abbrev pub NoneFinal : List Whole → Type 0
NoneFinal units = AllByRecursion (λ unit. IsFinal unit → ⊥) units

-- None of the units is one, but the last may be.
abbrev pub OnlyLastFinal : List Whole → Type 0
OnlyLastFinal [] = Unit {0}
OnlyLastFinal (unit ∷ []) = Unit {0}
OnlyLastFinal (unit ∷ next ∷ more) = (IsFinal unit → ⊥) × OnlyLastFinal (next ∷ more)

-- The last of the units is such a one.
pub record EndsWith (Last : Whole → Type 0) (units : List Whole) : Type 0 where
  pub front : List Whole
  pub unit : Whole
  pub parts : units ≡ front ++ unit ∷ []
  pub is_last : Last unit

-- No unit is ready; the reader stands for some bytes.
pub record IsBetweenUnits (progress : Progress) : Type 0 where
  pub waits : ready_unit progress ≡ None
  pub tail : List ℕ
  pub stands : StandsFor coll_line_needs progress tail

-- The reader has taken no byte.
pub record IsUnread (progress : Progress) : Type 0 where
  pub waits : ready_unit progress ≡ None
  pub stands : StandsFor coll_line_needs progress []
