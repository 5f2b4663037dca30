-- How far a reader is with its unit, and which bytes it has taken of it.
use Rattle.std.specs.Prelude.{◌≡◌, ℕ, ◌+◌, ◌<◌, ◌≤◌, List, ◌∷◌, ◌++◌, length, Option, Some, None}
use Rattle.arc_core.specs.declared.outside.Need.{Need}
use Rattle.arc_core.specs.declared.outside.Need.TheVariants as need
use Rattle.arc_core.specs.Framing.{Whole, HasNoLf, without_cr, IsSpan}
use Rattle.arc_core.specs.Framing as whole

-- How far a reader is with its unit.
pub data Progress : Type 0 where
  -- in its line, of which these bytes have come
  in_line : List ℕ → Progress
  -- behind a line with this body, in its block of so many bytes, of which these have come
  in_block : List ℕ → ℕ → List ℕ → Progress
  -- behind a line with this body, in a block that is not kept: so many of its bytes have come, so many are still to come, and then it is this unit
  passing_over : List ℕ → ℕ → ℕ → Whole → Progress
  -- the unit is whole
  ready : Whole → Progress

-- The unit that is ready, where one is.
abbrev pub ready_unit : Progress → Option Whole
ready_unit (in_line part) = None
ready_unit (in_block body len part) = None
ready_unit (passing_over body passed left unit) = None
ready_unit (ready unit) = Some unit

-- The bytes are the front of a line.
pub record IsLinePart (bytes : List ℕ) : Type 0 where
  pub no_lf : HasNoLf bytes
  pub fits : length bytes < 65536

-- The bytes are a line with this body, which asks for a block of so many bytes with this limit, and then these bytes.
pub record IsBodyThen (needs : List ℕ → Need) (bytes body : List ℕ) (len limit : ℕ) (after : List ℕ) : Type 0 where
  pub whole : bytes ≡ body ++ 10 ∷ after
  pub is_body : IsLinePart body
  pub asks : needs (without_cr body) ≡ need.Block len limit

-- Why a block of so many bytes with this limit is not kept, by the unit that it is with its line.
abbrev pub IsPassedOver : List ℕ → ℕ → ℕ → Whole → Type 0
IsPassedOver text len limit (whole.too_large text') = (text' ≡ text) × (limit < len)
IsPassedOver text len limit (whole.block_no_memory text') = (text' ≡ text) × (len ≤ limit) × (131072 < len + 2)
IsPassedOver text len limit unit = ⊥

-- The bytes are a line with this body and a part of the block that it asks for, which is kept.
pub record IsInBlock (needs : List ℕ → Need) (bytes body : List ℕ) (len : ℕ) (part : List ℕ) : Type 0 where
  pub limit : ℕ
  pub behind : IsBodyThen needs bytes body len limit part
  pub within : len ≤ limit
  pub short : length part < len + 2

-- The bytes are a line with this body and a part of the block that it asks for, which is not kept.
pub record IsInPassedBlock (needs : List ℕ → Need) (bytes body : List ℕ) (passed left : ℕ) (unit : Whole) : Type 0 where
  pub len : ℕ
  pub limit : ℕ
  pub part : List ℕ
  pub behind : IsBodyThen needs bytes body len limit part
  pub passed_is : length part ≡ passed
  pub left_is : passed + left ≡ len + 2
  pub short : 0 < left
  pub cause : IsPassedOver (without_cr body) len limit unit

-- A reader that is so far with its unit has taken these bytes of it.
abbrev pub StandsFor : (List ℕ → Need) → Progress → List ℕ → Type 0
StandsFor needs (in_line part) bytes = (bytes ≡ part) × IsLinePart part
StandsFor needs (in_block body len part) bytes = IsInBlock needs bytes body len part
StandsFor needs (passing_over body passed left unit) bytes = IsInPassedBlock needs bytes body passed left unit
StandsFor needs (ready unit) bytes = IsSpan needs bytes unit
