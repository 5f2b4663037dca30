-- When two cuts of the same bytes agree.
use Rattle.std.specs.Prelude.{◌≡◌, ◌≢◌, ◌⊎◌, ℕ, List, ◌++◌}
use Rattle.std.specs.List.{AllZip}
use Rattle.arc_core.specs.declared.outside.Need.{Need}
use Rattle.arc_core.specs.Framing.{Whole, BeginsWith}
use Rattle.arc_core.specs.Framing as whole

-- The first unit may stand in place of the second for want of memory: it has the same line.
abbrev pub StandsInFor : Whole → Whole → Type 0
StandsInFor (whole.block_no_memory text) (whole.line_with_block text' block) = text ≡ text'
StandsInFor (whole.block_no_memory text) (whole.bad_chunk text') = text ≡ text'
StandsInFor unit other = ⊥

-- The two units are one, but for want of memory.
abbrev pub Agree : Whole → Whole → Type 0
Agree unit other = (unit ≡ other) ⊎ (StandsInFor unit other ⊎ StandsInFor other unit)

-- The unit is not one for whose block there was no memory.
abbrev pub HasMemory : Whole → Type 0
HasMemory unit = (text : List ℕ) → unit ≢ whole.block_no_memory text

-- The units before this tail agree one by one with the first ones of the others, and the tail begins with those that follow, up to the rest.
pub record GoesOnTo (needs : List ℕ → Need) (units : List Whole) (tail : List ℕ) (others : List Whole) (rest : List ℕ) : Type 0 where
  pub same : List Whole
  pub more : List Whole
  pub is : others ≡ same ++ more
  pub agree : AllZip Agree units same
  pub follows : BeginsWith needs tail more rest
