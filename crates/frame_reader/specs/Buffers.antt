-- What the fields of a reader stand for.
use Rattle.std.specs.Prelude.{◌≡◌, ℕ, ◌+◌, ◌^◌, ◌<◌, ◌≤◌, nat_le, nat_lt, if◌then◌else◌, List}
use Rattle.arc_core.specs.declared.outside.Need.{Need}
use Rattle.arc_core.specs.declared.outside.Need.TheVariants as need
use Rattle.arc_core.specs.Framing.{Whole, without_cr}
use Rattle.arc_core.specs.Framing as whole
use Rattle.frame_reader.specs.Progress.{Progress, in_line, in_block, passing_over, ready}
use Rattle.frame_reader.specs.declared.phases.Chunk.{Chunk}
use Rattle.frame_reader.specs.declared.phases.Chunk.TheVariants as chunk
use Rattle.frame_reader.specs.declared.phases.Kind.{Kind}
use Rattle.frame_reader.specs.declared.phases.Kind.TheVariants as kind
use Rattle.frame_reader.specs.declared.phases.Phase.{Phase}
use Rattle.frame_reader.specs.declared.phases.Phase.TheVariants as phase

-- The unit of this kind, by the line's body, the block and the large block that are kept.
abbrev pub unit_of : List ℕ → List ℕ → List ℕ → Kind → Whole
unit_of body block large kind.Line = whole.line (without_cr body)
unit_of body block large kind.LineWithBlock = whole.line_with_block (without_cr body) block
unit_of body block large kind.LineWithLargeBlock = whole.line_with_block (without_cr body) large
unit_of body block large kind.BadChunk = whole.bad_chunk (without_cr body)
unit_of body block large kind.TooLarge = whole.too_large (without_cr body)
unit_of body block large kind.BlockNoMemory = whole.block_no_memory (without_cr body)
unit_of body block large kind.LineTooLong = whole.line_too_long

-- How far a reader is in this phase, by the bytes that are kept of the line, of the block and of the large block.
abbrev pub progress_of : List ℕ → List ℕ → List ℕ → Phase → Progress
progress_of line block large phase.InLine = in_line line
progress_of line block large (phase.InBlock len) = in_block line len block
progress_of line block large (phase.InLargeBlock len) = in_block line len large
progress_of line block large (phase.PassingOver passed left kind) = passing_over line passed left (unit_of line block large kind)
progress_of line block large (phase.Ready kind) = ready (unit_of line block large kind)

-- How far a reader is behind a line with this body, in a block of so many bytes, by those that are kept.
abbrev pub progress_in : List ℕ → ℕ → List ℕ → Chunk → Progress
progress_in body len kept chunk.Unfinished = in_block body len kept
progress_in body len kept chunk.Whole = ready (whole.line_with_block (without_cr body) kept)
progress_in body len kept chunk.Bad = ready (whole.bad_chunk (without_cr body))

-- The room that so many bytes of line, block and large block leave in this phase, where a large block has so much memory.
abbrev pub LeavesRoom : ℕ → ℕ → ℕ → ℕ → Phase → Type 0
LeavesRoom line block large memory phase.InLine = (line < 65536) × (block ≡ 0) × (large ≡ 0) × (memory ≡ 0)
LeavesRoom line block large memory (phase.InBlock len) = (line < 65536) × (block < len + 2) × (len + 2 ≤ 131072)
LeavesRoom line block large memory (phase.InLargeBlock len) = (line < 65536) × (large < len + 2) × (len + 2 ≤ memory) × (len + 2 < 2 ^ 33)
LeavesRoom line block large memory (phase.PassingOver passed left kind) = (line < 65536) × (0 < left) × (passed + left < 2 ^ 33)
LeavesRoom line block large memory (phase.Ready kind) = Unit {0}

-- The most memory that is taken behind a line that has this need: that of a large block within its limit and of its CR LF.
abbrev pub memory_for : Need → ℕ
memory_for need.Nothing = 0
memory_for (need.Block len limit) = if nat_lt limit len then 0 else (if nat_le (len + 2) 131072 then 0 else len + 2)

-- In this phase a block of so many bytes is kept.
abbrev pub Keeps : ℕ → Phase → Type 0
Keeps len (phase.InBlock len') = len' ≡ len
Keeps len (phase.InLargeBlock len') = len' ≡ len
Keeps len other = ⊥
