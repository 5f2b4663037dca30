-- Units that borrow their bytes, as plain data.
use Rattle.std.specs.Prelude.{Option, Some, None}
use Rattle.arc_core.specs.Framing.{Whole}
use Rattle.arc_core.specs.Framing as whole
use Rattle.frame_reader.specs.declared.units.Unit.{Unit as UnitOfBytes}
use Rattle.frame_reader.specs.declared.units.Unit.TheVariants as unit

-- The unit as plain data, and none where it is still to be waited for.
abbrev pub whole_of : UnitOfBytes → Option Whole
whole_of unit.Wait = None
whole_of (unit.Line line) = Some (whole.line line.now)
whole_of (unit.LineWithBlock line block) = Some (whole.line_with_block line.now block.now)
whole_of (unit.BadChunk line) = Some (whole.bad_chunk line.now)
whole_of (unit.TooLarge line) = Some (whole.too_large line.now)
whole_of (unit.BlockNoMemory line) = Some (whole.block_no_memory line.now)
whole_of unit.LineTooLong = Some whole.line_too_long
