use Rattle.arc_core.proofs.KeyByteTable.{key_byte}
use Rattle.arc_core.proofs.keys.is_allowed.Goals as goal

pub returns : goal.returns
returns c = key_byte c.args.byte c.ranges.byte.fits
