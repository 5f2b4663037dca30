use Rattle.frame_reader.proofs.Beginnings.{agreeing_are_equal}
use Rattle.frame_reader.proofs.laws.units_differ_by_memory.Goals as goal

pub returns : goal.returns
returns c = agreeing_are_equal
