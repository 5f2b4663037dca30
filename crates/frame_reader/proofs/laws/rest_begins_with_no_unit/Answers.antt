use Rattle.frame_reader.proofs.Cutting.{rest_begins_with_none}
use Rattle.frame_reader.proofs.laws.rest_begins_with_no_unit.Goals as goal

pub returns : goal.returns
returns c = rest_begins_with_none
