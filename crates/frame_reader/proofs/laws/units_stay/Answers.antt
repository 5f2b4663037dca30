use Rattle.frame_reader.proofs.Joining.{BeginsWith-more}
use Rattle.frame_reader.proofs.laws.units_stay.Goals as goal

pub returns : goal.returns
returns c = BeginsWith-more
