use Rattle.frame_reader.proofs.Joining.{BeginsWith-join}
use Rattle.frame_reader.proofs.laws.units_follow.Goals as goal

pub returns : goal.returns
returns c = BeginsWith-join
