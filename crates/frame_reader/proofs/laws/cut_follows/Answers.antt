use Rattle.frame_reader.proofs.Joining.{Cuts-join}
use Rattle.frame_reader.proofs.laws.cut_follows.Goals as goal

pub returns : goal.returns
returns c = Cuts-join
