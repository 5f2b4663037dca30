use Rattle.frame_reader.proofs.Beginnings.{either_goes_on}
use Rattle.frame_reader.proofs.laws.beginnings_agree.Goals as goal

pub returns : goal.returns
returns c = either_goes_on
