use Rattle.frame_reader.proofs.Cutting as cutting
use Rattle.frame_reader.proofs.laws.cuts_agree.Goals as goal

pub returns : goal.returns
returns c = cutting.cuts_agree
