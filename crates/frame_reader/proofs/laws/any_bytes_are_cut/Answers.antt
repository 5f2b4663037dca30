use Rattle.frame_reader.proofs.Existence.{cut_of_any}
use Rattle.frame_reader.proofs.laws.any_bytes_are_cut.Goals as goal

pub returns : goal.returns
returns c = cut_of_any
