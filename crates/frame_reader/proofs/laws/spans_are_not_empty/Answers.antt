use Rattle.frame_reader.proofs.Cutting.{span_length}
use Rattle.frame_reader.proofs.laws.spans_are_not_empty.Goals as goal

pub returns : goal.returns
returns c = span_length
