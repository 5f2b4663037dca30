use Rattle.frame_reader.proofs.Steps.{span_of}
use Rattle.frame_reader.proofs.laws.reader_stands_for_a_unit.Goals as goal

pub returns : goal.returns
returns c = span_of
