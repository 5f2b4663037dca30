use Rattle.frame_reader.proofs.FrontUnits.{with_block}
use Rattle.frame_reader.proofs.fronts.fronts_are_units.Goals as goal

pub returns-clause-block : goal.returns-clause-block
returns-clause-block c = with_block
