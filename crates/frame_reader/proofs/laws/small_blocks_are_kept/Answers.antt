use Rattle.frame_reader.proofs.Beginnings.{refused_is_large}
use Rattle.frame_reader.proofs.laws.small_blocks_are_kept.Goals as goal

pub returns : goal.returns
returns c = refused_is_large
