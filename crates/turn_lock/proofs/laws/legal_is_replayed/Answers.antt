use Rattle.turn_lock.proofs.Histories.{replayed}
use Rattle.turn_lock.proofs.laws.legal_is_replayed.Goals as goal

pub returns : goal.returns
returns c = replayed
