use Rattle.turn_lock.proofs.Trials.{spelled}
use Rattle.turn_lock.proofs.tests.ask.Goals as goal

pub execute-requires-clause-request : goal.execute-requires-clause-request
execute-requires-clause-request g c = spelled
