use Rattle.worker_server.proofs.Apart.{are_apart}
use Rattle.worker_server.proofs.laws.sessions_are_apart.Goals as goal

pub returns : goal.returns
returns g c = are_apart _
