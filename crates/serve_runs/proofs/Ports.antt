-- Workers that block, as workers of any kind.
use Rattle.std.proofs.Common.{ℕ, List, length, Option}
use Rattle.arc_core.specs.Outside.{Linked}
use Rattle.worker_server.specs.Ports.{PortState}
use Rattle.worker_team.specs.Team.{HasServedPort}
use Rattle.serve_runs.proofs.Accounts.{EndsRightly}

pub port_ends : {L P C : Type 0} (look : L → Linked) (tell : P → PortState L) (coming : C → Option (List ℕ)) → EndsRightly (HasServedPort {C = C} look tell coming) tell
port_ends look tell coming worker before member after served = (length served.ran.services, served.ran.ends)
