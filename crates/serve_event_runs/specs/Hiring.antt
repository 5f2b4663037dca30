-- How event workers are hired, for the functions within: no public clause cites what stands here.
use Rattle.std.specs.Prelude.{List, map}
use Rattle.serve_runs.specs.declared.serve.ServeEnd.{ServeEnd}
use Rattle.serve_runs.specs.Serving.{HandsThrough, Refuses}
use Rattle.worker_ports.specs.Hands.{PortsState}
use Rattle.worker_server.specs.Ports.{PortState}
use Rattle.worker_team.specs.Team.{Hired}

-- The pollers of these workers were handed out, and then something was refused, so that no worker runs.
pub record HasBeenRefused {L P C : Type 0} (tell : P → PortState L) (ended : ServeEnd) (before after : PortsState P) (team : List (Hired P C)) : Type 0 where
  pub handed_out : PortsState P
  pub handed : HandsThrough tell before (map (λ w. w.port) team) handed_out
  pub refused : Refuses ended handed_out after
