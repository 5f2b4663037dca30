-- How workers are hired, for the functions within: no public clause cites what stands here.
use Rattle.std.specs.Prelude.{◌≡◌, ℕ, List, [], ◌∷◌, ◌++◌, length, map, Option}
use Rattle.std.specs.List.{AllByRecursion}
use Rattle.serve_runs.specs.Serving.{HandsThrough, IsHiredFor}
use Rattle.serve_runs.specs.declared.hiring.Stop.{Stop}
use Rattle.serve_runs.specs.declared.hiring.Stop.TheVariants as stop
use Rattle.worker_ports.specs.Hands.{PortsState, FailsOnce, RefusedOnce}
use Rattle.worker_server.specs.Ports.{PortState}
use Rattle.worker_team.specs.Team.{Hired}

-- A port was handed out for each of so many workers.
pub record HasHired {L P C : Type 0} (tell : P → PortState L) (coming : C → Option (List ℕ)) (workers sessions : ℕ) (seconds : Option (List ℕ)) (before after : PortsState P) (team : List (Hired P C)) : Type 0 where
  pub count : length team ≡ workers
  pub alike : AllByRecursion (IsHiredFor coming seconds sessions) team
  pub handed : HandsThrough tell before (map (λ w. w.port) team) after

-- The ports of these workers were handed out, and then no further worker was hired, for this reason.
abbrev pub HasStopped : {L P C : Type 0} → (tell : P → PortState L) → (before after : PortsState P) → List (Hired P C) → Stop P → Type 0
HasStopped {P = P} tell before after team stop.Failed = (middle : PortsState P) × HandsThrough tell before (map (λ w. w.port) team) middle × FailsOnce middle after
HasStopped {P = P} tell before after team stop.Refused = (middle : PortsState P) × HandsThrough tell before (map (λ w. w.port) team) middle × RefusedOnce middle after
HasStopped {P = P} tell before after team (stop.NoWorker port) = HandsThrough tell before (map (λ w. w.port) team ++ port ∷ []) after
