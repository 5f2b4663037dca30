-- How a run of a server ends, for the functions that it consists of.
use Rattle.std.specs.Prelude.{◌≡◌, ◌⊎◌, ℕ, true, false, List, [], ◌∷◌, ◌++◌, map}
use Rattle.arc_core.specs.CacheState.{CacheState}
use Rattle.arc_core.specs.Outside.{Outgoing, sent_more}
use Rattle.sink_writes.specs.Writing.{FailedIn, RefusedIn}
use Rattle.serve_runs.specs.Serving.{TakesThrough, total_served, sessions_line}
use Rattle.serve_runs.specs.Verdicts.{any_failed, any_refused}
use Rattle.serve_runs.specs.declared.hiring.Stop.{Stop}
use Rattle.serve_runs.specs.declared.hiring.Stop.TheVariants as stop
use Rattle.serve_runs.specs.declared.serve.ServeEnd.{ServeEnd}
use Rattle.serve_runs.specs.declared.serve.ServeEnd.TheVariants as serve_end
use Rattle.turn_lock.specs.Seats.{SeatView}
use Rattle.worker_ports.specs.Hands.{PortsState}
use Rattle.worker_server.specs.Ports.{PortState}
use Rattle.worker_team.specs.declared.team.Member.{Member}
use Rattle.worker_team.specs.Team.{Hired, TeamHasWorked}

-- What the writing of the number of sessions leaves, by how the run ends.
abbrev pub WritesTotal : (before : Outgoing) → ℕ → (after : Outgoing) → ServeEnd → Type 0
WritesTotal before total after serve_end.Done = after ≡ sent_more before (sessions_line total)
WritesTotal before total after serve_end.WriteFault = FailedIn before (sessions_line total) after
WritesTotal before total after serve_end.NoMemory = RefusedIn before (sessions_line total) after
WritesTotal before total after serve_end.PortFault = ⊥

-- The ports of workers that have not run were taken back, and that of a worker for which there was no memory, last.
abbrev pub EndsStopped : {L P : Type 0} → (tell : P → PortState L) → (before after : PortsState P) → List P → Stop P → ServeEnd → Type 0
EndsStopped tell before after ports stop.Failed ended = TakesThrough tell before ports after × (ended ≡ serve_end.PortFault)
EndsStopped tell before after ports stop.Refused ended = TakesThrough tell before ports after × (ended ≡ serve_end.NoMemory)
EndsStopped tell before after ports (stop.NoWorker port) ended = TakesThrough tell before (ports ++ port ∷ []) after × (ended ≡ serve_end.NoMemory)

-- How it ends when all workers have run, by how they ended.
abbrev pub EndsBehind : {P : Type 0} → List (Member P) → (before after : Outgoing) → ServeEnd → Type 0
EndsBehind members before after serve_end.PortFault = (any_failed members ≡ true) × (after ≡ before)
EndsBehind members before after serve_end.NoMemory =
    (any_failed members ≡ false)
    × (((any_refused members ≡ true) × (after ≡ before)) ⊎ ((any_refused members ≡ false) × RefusedIn before (sessions_line (total_served members)) after))
EndsBehind members before after serve_end.Done =
    (any_failed members ≡ false) × (any_refused members ≡ false) × (after ≡ sent_more before (sessions_line (total_served members)))
EndsBehind members before after serve_end.WriteFault =
    (any_failed members ≡ false) × (any_refused members ≡ false) × FailedIn before (sessions_line (total_served members)) after

-- The workers have run, and their ports were taken back.
pub record EndsServed {L P C : Type 0} (Ran : Hired P C → SeatView → Member P → SeatView → Type 0) (tell : P → PortState L) (opening : CacheState) (team : List (Hired P C))
    (before after : PortsState P) (out out' : Outgoing) (ended : ServeEnd) : Type 0 where
  pub members : List (Member P)
  pub closing : CacheState
  pub run : TeamHasWorked Ran opening team closing members
  pub back : TakesThrough tell before (map (λ m. m.port) members) after
  pub behind : EndsBehind members out out' ended
