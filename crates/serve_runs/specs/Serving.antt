-- What a run of a server is: ports are handed out, one to each worker, all workers serve their links side by side, and the ports
-- are taken back.
use Rattle.std.specs.Prelude.{◌≡◌, ◌⊎◌, ℕ, ◌+◌, List, [], ◌∷◌, ◌++◌, length, map, codes, decimal, Option}
use Rattle.std.specs.List.{AllByRecursion}
use Rattle.arc_core.specs.CacheState.{CacheState}
use Rattle.arc_core.specs.Outside.{Rose, Outgoing, sent_more}
use Rattle.pipe_session.specs.Ends.{IsSentInPart}
use Rattle.serve_runs.specs.declared.serve.ServeEnd.{ServeEnd}
use Rattle.serve_runs.specs.declared.serve.ServeEnd.TheVariants as serve_end
use Rattle.turn_lock.specs.Seats.{SeatView}
use Rattle.worker_ports.specs.Hands.{PortsState, HandsOut, TakesPort, FailsOnce, RefusedOnce}
use Rattle.worker_server.specs.declared.worker.WorkerEnd.TheVariants as worker_end
use Rattle.worker_server.specs.Ports.{PortState}
use Rattle.worker_team.specs.declared.team.Member.{Member}
use Rattle.worker_team.specs.Team.{Hired, TeamHasWorked}

-- how many links were served in all
abbrev pub total_served : {P : Type 0} → List (Member P) → ℕ
total_served [] = 0
total_served (member ∷ members) = member.served + total_served members

-- the line that is written at the end
abbrev pub sessions_line : ℕ → List ℕ
sessions_line total = codes "sessions=" ++ (decimal total ++ 10 ∷ [])

-- The worker ended since no link was left, or since it had served as many as it may.
abbrev pub EndedWell : {P : Type 0} → Member P → Type 0
EndedWell member = (member.end ≡ worker_end.Closed) ⊎ (member.end ≡ worker_end.Limit)

-- What follows reads a port by what it tells.
module _ {L P : Type 0} (tell : P → PortState L) where
  -- these ports were handed out, one after another
  abbrev pub HandsThrough : PortsState P → List P → PortsState P → Type 0
  HandsThrough before [] after = after ≡ before
  HandsThrough before (port ∷ ports) after = (middle : PortsState P) × HandsOut before port (tell port) middle × HandsThrough middle ports after

  -- these ports were taken back, one after another
  abbrev pub TakesThrough : PortsState P → List P → PortsState P → Type 0
  TakesThrough before [] after = after ≡ before
  TakesThrough before (port ∷ ports) after = (middle : PortsState P) × TakesPort before port (tell port) middle × TakesThrough middle ports after

-- it serves so many sessions at most, by a clock that goes on with these seconds
pub record IsHiredFor {P C : Type 0} (coming : C → Option (List ℕ)) (seconds : Option (List ℕ)) (sessions : ℕ) (worker : Hired P C) : Type 0 where
  pub clock : coming worker.clock ≡ seconds
  pub limit : worker.sessions ≡ sessions

-- Why no worker ran: a call of the ports failed, or memory was refused to them, and was counted; or memory was refused elsewhere.
abbrev pub Refuses : {P : Type 0} → ServeEnd → (before after : PortsState P) → Type 0
Refuses serve_end.PortFault before after = FailsOnce before after
Refuses serve_end.NoMemory before after = RefusedOnce before after ⊎ (after ≡ before)
Refuses serve_end.Done before after = ⊥
Refuses serve_end.WriteFault before after = ⊥

-- What follows is of any kind of workers: `Ran` says that one has run, as in worker_team.
module _ {L P C : Type 0} (Ran : Hired P C → SeatView → Member P → SeatView → Type 0) (tell : P → PortState L) (coming : C → Option (List ℕ)) where
  -- ALL WORKERS HAVE RUN, each with a port of its own, over one cache: there is one history. Each port was taken back.
  pub record HaveAllServed (opening : CacheState) (workers sessions : ℕ) (seconds : Option (List ℕ)) (before after : PortsState P) (members : List (Member P)) : Type 0 where
    pub team : List (Hired P C)
    pub count : length team ≡ workers
    pub alike : AllByRecursion (IsHiredFor coming seconds sessions) team
    pub handed_out : PortsState P
    pub handed : HandsThrough tell before (map (λ w. w.port) team) handed_out
    pub closing : CacheState
    pub run : TeamHasWorked Ran opening team closing members
    pub back : TakesThrough tell handed_out (map (λ m. m.port) members) after

  -- NO WORKER HAS RUN: these ports were handed out, something was refused, and the ports came back as they were.
  pub record NoneHasServed (ended : ServeEnd) (before after : PortsState P) : Type 0 where
    pub ports : List P
    pub handed_out : PortsState P
    pub handed : HandsThrough tell before ports handed_out
    pub refused_at : PortsState P
    pub refused : Refuses ended handed_out refused_at
    pub back : TakesThrough tell refused_at ports after

  -- All workers ended well, and the number of sessions was written.
  pub record EndsDone (opening : CacheState) (workers sessions : ℕ) (seconds : Option (List ℕ)) (before after : PortsState P) (out out' : Outgoing) : Type 0 where
    pub members : List (Member P)
    pub served : HaveAllServed opening workers sessions seconds before after members
    pub well : AllByRecursion EndedWell members
    pub same_faults : after.faults ≡ before.faults
    pub written : out' ≡ sent_more out (sessions_line (total_served members))

  -- All workers ended well, and a push failed, which was counted.
  pub record EndsWriteFault (opening : CacheState) (workers sessions : ℕ) (seconds : Option (List ℕ)) (before after : PortsState P) (out out' : Outgoing) : Type 0 where
    pub members : List (Member P)
    pub served : HaveAllServed opening workers sessions seconds before after members
    pub well : AllByRecursion EndedWell members
    pub same_faults : after.faults ≡ before.faults
    pub fault : Rose out.faults out'.faults
    pub front : IsSentInPart out.sent out'.sent (sessions_line (total_served members))

  -- A port failed, or a call for one, which was counted. Nothing was written.
  pub record EndsPortFault (opening : CacheState) (workers sessions : ℕ) (seconds : Option (List ℕ)) (before after : PortsState P) (out out' : Outgoing) : Type 0 where
    pub fault : Rose before.faults after.faults
    pub cause : NoneHasServed serve_end.PortFault before after ⊎ ((members : List (Member P)) × HaveAllServed opening workers sessions seconds before after members)
    pub same_out : out' ≡ out

  -- Memory was refused: before any worker ran, to a worker's port, or to the output.
  pub record EndsNoMemory (opening : CacheState) (workers sessions : ℕ) (seconds : Option (List ℕ)) (before after : PortsState P) (out out' : Outgoing) : Type 0 where
    pub same_faults : after.faults ≡ before.faults
    pub same_write_faults : out'.faults ≡ out.faults
    pub cause : (NoneHasServed serve_end.NoMemory before after × (out' ≡ out))
        ⊎ ((members : List (Member P)) × HaveAllServed opening workers sessions seconds before after members
        × ((out' ≡ out) ⊎ (AllByRecursion EndedWell members × IsSentInPart out.sent out'.sent (sessions_line (total_served members)))))

  -- THE SERVER. How it ends, and why.
  abbrev pub Serves : ServeEnd → (opening : CacheState) (workers sessions : ℕ) (seconds : Option (List ℕ)) (before after : PortsState P) (out out' : Outgoing) → Type 0
  Serves serve_end.Done opening workers sessions seconds before after out out' = EndsDone opening workers sessions seconds before after out out'
  Serves serve_end.WriteFault opening workers sessions seconds before after out out' = EndsWriteFault opening workers sessions seconds before after out out'
  Serves serve_end.PortFault opening workers sessions seconds before after out out' = EndsPortFault opening workers sessions seconds before after out out'
  Serves serve_end.NoMemory opening workers sessions seconds before after out out' = EndsNoMemory opening workers sessions seconds before after out out'
