-- What the program does by its words.
use Rattle.std.specs.Prelude.{◌≡◌, ℕ, ◌*◌, ◌/◌, ◌-◌, ◌^◌, Bool, true, false, List, Option, Result, Ok, Err}
use Rattle.std.specs.Option.{option_map_or}
use Rattle.arc_core.specs.CacheState.{CacheState, opening_state}
use Rattle.arc_core.specs.Outside.{Linked}
use Rattle.pipe_session.specs.Outside.{Outside}
use Rattle.script_runs.specs.declared.run.RunEnd.{RunEnd}
use Rattle.script_runs.specs.Runs.{IsRun}
use Rattle.script_runs.specs.Runs as script
use Rattle.serve_runs.specs.declared.serve.ServeEnd.{ServeEnd}
use Rattle.serve_runs.specs.Serving.{Serves}
use Rattle.event_port.specs.Pollers.{PollerState}
use Rattle.event_team.specs.Served.{HasServedPoller}
use Rattle.worker_team.specs.Team.{HasServedPort}
use Rattle.worker_ports.specs.Hands.{PortsState}
use Rattle.worker_server.specs.Ports.{PortState}
use Rattle.arcus_tool.specs.declared.status.Status.{Status}
use Rattle.arcus_tool.specs.declared.status.Status.TheVariants as status
use Rattle.program_words.specs.declared.job.Job.{Job}
use Rattle.program_words.specs.declared.job.Job.TheVariants as job
use Rattle.program_words.specs.declared.job.ServeJob.{ServeJob}
use Rattle.arcus_tool.specs.Session.{IsSession, IsComplete}
use Rattle.arcus_tool.specs.Statuses.{run_status, serve_status}
use Rattle.program_words.specs.Words.{job_of}

-- the opening state of a cache of so many mebibytes, of which the sticky items may take so many percent
abbrev pub opening_of : (mib percent : ℕ) → CacheState
opening_of mib percent = opening_state (1048576 * mib) (1048576 * mib * percent / 100)

-- how many sessions a worker of a server serves at most: 2^64 - 1 where no number is given
abbrev pub most_sessions : Option ℕ → ℕ
most_sessions given = option_map_or (λ k. k) given (2 ^ 64 - 1)

-- A snapshot of the world: the source, the sink and the clock; the ports, and the pollers of event workers.
pub record Around (P Q : Type 0) : Type 0 where
  pub outside : Outside
  pub ports : PortsState P
  pub pollers : PortsState Q

abbrev pub around : {P Q : Type 0} → Outside → PortsState P → PortsState Q → Around P Q
around outside ports pollers = record { outside = outside; ports = ports; pollers = pollers }

-- No port and no poller was asked for.
pub record AskedForNone {P Q : Type 0} (before after : Around P Q) : Type 0 where
  pub ports : after.ports ≡ before.ports
  pub pollers : after.pollers ≡ before.pollers

-- So many workers have served the sessions of a script over one such cache, and a whole script was served whole.
pub record RunsScript (workers limit share : ℕ) (before after : Outside) (ended : Status) : Type 0 where
  pub end : RunEnd
  pub is_its_status : ended ≡ run_status end
  pub run : IsRun (opening_of limit share) workers before after end
  pub complete : script.IsComplete before after end

-- What follows reads links, ports, pollers and a clock by what they tell.
module _ {L M P Q C : Type 0} (look : L → Linked) (tell : P → PortState L) (look_at : M → Linked) (tell_of : Q → PollerState M) (coming : C → Option (List ℕ)) where
  -- How the workers of a server served, by whether they are event workers: on pollers then, else on ports.
  abbrev pub ServesBy : (events : Bool) → ServeEnd → CacheState → (workers sessions : ℕ) → (before after : Around P Q) → Type 0
  ServesBy false end opening workers sessions before after =
      Serves (HasServedPort look tell coming) tell coming end opening workers sessions before.outside.coming before.ports after.ports before.outside.out after.outside.out
  ServesBy true end opening workers sessions before after =
      Serves (HasServedPoller look_at tell_of coming) (λ poller. (tell_of poller).port) coming end opening workers sessions before.outside.coming before.pollers after.pollers
      before.outside.out after.outside.out

  -- A server ran over one such cache. It took nothing from the source, and its workers have clocks of their own.
  pub record RunsServer (serve : ServeJob) (before after : Around P Q) (ended : Status) : Type 0 where
    pub end : ServeEnd
    pub is_its_status : ended ≡ serve_status end
    pub serves : ServesBy serve.events end (opening_of serve.limit serve.share) serve.workers (most_sessions serve.sessions) before after
    pub same_source : after.outside.incoming ≡ before.outside.incoming
    pub same_clock : after.outside.coming ≡ before.outside.coming

  -- A job was done: a session ran on such a cache, and whole input was answered whole; or a script was served; or a server ran.
  abbrev pub Does : Job → Around P Q → Around P Q → Status → Type 0
  Does (job.Session limit share) before after ended =
      IsSession (opening_of limit share) before.outside after.outside ended × IsComplete before.outside after.outside ended × AskedForNone before after
  Does (job.Many workers limit share) before after ended = RunsScript workers limit share before.outside after.outside ended × AskedForNone before after
  Does (job.Serve serve) before after ended = RunsServer serve before after ended

  -- THE PROGRAM. By what its words ask for: a job; or the word at this place is bad, or missing there, and nothing was done.
  abbrev pub RunsJob : Result Job ℕ → Around P Q → Around P Q → Status → Type 0
  RunsJob (Ok job) before after ended = Does job before after ended
  RunsJob (Err place) before after ended = (ended ≡ status.BadWords place) × (after ≡ before)

  abbrev pub Runs : List (List ℕ) → Around P Q → Around P Q → Status → Type 0
  Runs words before after ended = RunsJob (job_of words) before after ended

-- This holds where the words were refused.
abbrev pub IfRefused : Status → Type 0 → Type 0
IfRefused (status.BadWords place) Holds = Holds
IfRefused other Holds = Unit {0}
