-- Runs for which no cache could be made, and how many sessions a worker serves.
use Rattle.std.proofs.Common.{◌≡◌, ◌==◌, ◌-◌, ◌^◌, ◌<◌, ◌≤◌, ℕ, zero, suc, true, false, List, [], Option, Some, None, Result, Ok, refl, sym, ap, ◌∙◌, subst, inl, inr, arith}
use Rattle.std.proofs.lemmas.Bool.Decides.{nat_tests}
use Rattle.std.specs.Prelude.{if◌then◌else◌, IfSome}
use Rattle.std.specs.Option.{option_map_or}
use Rattle.arc_core.specs.CacheState.{CacheState}
use Rattle.arc_core.specs.Outside.{Linked, Outgoing, first_then}
use Rattle.event_port.specs.Pollers.{PollerState}
use Rattle.pipe_session.specs.Outside.{Outside}
use Rattle.script_runs.specs.declared.run.RunEnd.{RunEnd}
use Rattle.script_runs.specs.declared.run.RunEnd.TheVariants as run_end
use Rattle.script_runs.specs.Runs.{IsRun}
use Rattle.program_words.specs.declared.job.Job.{Job}
use Rattle.program_words.specs.declared.job.Job.TheVariants as asked
use Rattle.program_words.specs.declared.job.ServeJob.{ServeJob}
use Rattle.program_words.specs.Words.{job_of}
use Rattle.serve_runs.specs.declared.serve.ServeEnd.{ServeEnd}
use Rattle.serve_runs.specs.declared.serve.ServeEnd.TheVariants as serve_end
use Rattle.serve_runs.specs.Serving.{Serves}
use Rattle.turn_lock.specs.Seats.{SeatView}
use Rattle.worker_ports.specs.Hands.{PortsState}
use Rattle.worker_server.specs.Ports.{PortState}
use Rattle.worker_team.specs.declared.team.Member.{Member}
use Rattle.event_team.specs.Served.{HasServedPoller}
use Rattle.worker_team.specs.Team.{Hired, HasServedPort}
use Rattle.arcus_tool.specs.declared.status.Status.{Status}
use Rattle.arcus_tool.specs.Running.{Around, opening_of, most_sessions, ServesBy, RunsServer, RunsJob, Runs, IfRefused}
use Rattle.arcus_tool.specs.Statuses.{serve_status}

took_none : (left : Option (List ℕ)) → left ≡ first_then [] left
took_none None = refl
took_none (Some bytes) = refl

-- memory was refused before anything was read
pub never_read : (opening : CacheState) (workers : ℕ) (at : Outside) → IsRun opening workers at at run_end.NoMemory
never_read opening workers at = record {
  taken = [];
  took = took_none at.incoming.left;
  ends = record { few = omega arith; no_fault = refl; same_faults = refl; sent = inl refl };
  same_clock = refl;
}

-- a run from this state is one from the same state
pub run_from : (opening opening' : CacheState) (workers : ℕ) (before after : Outside) (end : RunEnd) → opening' ≡ opening → IsRun opening' workers before after end → IsRun opening workers before after end
run_from opening opening' workers before after end same run = subst (λ o. IsRun o workers before after end) same run

not_none : (k : ℕ) → (suc k == 0) ≡ false
not_none k = grind (arith, nat_tests)

-- no limit is as the largest one
pub sessions_are : (given : Option ℕ) → IfSome given (λ k. (1 ≤ k) × (k < 2 ^ 32))
    → (if option_map_or (λ k. k) given 0 == 0 then 2 ^ 64 - 1 else option_map_or (λ k. k) given 0) ≡ most_sessions given
sessions_are None within = refl
sessions_are (Some zero) within = absurd omega (within.0, arith)
sessions_are (Some (suc k)) within = ap (λ t. if t then 2 ^ 64 - 1 else suc k) (not_none k)

-- a server that was run so was run as was asked
module _ {L P C : Type 0} (Ran : Hired P C → SeatView → Member P → SeatView → Type 0) (tell : P → PortState L) (coming : C → Option (List ℕ)) where
  pub as_asked : (end : ServeEnd) (opening opening' : CacheState) (workers workers' sessions : ℕ) (given : Option ℕ) (seconds : Option (List ℕ)) (before after : PortsState P) (out out' : Outgoing)
      → opening' ≡ opening → workers' ≡ workers → sessions ≡ option_map_or (λ k. k) given 0 → IfSome given (λ k. (1 ≤ k) × (k < 2 ^ 32))
      → Serves Ran tell coming end opening' workers' (if sessions == 0 then 2 ^ 64 - 1 else sessions) seconds before after out out'
      → Serves Ran tell coming end opening workers (most_sessions given) seconds before after out out'
  as_asked end opening opening' workers workers' sessions given seconds before after out out' same_opening same_workers is within serves =
      subst (λ o. Serves Ran tell coming end o workers (most_sessions given) seconds before after out out') same_opening
      (subst (λ w. Serves Ran tell coming end opening' w (most_sessions given) seconds before after out out') same_workers
      (subst (λ s. Serves Ran tell coming end opening' workers' s seconds before after out out') (ap (λ s. if s == 0 then 2 ^ 64 - 1 else s) is ∙ sessions_are given within) serves))

module _ {L M P Q C : Type 0} (look : L → Linked) (tell : P → PortState L) (look_at : M → Linked) (tell_of : Q → PollerState M) (coming : C → Option (List ℕ)) where
  -- a server ran over pollers, as was asked
  pub ran_on_pollers : (serve : ServeJob) (before after : Around P Q) (ended : Status) (end : ServeEnd) → serve.events ≡ true → ended ≡ serve_status end
      → after.outside.incoming ≡ before.outside.incoming → after.outside.coming ≡ before.outside.coming
      → Serves (HasServedPoller look_at tell_of coming) (λ poller. (tell_of poller).port) coming end (opening_of serve.limit serve.share) serve.workers (most_sessions serve.sessions)
      before.outside.coming before.pollers after.pollers before.outside.out after.outside.out
      → RunsServer look tell look_at tell_of coming serve before after ended
  ran_on_pollers serve before after ended end events is same_source same_clock serves = record {
    end = end;
    is_its_status = is;
    serves = subst (λ b. ServesBy look tell look_at tell_of coming b end (opening_of serve.limit serve.share) serve.workers (most_sessions serve.sessions) before after) (sym events) serves;
    same_source = same_source;
    same_clock = same_clock;
  }

  -- and one over ports
  pub ran_on_ports : (serve : ServeJob) (before after : Around P Q) (ended : Status) (end : ServeEnd) → serve.events ≡ false → ended ≡ serve_status end
      → after.outside.incoming ≡ before.outside.incoming → after.outside.coming ≡ before.outside.coming
      → Serves (HasServedPort look tell coming) tell coming end (opening_of serve.limit serve.share) serve.workers (most_sessions serve.sessions)
      before.outside.coming before.ports after.ports before.outside.out after.outside.out
      → RunsServer look tell look_at tell_of coming serve before after ended
  ran_on_ports serve before after ended end events is same_source same_clock serves = record {
    end = end;
    is_its_status = is;
    serves = subst (λ b. ServesBy look tell look_at tell_of coming b end (opening_of serve.limit serve.share) serve.workers (most_sessions serve.sessions) before after) (sym events) serves;
    same_source = same_source;
    same_clock = same_clock;
  }

-- what a server did is what the program does by such words
pub runs_server : {L M P Q C : Type 0} (look : L → Linked) (tell : P → PortState L) (look_at : M → Linked) (tell_of : Q → PollerState M) (coming : C → Option (List ℕ))
    (words : List (List ℕ)) (serve : ServeJob) (job : Job) (before after : Around P Q) (ended : Status)
    → job ≡ asked.Serve serve → (let answer : Result Job ℕ = Ok job in answer ≡ job_of words)
    → RunsServer look tell look_at tell_of coming serve before after ended → Runs look tell look_at tell_of coming words before after ended
runs_server look tell look_at tell_of coming words serve job before after ended is answer runs =
    subst (λ r. RunsJob look tell look_at tell_of coming r before after ended) (sym (ap (λ j. Ok j) is) ∙ answer) runs

-- no server ends as refused words
never_refused : (end : ServeEnd) (Holds : Type 0) → IfRefused (serve_status end) Holds
never_refused serve_end.Done Holds = tt
never_refused serve_end.WriteFault Holds = tt
never_refused serve_end.PortFault Holds = tt
never_refused serve_end.NoMemory Holds = tt

pub not_refused : (ended : Status) (end : ServeEnd) (Holds : Type 0) → ended ≡ serve_status end → IfRefused ended Holds
not_refused ended end Holds is = subst (λ s. IfRefused s Holds) (sym is) (never_refused end Holds)
