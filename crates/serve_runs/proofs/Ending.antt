-- How a run of a server ends.
use Rattle.std.proofs.Common.{◌≡◌, ◌∙◌, ◌⊎◌, inl, inr, false, ℕ, ◌+◌, ◌<◌, ◌≤◌, List, [], ◌∷◌, ◌++◌, length, map, Option, refl, sym, ap, subst, arith}
use Rattle.std.proofs.lemmas.List.{length-append}
use Rattle.arc_core.specs.CacheState.{CacheState}
use Rattle.arc_core.specs.Outside.{Rose, Outgoing}
use Rattle.turn_lock.specs.Seats.{SeatView}
use Rattle.worker_ports.specs.Hands.{PortsState, RefusedOnce}
use Rattle.worker_server.specs.Ports.{PortState}
use Rattle.worker_team.specs.declared.team.Member.{Member}
use Rattle.worker_team.specs.Team.{Hired}
use Rattle.serve_runs.specs.declared.hiring.Stop.{Stop}
use Rattle.serve_runs.specs.declared.hiring.Stop.TheVariants as stop
use Rattle.serve_runs.specs.declared.serve.ServeEnd.{ServeEnd}
use Rattle.serve_runs.specs.declared.serve.ServeEnd.TheVariants as serve_end
use Rattle.serve_runs.specs.Serving.{HandsThrough, TakesThrough, Refuses, HaveAllServed, Serves, total_served}
use Rattle.serve_runs.specs.Hiring.{HasHired, HasStopped}
use Rattle.serve_runs.specs.Ending.{WritesTotal, EndsStopped, EndsBehind, EndsServed}
use Rattle.serve_runs.specs.Verdicts.{any_failed, any_refused}
use Rattle.serve_runs.proofs.Accounts.{EndsRightly, hands_counts, takes_keeps, all_fine, all_well, some_failed}

-- the number of sessions was written, or not
pub ends_well : {P : Type 0} (members : List (Member P)) (total : ℕ) (before after : Outgoing) (ended : ServeEnd) → any_failed members ≡ false → any_refused members ≡ false → total ≡ total_served members
    → WritesTotal before total after ended → EndsBehind members before after ended
ends_well members total before after serve_end.Done none given is writes = (none, given, subst (λ n. WritesTotal before n after serve_end.Done) is writes)
ends_well members total before after serve_end.WriteFault none given is writes = (none, given, subst (λ n. WritesTotal before n after serve_end.WriteFault) is writes)
ends_well members total before after serve_end.NoMemory none given is writes = (none, inr (given, subst (λ n. WritesTotal before n after serve_end.NoMemory) is writes))
ends_well members total before after serve_end.PortFault none given is writes = absurd writes

pub map_length : {A B : Type 0} (f : A → B) (xs : List A) → length (map f xs) ≡ length xs
map_length f [] = refl
map_length f (x ∷ xs) = omega (arith, map_length f xs)

pub takes_counts : {L P : Type 0} (tell : P → PortState L) (before after : PortsState P) (ports : List P) → TakesThrough tell before ports after → before.out ≡ after.out + length ports
takes_counts tell before after [] same = omega (arith, ap (λ s. s.out) same)
takes_counts tell before after (port ∷ ports) (middle, takes, through) = omega (arith, takes.out, takes_counts tell middle after ports through)

module _ {L P C : Type 0} (tell : P → PortState L) where
  -- all ports of the team are out
  pub enough_out : (before now : PortsState P) (team : List (Hired P C)) (why : Stop P) → HasStopped tell before now team why → length team ≤ now.out
  enough_out before now team stop.Failed (middle, handed, fails) =
      omega (arith, (hands_counts tell before middle (map (λ w. w.port) team) handed).1, map_length (λ (w : Hired P C). w.port) team, ap (λ s. s.out) fails.same)
  enough_out before now team stop.Refused (middle, handed, refuses) =
      omega (arith, (hands_counts tell before middle (map (λ w. w.port) team) handed).1, map_length (λ (w : Hired P C). w.port) team, ap (λ s. s.out) refuses.same)
  enough_out before now team (stop.NoWorker port) handed =
      omega (arith, (hands_counts tell before now (map (λ w. w.port) team ++ port ∷ []) handed).1, length-append (map (λ (w : Hired P C). w.port) team) (port ∷ []), map_length (λ (w : Hired P C). w.port) team)

  -- and one more is out behind them
  pub one_out : (before now after : PortsState P) (team : List (Hired P C)) (port : P) → HasStopped tell before now team (stop.NoWorker port) → TakesThrough tell now (map (λ w. w.port) team) after → 0 < after.out
  one_out before now after team port handed through =
      omega (
        arith,
        (hands_counts tell before now (map (λ w. w.port) team ++ port ∷ []) handed).1,
        length-append (map (λ (w : Hired P C). w.port) team) (port ∷ []),
        takes_counts tell now after (map (λ w. w.port) team) through,
      )

module _ {L P C : Type 0} (Ran : Hired P C → SeatView → Member P → SeatView → Type 0) (tell : P → PortState L) (coming : C → Option (List ℕ)) where
  -- no worker has run
  pub serves_refused : (opening : CacheState) (workers sessions : ℕ) (seconds : Option (List ℕ)) (before middle now after : PortsState P) (out : Outgoing) (ports : List P) (ended : ServeEnd)
      → HandsThrough tell before ports middle → Refuses ended middle now → TakesThrough tell now ports after → Serves Ran tell coming ended opening workers sessions seconds before after out out
  serves_refused opening workers sessions seconds before middle now after out ports serve_end.PortFault handed fails through =
      let counts = hands_counts tell before middle ports handed in
      let same : after.faults ≡ now.faults = takes_keeps tell now after ports counts.2 through in
      record {
        fault = subst (λ n. Rose before.faults n) (sym same) (subst (λ n. Rose n now.faults) counts.0 fails.rose);
        cause = inl (record { ports = ports; handed_out = middle; handed = handed; refused_at = now; refused = fails; back = through });
        same_out = refl;
      }
  serves_refused opening workers sessions seconds before middle now after out ports serve_end.NoMemory handed refuses through =
      let counts = hands_counts tell before middle ports handed in
      let same : after.faults ≡ now.faults = takes_keeps tell now after ports counts.2 through in
      record {
        same_faults = same ∙ (no_fault refuses ∙ counts.0);
        same_write_faults = refl;
        cause = inl (record { ports = ports; handed_out = middle; handed = handed; refused_at = now; refused = refuses; back = through }, refl);
      }
    where
      no_fault : RefusedOnce middle now ⊎ (now ≡ middle) → now.faults ≡ middle.faults
      no_fault (inl once) = ap (λ s. s.faults) once.same
      no_fault (inr is) = ap (λ s. s.faults) is
  serves_refused opening workers sessions seconds before middle now after out ports serve_end.Done handed refuses through = absurd refuses
  serves_refused opening workers sessions seconds before middle now after out ports serve_end.WriteFault handed refuses through = absurd refuses

  pub serves_stopped : (opening : CacheState) (workers sessions : ℕ) (seconds : Option (List ℕ)) (before now after : PortsState P) (out : Outgoing) (team : List (Hired P C)) (why : Stop P) (ended : ServeEnd)
      → HasStopped tell before now team why → EndsStopped tell now after (map (λ w. w.port) team) why ended → Serves Ran tell coming ended opening workers sessions seconds before after out out
  serves_stopped opening workers sessions seconds before now after out team stop.Failed ended (middle, handed, fails) (through, is) =
      subst (λ e. Serves Ran tell coming e opening workers sessions seconds before after out out) (sym is)
      (serves_refused opening workers sessions seconds before middle now after out (map (λ w. w.port) team) serve_end.PortFault handed fails through)
  serves_stopped opening workers sessions seconds before now after out team stop.Refused ended (middle, handed, refuses) (through, is) =
      subst (λ e. Serves Ran tell coming e opening workers sessions seconds before after out out) (sym is)
      (serves_refused opening workers sessions seconds before middle now after out (map (λ w. w.port) team) serve_end.NoMemory handed (inl refuses) through)
  serves_stopped opening workers sessions seconds before now after out team (stop.NoWorker port) ended handed (through, is) =
      subst (λ e. Serves Ran tell coming e opening workers sessions seconds before after out out) (sym is)
      (serves_refused opening workers sessions seconds before now now after out (map (λ w. w.port) team ++ port ∷ []) serve_end.NoMemory handed (inr refl) through)

  -- all workers have run
  pub serves_well : (ends : EndsRightly Ran tell) (opening : CacheState) (workers sessions : ℕ) (seconds : Option (List ℕ)) (before now after : PortsState P) (out out' : Outgoing) (team : List (Hired P C)) (ended : ServeEnd)
      → HasHired tell coming workers sessions seconds before now team → EndsServed Ran tell opening team now after out out' ended
      → Serves Ran tell coming ended opening workers sessions seconds before after out out'
  serves_well ends opening workers sessions seconds before now after out out' team ended has served = by ended served.behind
    where
      all : HaveAllServed Ran tell coming opening workers sessions seconds before after served.members
      all = record { team = team; count = has.count; alike = has.alike; handed_out = now; handed = has.handed; closing = served.closing; run = served.run; back = served.back }

      same : any_failed served.members ≡ false → after.faults ≡ before.faults
      same none = takes_keeps tell now after (map (λ m. m.port) served.members)
          (all_fine Ran tell ends served.run.lock opening served.run.history 1 team served.members served.run.each (hands_counts tell before now (map (λ w. w.port) team) has.handed).2 none) served.back
          ∙ (hands_counts tell before now (map (λ w. w.port) team) has.handed).0

      by : (e : ServeEnd) → EndsBehind served.members out out' e → Serves Ran tell coming e opening workers sessions seconds before after out out'
      by serve_end.Done (none, given, written) =
          record { members = served.members; served = all; well = all_well Ran tell ends served.run.lock opening served.run.history 1 team served.members served.run.each none given; same_faults = same none; written = written }
      by serve_end.WriteFault (none, given, fails) =
          record { members = served.members; served = all; well = all_well Ran tell ends served.run.lock opening served.run.history 1 team served.members served.run.each none given; same_faults = same none; fault = fails.fault; front = fails.sent }
      by serve_end.PortFault (some, kept) =
          record {
            fault = subst (λ n. Rose n after.faults) (hands_counts tell before now (map (λ w. w.port) team) has.handed).0
                (some_failed Ran tell ends served.run.lock opening served.run.history 1 team served.members now after served.run.each (hands_counts tell before now (map (λ w. w.port) team) has.handed).2 some served.back);
            cause = inr (served.members, all);
            same_out = kept;
          }
      by serve_end.NoMemory (none, inl (some, kept)) =
          record { same_faults = same none; same_write_faults = ap (λ o. o.faults) kept; cause = inr (served.members, all, inl kept) }
      by serve_end.NoMemory (none, inr (given, refuses)) =
          record {
            same_faults = same none;
            same_write_faults = refuses.same_faults;
            cause = inr (served.members, all, inr (all_well Ran tell ends served.run.lock opening served.run.history 1 team served.members served.run.each none given, refuses.sent));
          }
