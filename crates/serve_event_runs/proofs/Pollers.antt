-- Event workers, as workers of any kind, and pollers that are out.
use Rattle.std.proofs.Common.{◌≡◌, ◌⊎◌, inl, inr, ℕ, ◌≤◌, List, length, Option, ap, arith}
use Rattle.arc_core.specs.Outside.{Linked}
use Rattle.event_port.specs.Pollers.{PollerState}
use Rattle.event_team.specs.Served.{HasServedPoller}
use Rattle.serve_runs.specs.declared.serve.ServeEnd.{ServeEnd}
use Rattle.serve_runs.specs.declared.serve.ServeEnd.TheVariants as serve_end
use Rattle.serve_runs.specs.Serving.{HandsThrough, Refuses}
use Rattle.serve_runs.proofs.Accounts.{EndsRightly, hands_counts}
use Rattle.worker_ports.specs.Hands.{PortsState, RefusedOnce}
use Rattle.worker_server.specs.Ports.{PortState}

pub poller_ends : {L P C : Type 0} (look : L → Linked) (tell : P → PollerState L) (coming : C → Option (List ℕ)) → EndsRightly (HasServedPoller {C = C} look tell coming) (λ p. (tell p).port)
poller_ends look tell coming worker before member after served = (member.served, served.ran.ends)

-- a refusal leaves those out that were handed out
same_out : {P : Type 0} (ended : ServeEnd) (before after : PortsState P) → Refuses ended before after → after.out ≡ before.out
same_out serve_end.PortFault before after fails = ap (λ s. s.out) fails.same
same_out serve_end.NoMemory before after refuses = by refuses
  where
    by : RefusedOnce before after ⊎ (after ≡ before) → after.out ≡ before.out
    by (inl once) = ap (λ s. s.out) once.same
    by (inr is) = ap (λ s. s.out) is
same_out serve_end.Done before after none = absurd none
same_out serve_end.WriteFault before after none = absurd none

pub enough_out : {L P : Type 0} (tell : P → PortState L) (before middle after : PortsState P) (ports : List P) (ended : ServeEnd) → HandsThrough tell before ports middle
    → Refuses ended middle after → length ports ≤ after.out
enough_out tell before middle after ports ended handed refuses = omega (arith, (hands_counts tell before middle ports handed).1, same_out ended middle after refuses)
