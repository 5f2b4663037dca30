-- How the poller's counts and links stand behind several steps, and what an end says then.
use Rattle.std.proofs.Common.{◌≡◌, ◌∙◌, ℕ, ap, sym, subst}
use Rattle.arc_core.specs.Outside.{Rose}
use Rattle.worker_server.specs.declared.worker.WorkerEnd.{WorkerEnd}
use Rattle.worker_server.specs.declared.worker.WorkerEnd.TheVariants as worker_end
use Rattle.worker_server.specs.Ports.{PortState}
use Rattle.worker_server.specs.Workers.{EndsFor, SameFaults, SameRefusals}
use Rattle.event_port.specs.declared.guests.Floor.{Floor}
use Rattle.event_port.specs.Pollers.{PollerState}
use Rattle.event_port.specs.Running.{OnlyReturns, SameNumbers}

module _ {L : Type 0} where
  pub only_then : (before middle after : PollerState L) → OnlyReturns before middle → OnlyReturns middle after → OnlyReturns before after
  only_then before middle after first next = next ∙ ap (λ (p : PortState L). record p { returned = after.port.returned }) first

  pub same_then : (old middle new : Floor L) → SameNumbers old middle → SameNumbers middle new → SameNumbers old new
  same_then old middle new first next = record { came = next.came ∙ first.came; taken_on = next.taken_on ∙ first.taken_on; limit = next.limit ∙ first.limit }

  -- no count had risen before
  pub ends_from : (ending : WorkerEnd) (served sessions : ℕ) (before middle after : PortState L) → SameFaults before middle → SameRefusals before middle
      → EndsFor ending served sessions middle after → EndsFor ending served sessions before after
  ends_from worker_end.Closed served sessions before middle after faults refusals is = (is.0, is.1 ∙ faults, is.2 ∙ refusals)
  ends_from worker_end.Limit served sessions before middle after faults refusals is = (is.0, is.1 ∙ faults, is.2 ∙ refusals)
  ends_from worker_end.PortFault served sessions before middle after faults refusals is = (subst (λ n. Rose n after.faults) faults is.0, is.1 ∙ refusals)
  ends_from worker_end.NoMemory served sessions before middle after faults refusals is = (subst (λ n. Rose n after.refusals) refusals is.0, is.1 ∙ faults)
  ends_from worker_end.NotRun served sessions before middle after faults refusals is = absurd is

  -- links came back behind the end
  ends_with : (ending : WorkerEnd) (served sessions : ℕ) (before middle after : PortState L) → EndsFor ending served sessions before middle
      → EndsFor ending served sessions before (record middle { returned = after.returned })
  ends_with worker_end.Closed served sessions before middle after is = is
  ends_with worker_end.Limit served sessions before middle after is = is
  ends_with worker_end.PortFault served sessions before middle after is = is
  ends_with worker_end.NoMemory served sessions before middle after is = is
  ends_with worker_end.NotRun served sessions before middle after is = is

  pub ends_behind : (ending : WorkerEnd) (served served' sessions sessions' : ℕ) (before middle after : PollerState L) → served' ≡ served → sessions ≡ sessions' → OnlyReturns middle after
      → EndsFor ending served sessions before.port middle.port → EndsFor ending served' sessions' before.port after.port
  ends_behind ending served served' sessions sessions' before middle after same same' only is =
      subst (λ p. EndsFor ending served' sessions' before.port p) (sym only)
      (subst (λ n. EndsFor ending n sessions' before.port (record middle.port { returned = after.port.returned })) (sym same)
      (subst (λ n. EndsFor ending served n before.port (record middle.port { returned = after.port.returned })) same'
      (ends_with ending served sessions before.port middle.port after.port is)))
