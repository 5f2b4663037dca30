-- A script that was served by a team.
use Rattle.std.proofs.Common.{◌≡◌, ◌∙◌, ℕ, ◌<◌, false, List, length, map, Option, Result, Ok, Err, inr, sym, subst, arith}
use Rattle.arc_core.specs.CacheState.{CacheState}
use Rattle.arc_core.specs.Outside.{Outgoing}
use Rattle.sink_writes.specs.declared.write.Unwritten.{Unwritten}
use Rattle.sink_writes.specs.declared.write.Unwritten.TheVariants as unwritten
use Rattle.sink_writes.specs.Writing.{Writes}
use Rattle.worker_server.specs.Apart.{SessionsAreApart}
use Rattle.worker_server.specs.Ports.{PortState}
use Rattle.worker_team.specs.declared.team.Member.{Member}
use Rattle.worker_team.specs.Team.{Hired, HasServedPort, TeamHasWorked}
use Rattle.script_runs.specs.Dealing.{HasHired}
use Rattle.script_runs.specs.Output.{Outcome, output_of}
use Rattle.script_runs.specs.Serving.{IsServable, IsServed, AllStand, any_stopped, EndsText, end_of}
use Rattle.script_runs.proofs.Outcomes.{steady}
use Rattle.script_runs.proofs.Histories.{as_many_links, have_run}
use Rattle.script_runs.proofs.Lengths.{session_within}
use Rattle.script_runs.proofs.Writings.{all_closed}

module _ {L P C : Type 0} (left sent : L → Option (List ℕ)) (refusals : L → ℕ) (tell : P → PortState L) (coming : C → Option (List ℕ)) where
  pub served : SessionsAreApart (steady left sent refusals) → (opening opening' : CacheState) (workers : ℕ) (seconds : Option (List ℕ)) (text : List ℕ) (links : List L) (team : List (Hired P C)) (closing : CacheState) (members : List (Member P))
      → 0 < workers → opening' ≡ opening → IsServable (steady left sent refusals) text links → HasHired tell coming workers seconds links team
      → TeamHasWorked (HasServedPort (steady left sent refusals) tell coming) opening' team closing members → any_stopped members ≡ false
      → (outcomes : List Outcome) × IsServed opening workers seconds text outcomes × (length outcomes ≡ length links)
      × AllStand sent (λ p. (tell p).returned) (length members) (map (λ m. m.port) members) 0 outcomes
  served apart opening opening' workers seconds text links team closing members some same servable hired worked none =
      let all = have_run left sent refusals tell coming apart opening workers seconds links servable.sessions team closing members some servable.links_are
      (λ k session at. omega (arith, session_within text servable.sessions servable.script k session at, servable.few)) hired
      (subst (λ o. TeamHasWorked (HasServedPort (steady left sent refusals) tell coming) o team closing members) same worked) (all_closed members none) in (
        all.0,
        record { sessions = servable.sessions; script = servable.script; closing = closing; run = all.1 },
        all.3 ∙ sym (as_many_links (steady left sent refusals) servable.sessions links servable.links_are),
        subst (λ n. AllStand sent (λ p. (tell p).returned) n (map (λ m. m.port) members) 0 all.0) (sym all.4) all.2,
      )

-- how a run ends by how its output was written
pub written_ends : {A : Type 0} (opening : CacheState) (workers : ℕ) (seconds : Option (List ℕ)) (text : List ℕ) (before after : Outgoing) (outcomes : List Outcome) (r : Result A Unwritten)
    → IsServed opening workers seconds text outcomes → Writes before (output_of outcomes) after r → EndsText opening workers seconds text before after (end_of r)
written_ends opening workers seconds text before after outcomes (Ok done) all writes = (outcomes, all, writes)
written_ends opening workers seconds text before after outcomes (Err unwritten.Failed) all writes = (outcomes, all, writes)
written_ends opening workers seconds text before after outcomes (Err unwritten.NoMemory) all writes = inr (outcomes, all, writes)
