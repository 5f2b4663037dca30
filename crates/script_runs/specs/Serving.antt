-- What the serving of a script leaves, for the functions within: no public clause cites what stands here.
use Rattle.std.specs.Prelude.{◌≡◌, ◌⊎◌, ℕ, ◌+◌, ◌/◌, ◌%◌, ◌^◌, ◌≤◌, List, [], ◌∷◌, length, Bool, true, false, Option, Some, Result, Ok, Err}
use Rattle.std.specs.List.{list_any}
use Rattle.arc_core.specs.declared.ends.End.{End}
use Rattle.arc_core.specs.CacheState.{CacheState}
use Rattle.arc_core.specs.Outside.{Outgoing, Linked, sent_more}
use Rattle.sink_writes.specs.declared.write.Unwritten.{Unwritten}
use Rattle.sink_writes.specs.declared.write.Unwritten.TheVariants as unwritten
use Rattle.sink_writes.specs.Writing.{FailedIn, RefusedIn}
use Rattle.worker_server.specs.declared.worker.WorkerEnd.{WorkerEnd}
use Rattle.worker_server.specs.declared.worker.WorkerEnd.TheVariants as worker_end
use Rattle.worker_team.specs.declared.team.Member.{Member}
use Rattle.script_runs.specs.declared.run.RunEnd.{RunEnd}
use Rattle.script_runs.specs.declared.run.RunEnd.TheVariants as run_end
use Rattle.script_runs.specs.Dealing.{At}
use Rattle.script_runs.specs.Script.{Session, script_of}
use Rattle.script_runs.specs.Output.{Outcome, HasWord, output_of}
use Rattle.script_runs.specs.Reading.{AreLinksOf}
use Rattle.script_runs.specs.Runs.{HaveRun}

-- whether a worker ended otherwise than since no link was left
abbrev pub has_stopped : WorkerEnd → Bool
has_stopped worker_end.Closed = false
has_stopped other = true

abbrev pub any_stopped : {P : Type 0} → List (Member P) → Bool
any_stopped members = list_any (λ member. has_stopped member.end) members

-- What came of the session with this number stands with the worker that served it: the link that came back in its turn, and
-- the end that came with it.
pub record Stands {L P : Type 0} (sent_to : L → Option (List ℕ)) (returned : P → Option (List (L × End))) (workers : ℕ) (ports : List P) (number : ℕ) (outcome : Outcome) : Type 0 where
  pub port : P
  pub its : At ports (number % workers) port
  pub pairs : List (L × End)
  pub tells : returned port ≡ Some pairs
  pub pair : L × End
  pub there : At pairs (number / workers) pair
  pub sent : sent_to pair.0 ≡ Some outcome.sent
  pub ended : pair.1 ≡ outcome.ended
  pub word : HasWord outcome.ended

-- so it is with each of these, from this number on
abbrev pub AllStand : {L P : Type 0} → (sent_to : L → Option (List ℕ)) (returned : P → Option (List (L × End))) (workers : ℕ) → List P → ℕ → List Outcome → Type 0
AllStand sent_to returned workers ports number [] = Unit {0}
AllStand sent_to returned workers ports number (outcome ∷ outcomes) =
    Stands sent_to returned workers ports number outcome × AllStand sent_to returned workers ports (number + 1) outcomes

-- These links are those of the sessions of this text, which is a script of at most 2^28 bytes.
pub record IsServable {L : Type 0} (look : L → Linked) (text : List ℕ) (links : List L) : Type 0 where
  pub few : length text ≤ 2 ^ 28
  pub sessions : List Session
  pub script : script_of text ≡ Ok sessions
  pub links_are : AreLinksOf look sessions links

-- The text is a script, and this came of its sessions when they were served.
pub record IsServed (opening : CacheState) (workers : ℕ) (coming : Option (List ℕ)) (text : List ℕ) (outcomes : List Outcome) : Type 0 where
  pub sessions : List Session
  pub script : script_of text ≡ Ok sessions
  pub closing : CacheState
  pub run : HaveRun opening workers coming sessions outcomes closing

-- How a run of this text ends.
abbrev pub EndsText : CacheState → (workers : ℕ) → Option (List ℕ) → List ℕ → Outgoing → Outgoing → RunEnd → Type 0
EndsText opening workers coming text before after run_end.Done =
    (outcomes : List Outcome) × IsServed opening workers coming text outcomes × (after ≡ sent_more before (output_of outcomes))
EndsText opening workers coming text before after run_end.WriteFault =
    (outcomes : List Outcome) × IsServed opening workers coming text outcomes × FailedIn before (output_of outcomes) after
EndsText opening workers coming text before after (run_end.BadScript offset) = (script_of text ≡ Err offset) × (after ≡ before)
EndsText opening workers coming text before after run_end.NoMemory =
    (after ≡ before) ⊎ ((outcomes : List Outcome) × IsServed opening workers coming text outcomes × RefusedIn before (output_of outcomes) after)
EndsText opening workers coming text before after run_end.ReadFault = ⊥
EndsText opening workers coming text before after run_end.LongInput = ⊥

-- how a run ends whose sessions were served, by how its output was written
abbrev pub end_of : {A : Type 0} → Result A Unwritten → RunEnd
end_of (Ok done) = run_end.Done
end_of (Err unwritten.Failed) = run_end.WriteFault
end_of (Err unwritten.NoMemory) = run_end.NoMemory
