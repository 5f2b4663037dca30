-- What the writing of a text to a sink leaves.
use Rattle.std.specs.Prelude.{◌≡◌, ℕ, List, Result, Ok, Err}
use Rattle.arc_core.specs.Outside.{Outgoing, Rose, sent_more}
use Rattle.pipe_session.specs.Ends.{IsSentInPart}
use Rattle.sink_writes.specs.declared.write.Unwritten.{Unwritten}
use Rattle.sink_writes.specs.declared.write.Unwritten.TheVariants as unwritten

-- A push failed, which was counted, and a front of the text was sent.
pub record FailedIn (before : Outgoing) (text : List ℕ) (after : Outgoing) : Type 0 where
  pub fault : Rose before.faults after.faults
  pub same_refusals : after.refusals ≡ before.refusals
  pub sent : IsSentInPart before.sent after.sent text

-- Memory was refused, and a front of the text was sent.
pub record RefusedIn (before : Outgoing) (text : List ℕ) (after : Outgoing) : Type 0 where
  pub same_faults : after.faults ≡ before.faults
  pub sent : IsSentInPart before.sent after.sent text

-- What a writing of this text leaves, by its answer.
abbrev pub Writes : {A : Type 0} (before : Outgoing) (text : List ℕ) (after : Outgoing) → Result A Unwritten → Type 0
Writes before text after (Ok done) = after ≡ sent_more before text
Writes before text after (Err unwritten.Failed) = FailedIn before text after
Writes before text after (Err unwritten.NoMemory) = RefusedIn before text after
