-- What the traits of the outside promise of a call: what was left, what was sent, and which count rose.
use Rattle.std.specs.Prelude.{◌≡◌, ℕ, ◌+◌, ◌-◌, ◌^◌, ◌<◌, ◌≤◌, min, List, [], ◌∷◌, ◌++◌, length, take, Option, Some, None, IfSome}
use Rattle.std.specs.Option.{option_map}
use Rattle.arc_core.specs.declared.outside.Pull.{Pull}
use Rattle.arc_core.specs.declared.outside.Pull.TheVariants as pull
use Rattle.arc_core.specs.declared.outside.Push.{Push}
use Rattle.arc_core.specs.declared.outside.Push.TheVariants as push

-- A count rose in a call by one at least, or stands at the last value that a counter has. It did not fall.
abbrev pub Rose : ℕ → ℕ → Type 0
Rose before now = (before ≤ now) × (min (before + 1) (2 ^ 64 - 1) ≤ now)

-- These bytes come next, and then what is left after them, where it is told.
abbrev pub first_then : List ℕ → Option (List ℕ) → Option (List ℕ)
first_then bytes rest = option_map (λ r. bytes ++ r) rest

-- What was sent, with these bytes after it, where it is told.
abbrev pub then_sent : Option (List ℕ) → List ℕ → Option (List ℕ)
then_sent sent bytes = option_map (λ s. s ++ bytes) sent

-- A snapshot of where bytes come from: those that are still to come, where that is told, and how often a pull has failed.
pub record Incoming : Type 0 where
  pub left : Option (List ℕ)
  pub faults : ℕ

abbrev pub incoming : Option (List ℕ) → ℕ → Incoming
incoming left faults = record { left = left; faults = faults }

-- A snapshot of where bytes go to: those that were sent, where that is told, how often a push has failed, and how often
-- one was refused for want of memory.
pub record Outgoing : Type 0 where
  pub sent : Option (List ℕ)
  pub faults : ℕ
  pub refusals : ℕ

abbrev pub outgoing : Option (List ℕ) → ℕ → ℕ → Outgoing
outgoing sent faults refusals = record { sent = sent; faults = faults; refusals = refusals }

-- the same with these bytes sent behind all others
abbrev pub sent_more : Outgoing → List ℕ → Outgoing
sent_more out bytes = record out { sent = then_sent out.sent bytes }

-- A snapshot of a link: both sides, and how often it had to be asked again.
pub record Linked : Type 0 where
  pub incoming : Incoming
  pub outgoing : Outgoing
  pub agains : ℕ

abbrev pub linked : (left : Option (List ℕ)) (read_faults : ℕ) (sent : Option (List ℕ)) (write_faults refusals agains : ℕ) → Linked
linked left read_faults sent write_faults refusals agains =
    record { incoming = incoming left read_faults; outgoing = outgoing sent write_faults refusals; agains = agains }

-- So many bytes came, the next of those that were left. They stand at the front of the buffer.
pub record CameNext (before after : Incoming) (buffer : List ℕ) (n : ℕ) : Type 0 where
  pub some : 0 < n
  pub within : n ≤ length buffer
  pub bytes : before.left ≡ first_then (take n buffer) after.left
  pub same_faults : after.faults ≡ before.faults

-- Nothing is left, where that is told, and nothing came.
pub record CameToEnd (before after : Incoming) : Type 0 where
  pub ended : IfSome before.left (λ bytes. bytes ≡ [])
  pub same_left : after.left ≡ before.left
  pub same_faults : after.faults ≡ before.faults

-- The call failed and was counted. What is left stays as it was.
pub record FailedToPull (before after : Incoming) : Type 0 where
  pub same_left : after.left ≡ before.left
  pub rose : Rose before.faults after.faults

-- What a pull of a source leaves, by its answer. A source never has to be asked again.
abbrev pub Pulled : (before after : Incoming) (buffer : List ℕ) → Pull → Type 0
Pulled before after buffer (pull.Got n) = CameNext before after buffer n
Pulled before after buffer pull.End = CameToEnd before after
Pulled before after buffer pull.Failed = FailedToPull before after
Pulled before after buffer pull.Again = ⊥

-- What a pull of a link leaves, by its answer, where the link counts how often it had to be asked again: as of a source, or
-- nothing came and it has to be asked again.
abbrev pub LinkPulled : (before after : Incoming) (agains agains' : ℕ) (buffer : List ℕ) → Pull → Type 0
LinkPulled before after agains agains' buffer (pull.Got n) = CameNext before after buffer n × (agains' ≡ agains)
LinkPulled before after agains agains' buffer pull.End = CameToEnd before after × (agains' ≡ agains)
LinkPulled before after agains agains' buffer pull.Failed = FailedToPull before after × (agains' ≡ agains)
LinkPulled before after agains agains' buffer pull.Again = (after ≡ before) × Rose agains agains'

-- The first so many bytes of the piece were sent.
pub record WasTaken (before after : Outgoing) (piece : List ℕ) (n : ℕ) : Type 0 where
  pub some : 0 < n
  pub within : n ≤ length piece
  pub bytes : after.sent ≡ then_sent before.sent (take n piece)
  pub same_faults : after.faults ≡ before.faults
  pub same_refusals : after.refusals ≡ before.refusals

-- The call failed and was counted. Nothing was sent.
pub record FailedToPush (before after : Outgoing) : Type 0 where
  pub same_sent : after.sent ≡ before.sent
  pub rose : Rose before.faults after.faults
  pub same_refusals : after.refusals ≡ before.refusals

-- Memory was refused, and the refusal was counted. Nothing was sent.
pub record RefusedToPush (before after : Outgoing) : Type 0 where
  pub same_sent : after.sent ≡ before.sent
  pub same_faults : after.faults ≡ before.faults
  pub rose : Rose before.refusals after.refusals

-- What a push into a sink leaves, by its answer. A sink never has to be asked again.
abbrev pub Pushed : (before after : Outgoing) (piece : List ℕ) → Push → Type 0
Pushed before after piece (push.Took n) = WasTaken before after piece n
Pushed before after piece push.Failed = FailedToPush before after
Pushed before after piece push.NoMemory = RefusedToPush before after
Pushed before after piece push.Again = ⊥

-- What a push into a link leaves, by its answer, where the link counts how often it had to be asked again: as of a sink, or
-- nothing was sent and it has to be asked again.
abbrev pub LinkPushed : (before after : Outgoing) (agains agains' : ℕ) (piece : List ℕ) → Push → Type 0
LinkPushed before after agains agains' piece (push.Took n) = WasTaken before after piece n × (agains' ≡ agains)
LinkPushed before after agains agains' piece push.Failed = FailedToPush before after × (agains' ≡ agains)
LinkPushed before after agains agains' piece push.NoMemory = RefusedToPush before after × (agains' ≡ agains)
LinkPushed before after agains agains' piece push.Again = (after ≡ before) × Rose agains agains'

-- A clock that tells its seconds answers the first of those to come, and goes on to the next where there is one.
abbrev pub Ticks : Option (List ℕ) → ℕ → Option (List ℕ) → Type 0
Ticks None now coming' = coming' ≡ None
Ticks (Some []) now coming' = ⊥
Ticks (Some (s ∷ [])) now coming' = (now ≡ s) × (coming' ≡ Some (s ∷ []))
Ticks (Some (s ∷ t ∷ later)) now coming' = (now ≡ s) × (coming' ≡ Some (t ∷ later))
