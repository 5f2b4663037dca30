-- How a session ends: what was taken and sent by then, and which count rose.
use Rattle.std.specs.Prelude.{◌≡◌, ℕ, ◌^◌, ◌<◌, ◌≤◌, Bool, true, false, List, [], ◌∷◌, ◌++◌, length, Option, IfSome}
use Rattle.arc_core.specs.Outside.{Rose, then_sent, sent_more}
use Rattle.arc_core.specs.Framing.{Whole, IsRest}
use Rattle.arc_core.specs.CollectionLines.{coll_line_needs}
use Rattle.pipe_session.specs.SessionText.{IsQuitUnit}
use Rattle.arc_core.specs.declared.ends.End.{End}
use Rattle.arc_core.specs.declared.ends.End.TheVariants as end
use Rattle.pipe_session.specs.Outside.{Outside}
use Rattle.pipe_session.specs.Units.{IsTooLong, NoneFinal, EndsWith}

-- A field that is data, in a record whose other fields are facts, means: there is such a value.

-- A front of the text was sent.
pub record IsSentInPart (sent sent' : Option (List ℕ)) (text : List ℕ) : Type 0 where
  pub front : List ℕ
  pub back : List ℕ
  pub parts : text ≡ front ++ back
  pub sent_is : sent' ≡ then_sent sent front

-- All of the text was sent, no push failed, and no memory was refused.
abbrev pub SentWhole : (before after : Outside) (text : List ℕ) → Type 0
SentWhole before after text = after.out ≡ sent_more before.out text

-- All bytes were read to their end, where that is told, and no pull failed. Fewer than 2^40 bytes were taken.
pub record ReadToEnd (before after : Outside) (taken : List ℕ) : Type 0 where
  pub ended : IfSome after.incoming.left (λ bytes. bytes ≡ [])
  pub no_fault : after.incoming.faults ≡ before.incoming.faults
  pub short : length taken < 2 ^ 40

-- Behind the last unit no further one begins: none is a line that is too long or `quit`, and the tail is unfinished.
pub record HandledAll (units : List Whole) (tail : List ℕ) : Type 0 where
  pub none_final : NoneFinal units
  pub unfinished : IsRest coll_line_needs tail

-- The input ended behind a unit, and all was sent.
pub record EndsBehindAUnit (before after : Outside) (taken : List ℕ) (units : List Whole) (tail text : List ℕ) : Type 0 where
  pub read : ReadToEnd before after taken
  pub behind_a_unit : tail ≡ []
  pub handled : HandledAll units tail
  pub sent : SentWhole before after text

-- The last unit is `quit`, no more was taken than the pull that brought it, and all was sent.
pub record EndsAtQuit (before after : Outside) (taken : List ℕ) (units : List Whole) (tail text : List ℕ) : Type 0 where
  pub quits : EndsWith IsQuitUnit units
  pub short_tail : length tail < 16384
  pub few : length taken ≤ 2 ^ 40
  pub sent : SentWhole before after text

-- The input ended within a unit, of which so many bytes came, and all was sent.
pub record EndsCut (rest : ℕ) (before after : Outside) (taken : List ℕ) (units : List Whole) (tail text : List ℕ) : Type 0 where
  pub read : ReadToEnd before after taken
  pub within_a_unit : 0 < rest
  pub came : length tail ≡ rest
  pub handled : HandledAll units tail
  pub sent : SentWhole before after text

-- A pull failed, which was counted, and all was sent.
pub record EndsReadFault (before after : Outside) (taken : List ℕ) (units : List Whole) (tail text : List ℕ) : Type 0 where
  pub fault : Rose before.incoming.faults after.incoming.faults
  pub short : length taken < 2 ^ 40
  pub handled : HandledAll units tail
  pub sent : SentWhole before after text

-- 2^40 bytes were taken, none more are, and all was sent.
pub record EndsLong (before after : Outside) (taken : List ℕ) (units : List Whole) (tail text : List ℕ) : Type 0 where
  pub all_taken : length taken ≡ 2 ^ 40
  pub handled : HandledAll units tail
  pub sent : SentWhole before after text

-- The last unit is a line that is too long, no more was taken than the pull that brought its end, and all was sent.
pub record EndsAtLongLine (before after : Outside) (taken : List ℕ) (units : List Whole) (tail text : List ℕ) : Type 0 where
  pub too_long : EndsWith IsTooLong units
  pub short_tail : length tail < 16384
  pub few : length taken ≤ 2 ^ 40
  pub sent : SentWhole before after text

-- A push failed, which was counted: a front of the text was sent.
pub record EndsWriteFault (before after : Outside) (taken text : List ℕ) : Type 0 where
  pub fault : Rose before.out.faults after.out.faults
  pub few : length taken ≤ 2 ^ 40
  pub sent : IsSentInPart before.out.sent after.out.sent text

-- Memory was refused in a push, which was counted: a front of the text was sent.
pub record EndsRefused (before after : Outside) (taken text : List ℕ) : Type 0 where
  pub refused : Rose before.out.refusals after.out.refusals
  pub few : length taken ≤ 2 ^ 40
  pub sent : IsSentInPart before.out.sent after.out.sent text

-- How a session has ended between two moments, by its end.
abbrev pub Ends : End → Outside → Outside → List ℕ → List Whole → List ℕ → List ℕ → Type 0
Ends end.Ended before after taken units tail text = EndsBehindAUnit before after taken units tail text
Ends end.Quit before after taken units tail text = EndsAtQuit before after taken units tail text
Ends (end.Cut rest) before after taken units tail text = EndsCut rest before after taken units tail text
Ends end.LineTooLong before after taken units tail text = EndsAtLongLine before after taken units tail text
Ends end.LongInput before after taken units tail text = EndsLong before after taken units tail text
Ends end.ReadFault before after taken units tail text = EndsReadFault before after taken units tail text
Ends end.WriteFault before after taken units tail text = EndsWriteFault before after taken text
Ends end.NoMemory before after taken units tail text = EndsRefused before after taken text
-- a session does not count the others
Ends end.Crowded before after taken units tail text = ⊥

-- no further pull failed, no further push failed, no further memory was refused
abbrev pub SameReads : Outside → Outside → Type 0
SameReads before after = after.incoming.faults ≡ before.incoming.faults

abbrev pub SameWrites : Outside → Outside → Type 0
SameWrites before after = after.out.faults ≡ before.out.faults

abbrev pub SameRefusals : Outside → Outside → Type 0
SameRefusals before after = after.out.refusals ≡ before.out.refusals

-- No count rose but the one that the end tells.
abbrev pub CountsOnly : End → Outside → Outside → Type 0
CountsOnly end.ReadFault before after = SameWrites before after × SameRefusals before after
CountsOnly end.WriteFault before after = SameReads before after × SameRefusals before after
CountsOnly end.NoMemory before after = SameReads before after × SameWrites before after
CountsOnly other before after = SameReads before after × SameWrites before after × SameRefusals before after

-- whether a run of piped commands that is open at the end is answered
abbrev pub is_closed : End → Bool
is_closed end.ReadFault = false
is_closed end.LongInput = false
is_closed other = true

-- the end where no more bytes come, by those that came of an unfinished unit
abbrev pub end_behind : List ℕ → End
end_behind [] = end.Ended
end_behind (byte ∷ bytes) = end.Cut (length (byte ∷ bytes))
