-- What a whole session is: from the bytes that are taken to the bytes that are sent, with the status that it ends with.
use Rattle.std.specs.Prelude.{◌≡◌, ◌⊎◌, ℕ, ◌^◌, ◌<◌, ◌≤◌, Bool, true, false, List, [], length, Some}
use Rattle.std.specs.List.{AllByRecursion}
use Rattle.arc_core.specs.declared.ends.End.{End}
use Rattle.arc_core.specs.declared.ends.End.TheVariants as end
use Rattle.arc_core.specs.Outside.{Rose, first_then}
use Rattle.arc_core.specs.Framing.{Whole, BeginsWith}
use Rattle.arc_core.specs.CollectionLines.{coll_line_needs}
use Rattle.arc_core.specs.CacheState.{CacheState, IsState}
use Rattle.arc_core.specs.History.{Entry, Replays}
use Rattle.pipe_session.specs.SessionText.{Tells, IsQuitUnit}
use Rattle.pipe_session.specs.Desks.{TicksThrough, IsOwn}
use Rattle.pipe_session.specs.Outside.{Outside}
use Rattle.pipe_session.specs.Units.{IsTooLong, OnlyLastFinal, EndsWith}
use Rattle.pipe_session.specs.Ends.{EndsBehindAUnit, EndsAtQuit, EndsCut, EndsReadFault, EndsLong, EndsAtLongLine, EndsWriteFault, IsSentInPart, SameReads, SameWrites, SameRefusals}
use Rattle.arcus_tool.specs.declared.status.Status.{Status}
use Rattle.arcus_tool.specs.declared.status.Status.TheVariants as status

-- A field that is data, in a record whose other fields are facts, means: there is such a value.

-- whether a run of piped commands that is open at the session's end is answered too
abbrev pub is_closed : Status → Bool
is_closed status.ReadFault = false
is_closed status.LongInput = false
is_closed other = true

-- No byte was taken yet, or the sink was refused memory, which it has counted: a front of the text was sent. (That memory
-- was short at the start is not said: it may be refused at any time.)
pub record EndsWithoutMemory (before after : Outside) (taken text : List ℕ) : Type 0 where
  pub refused : (taken ≡ []) ⊎ Rose before.out.refusals after.out.refusals
  pub few : length taken ≤ 2 ^ 40
  pub sent : IsSentInPart before.out.sent after.out.sent text

-- How a session ends, by its status.
abbrev pub Ends : Status → Outside → Outside → List ℕ → List Whole → List ℕ → List ℕ → Type 0
Ends status.Done before after taken units tail text = EndsBehindAUnit before after taken units tail text ⊎ EndsAtQuit before after taken units tail text
Ends (status.CutInput rest) before after taken units tail text = EndsCut rest before after taken units tail text
Ends status.ReadFault before after taken units tail text = EndsReadFault before after taken units tail text
Ends status.LongInput before after taken units tail text = EndsLong before after taken units tail text
Ends status.LineTooLong before after taken units tail text = EndsAtLongLine before after taken units tail text
Ends status.WriteFault before after taken units tail text = EndsWriteFault before after taken text
Ends status.NoMemory before after taken units tail text = EndsWithoutMemory before after taken text
-- a session does not look at words, at scripts, at ports
Ends (status.BadWords place) before after taken units tail text = ⊥
Ends (status.BadScript offset) before after taken units tail text = ⊥
Ends status.PortFault before after taken units tail text = ⊥

-- No count rose but the one that the status tells.
abbrev pub CountsOnly : Status → Outside → Outside → Type 0
CountsOnly status.ReadFault before after = SameWrites before after × SameRefusals before after
CountsOnly status.WriteFault before after = SameReads before after × SameRefusals before after
CountsOnly status.NoMemory before after = SameReads before after × SameWrites before after
CountsOnly other before after = SameReads before after × SameWrites before after × SameRefusals before after

-- THE SESSION. From this state, between these two moments of the outside, a session ran and ended with this status:
pub record IsSession (opening : CacheState) (before after : Outside) (ended : Status) : Type 0 where
  -- the bytes that it took from the source
  pub taken : List ℕ
  -- the units that it handled, and the bytes that were taken behind the last of them
  pub units : List Whole
  pub tail : List ℕ
  -- the requests that it had executed, each with its second and its reply, and the state at the end
  pub entries : List Entry
  pub closing : CacheState
  -- the text of all that was answered
  pub text : List ℕ
  -- the bytes were the next ones that the source had left
  pub took : before.incoming.left ≡ first_then taken after.incoming.left
  -- the units are the first ones of these bytes, and none was handled behind `quit` or a line that is too long
  pub spans : BeginsWith coll_line_needs taken units tail
  pub last : OnlyLastFinal units
  -- the requests and replies are those of the units in their order, and the text is theirs
  pub tells : Tells (is_closed ended) units entries text
  -- the replies and states are a run of the machine
  pub legal : Replays opening entries closing
  -- each request came at the clock's next second
  pub seconds : TicksThrough before.coming entries after.coming
  -- each entry is of the one session that there is, at a second of 32 bits
  pub own : AllByRecursion IsOwn entries
  -- the state at the end keeps the rules: its accounted bytes are within the limit
  pub rules : IsState closing
  -- why the session ended, and what was sent of the text
  pub ends : Ends ended before after taken units tail text
  -- no fault and no refusal is passed over
  pub counts : CountsOnly ended before after

-- COMPLETENESS. Input that is whole is answered whole.

-- The input is whole units to its end, or to a unit that is `quit`, and none of them is a line that is too long.
pub record IsWholeInput (input : List ℕ) : Type 0 where
  pub units : List Whole
  pub tail : List ℕ
  pub spans : BeginsWith coll_line_needs input units tail
  pub none_too_long : AllByRecursion (λ unit. IsTooLong unit → ⊥) units
  pub ends : (tail ≡ []) ⊎ EndsWith IsQuitUnit units

-- Where the source tells that whole input is left, of fewer than 2^40 bytes, and no pull and no push failed, the session
-- ends with Done, or for want of memory.
abbrev pub IsComplete : Outside → Outside → Status → Type 0
IsComplete before after ended =
    (input : List ℕ) → before.incoming.left ≡ Some input → IsWholeInput input → length input < 2 ^ 40
    → (Rose before.incoming.faults after.incoming.faults → ⊥) → (Rose before.out.faults after.out.faults → ⊥)
    → (ended ≡ status.Done) ⊎ (ended ≡ status.NoMemory)

-- What follows is for the functions within: the statement above cites none of it.

-- The status is that of a session that ended so: it ended behind a unit or at `quit`; or for the same cause.
abbrev pub IsStatusOf : End → Status → Type 0
IsStatusOf end.Ended ended = ended ≡ status.Done
IsStatusOf end.Quit ended = ended ≡ status.Done
IsStatusOf (end.Cut rest) ended = ended ≡ status.CutInput rest
IsStatusOf end.LineTooLong ended = ended ≡ status.LineTooLong
IsStatusOf end.LongInput ended = ended ≡ status.LongInput
IsStatusOf end.ReadFault ended = ended ≡ status.ReadFault
IsStatusOf end.WriteFault ended = ended ≡ status.WriteFault
IsStatusOf end.NoMemory ended = ended ≡ status.NoMemory
IsStatusOf end.Crowded ended = ⊥
