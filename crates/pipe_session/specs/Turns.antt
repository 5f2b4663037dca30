-- What a session has done since it began, and what one turn adds.
use Rattle.std.specs.Prelude.{◌≡◌, ◌⊎◌, ℕ, ◌<◌, ◌^◌, IfSome, Bool, true, false, List, [], ◌∷◌, ◌++◌, length, Option, Some, None}
use Rattle.arc_core.specs.Outside.{Incoming, Rose, first_then, sent_more}
use Rattle.arc_core.specs.Framing.{Whole, BeginsWith}
use Rattle.arc_core.specs.CollectionLines.{coll_line_needs}
use Rattle.arc_core.specs.History.{Entry}
use Rattle.pipe_session.specs.SessionText.{Tells, IsQuitUnit}
use Rattle.frame_reader.specs.Progress.{Progress, StandsFor}
use Rattle.arc_core.specs.declared.ends.End.{End}
use Rattle.pipe_session.specs.declared.turn.Turn.{Turn}
use Rattle.pipe_session.specs.declared.turn.Turn.TheVariants as turn
use Rattle.arc_core.specs.declared.ends.End.TheVariants as end
use Rattle.pipe_session.specs.declared.owed.Unsent.{Unsent}
use Rattle.pipe_session.specs.declared.owed.Unsent.TheVariants as unsent
use Rattle.pipe_session.specs.declared.phase.Phase.{Phase}
use Rattle.pipe_session.specs.declared.phase.Phase.TheVariants as phase
use Rattle.pipe_session.specs.Desks.{Serves, TicksThrough}
use Rattle.pipe_session.specs.Outside.{Moment}
use Rattle.pipe_session.specs.Runs.{Kept, TellsSoFar, no_run}
use Rattle.pipe_session.specs.Ends.{Ends, CountsOnly, is_closed}
use Rattle.pipe_session.specs.Units.{IsTooLong, NoneFinal, OnlyLastFinal, EndsWith, IsBetweenUnits, IsUnread}

-- How far a session is by itself: its reader, the bytes that it pulled and did not read yet, the text that it owes, the run
-- of piped commands that is open, how many bytes it took, and its phase.
pub record Standing : Type 0 where
  pub progress : Progress
  pub ahead : List ℕ
  pub owed : List ℕ
  pub is_full : Bool
  pub run : Kept
  pub taken : ℕ
  pub phase : Phase

-- What a session has done: the bytes that it took, the units that it handled, the requests that it had executed, the text
-- of all that was answered, and what was sent of it.
pub record Deeds : Type 0 where
  pub taken : List ℕ
  pub units : List Whole
  pub entries : List Entry
  pub text : List ℕ
  pub gone : List ℕ

-- nothing
abbrev pub no_deeds : Deeds
no_deeds = record { taken = []; units = []; entries = []; text = []; gone = [] }

-- The last of the units is of this kind, and fewer bytes were pulled behind it than one pull brings.
pub record StopsBehind (Last : Whole → Type 0) (at : Standing) (deeds : Deeds) : Type 0 where
  pub spans : BeginsWith coll_line_needs deeds.taken deeds.units at.ahead
  pub ends : EndsWith Last deeds.units
  pub last : OnlyLastFinal deeds.units
  pub short : length at.ahead < 16384
  pub no_run : at.run.is_open ≡ false

-- The bytes that were taken are the spans of the units, what the reader has of the next one, and what was not read yet.
pub record GoesOn (at : Standing) (deeds : Deeds) : Type 0 where
  pub tail : List ℕ
  pub spans : BeginsWith coll_line_needs deeds.taken deeds.units (tail ++ at.ahead)
  pub stands : StandsFor coll_line_needs at.progress tail
  pub none_final : NoneFinal deeds.units

-- Where the session is within the bytes that it took, by its phase.
abbrev pub IsWithin : Phase → Standing → Deeds → Type 0
IsWithin phase.Going at deeds = GoesOn at deeds
IsWithin phase.Quit at deeds = StopsBehind IsQuitUnit at deeds
IsWithin phase.LineTooLong at deeds = StopsBehind IsTooLong at deeds
IsWithin phase.Ended at deeds = GoesOn at deeds × (at.ahead ≡ [])
IsWithin phase.Over at deeds = ⊥

-- The input has ended, where that is told, and fewer than 2^40 bytes were taken.
pub record HasEnded (now : Incoming) (taken : List ℕ) : Type 0 where
  pub nothing_left : IfSome now.left (λ bytes. bytes ≡ [])
  pub short : length taken < 2 ^ 40

-- So it is behind the end of the input.
abbrev pub IsAtEnd : Phase → Incoming → List ℕ → Type 0
IsAtEnd phase.Ended now taken = HasEnded now taken
IsAtEnd other now taken = Unit {0}

-- What the units tell by now: behind the end of the input all is answered, and else all but the run that is open.
abbrev pub TellsNow : Phase → Kept → List Whole → List Entry → List ℕ → Type 0
TellsNow phase.Ended run units entries text = Tells true units entries text
TellsNow other run units entries text = TellsSoFar run units entries text

-- SO FAR. Between the two moments a session that is so far has done this: it took the next bytes that were left; its
-- units tell the requests that were executed and the text of the answers; these led the desk from the one state to the
-- other, each at the clock's next second; and of the text a front was sent, and the rest is owed.
pub record SoFar {D : Type 0} (answers : D → Entry → D → Type 0) (began now : Moment D) (at : Standing) (deeds : Deeds) : Type 0 where
  pub took : began.outside.incoming.left ≡ first_then deeds.taken now.outside.incoming.left
  pub no_fault : now.outside.incoming.faults ≡ began.outside.incoming.faults
  pub number : length deeds.taken ≡ at.taken
  pub within : IsWithin at.phase at deeds
  pub at_end : IsAtEnd at.phase now.outside.incoming deeds.taken
  pub tells : TellsNow at.phase at.run deeds.units deeds.entries deeds.text
  pub served : Serves answers began.desk deeds.entries now.desk
  pub seconds : TicksThrough began.outside.coming deeds.entries now.outside.coming
  pub parts : deeds.text ≡ deeds.gone ++ at.owed
  pub sent : now.outside.out ≡ sent_more began.outside.out deeds.gone

-- THE END. Between the two moments a session ran and ended so.
pub record IsOver {D : Type 0} (answers : D → Entry → D → Type 0) (began now : Moment D) (ended : End) : Type 0 where
  -- the bytes that it took, the units that it handled, and the bytes that were taken behind the last of them
  pub taken : List ℕ
  pub units : List Whole
  pub tail : List ℕ
  -- the requests that it had executed, and the text of all that was answered
  pub entries : List Entry
  pub text : List ℕ
  pub took : began.outside.incoming.left ≡ first_then taken now.outside.incoming.left
  pub spans : BeginsWith coll_line_needs taken units tail
  pub last : OnlyLastFinal units
  pub tells : Tells (is_closed ended) units entries text
  pub served : Serves answers began.desk entries now.desk
  pub seconds : TicksThrough began.outside.coming entries now.outside.coming
  pub ends : Ends ended began.outside now.outside taken units tail text
  pub counts : CountsOnly ended began.outside now.outside

-- A turn took at least one byte from the link, and nothing is owed: all that was went out too.
pub record Took (at' : Standing) (before after : Deeds) : Type 0 where
  pub some : length before.taken < length after.taken
  pub nothing_owed : at'.owed ≡ []

-- It handled one unit, and took nothing.
pub record HandledOne (at at' : Standing) (before after : Deeds) : Type 0 where
  pub unit : Whole
  pub units : after.units ≡ before.units ++ unit ∷ []
  pub same : after.taken ≡ before.taken
  pub read : length at'.ahead < length at.ahead

abbrev pub WentOn : (at at' : Standing) (before after : Deeds) → Type 0
WentOn at at' before after = Took at' before after ⊎ HandledOne at at' before after

-- ONE TURN. What it leaves of a session that has done this, by its answer: the session went on; or the link has to be
-- asked again, which it has counted; or the session is over. Nothing that was done is lost or done again.
abbrev pub TurnLeaves : {D : Type 0} → (D → Entry → D → Type 0) → (began now : Moment D) → (agains agains' : ℕ) → (at at' : Standing) → Deeds → Turn → Type 0
TurnLeaves answers began now agains agains' at at' deeds turn.More =
    (after : Deeds) × SoFar answers began now at' after × WentOn at at' deeds after × (agains' ≡ agains)
TurnLeaves answers began now agains agains' at at' deeds turn.Again =
    (after : Deeds) × SoFar answers began now at' after × Rose agains agains'
TurnLeaves answers began now agains agains' at at' deeds (turn.Over ended) = IsOver answers began now ended × (at'.phase ≡ phase.Over)

-- A session that has just begun.
pub record IsFresh (at : Standing) : Type 0 where
  pub unread : IsUnread at.progress
  pub nothing_ahead : at.ahead ≡ []
  pub nothing_owed : at.owed ≡ []
  pub not_full : at.is_full ≡ false
  pub not_in_run : at.run ≡ no_run
  pub nothing_taken : at.taken ≡ 0
  pub going : at.phase ≡ phase.Going

-- whether a session is over
abbrev pub is_over : Phase → Bool
is_over phase.Over = true
is_over other = false

-- the reader is between two units while the session goes on, and behind the end of the input
abbrev pub IsReading : Phase → Progress → Type 0
IsReading phase.Going progress = IsBetweenUnits progress
IsReading phase.Ended progress = IsBetweenUnits progress
IsReading other progress = Unit {0}

-- so it is where no unit got whole, and behind a unit by the phase there
abbrev pub IsReadingBehind : Option Phase → Progress → Type 0
IsReadingBehind None progress = IsBetweenUnits progress
IsReadingBehind (Some behind) progress = IsReading behind progress

-- What follows is for the functions within: no public clause cites it.

-- What the handling of the next unit leaves, where it got whole; else nothing was done.
abbrev pub UnitLeaves : {D : Type 0} → (D → Entry → D → Type 0) → (began now : Moment D) → (at at' : Standing) → Deeds → Bool → Type 0
UnitLeaves answers began now at at' deeds true = (after : Deeds) × SoFar answers began now at' after × HandledOne at at' deeds after
UnitLeaves answers began now at at' deeds false = SoFar answers began now at' deeds

-- What an exchange with the link leaves, by its answer: bytes came; or it has to be asked again; or the session is over.
abbrev pub LinkLeaves : {D : Type 0} → (D → Entry → D → Type 0) → (began now : Moment D) → (agains agains' : ℕ) → (at' : Standing) → Deeds → Turn → Type 0
LinkLeaves answers began now agains agains' at' deeds turn.More =
    (after : Deeds) × SoFar answers began now at' after × Took at' deeds after × (agains' ≡ agains)
LinkLeaves answers began now agains agains' at' deeds turn.Again =
    (after : Deeds) × SoFar answers began now at' after × Rose agains agains'
LinkLeaves answers began now agains agains' at' deeds (turn.Over ended) = IsOver answers began now ended × (at'.phase ≡ phase.Over)

-- Where no unit got whole, all that was pulled is read while the session goes on, and all else is as it was.
abbrev pub IsRead : (at at' : Standing) → Bool → Type 0
IsRead at at' true = Unit {0}
IsRead at at' false = (at'.phase ≡ phase.Going → at'.ahead ≡ []) × (at'.phase ≡ at.phase) × (at'.taken ≡ at.taken)

-- the same session, over
abbrev pub over : Standing → Standing
over at = record at { phase = phase.Over }

-- what a turn answers that could not send
abbrev pub turn_unsent : Unsent → Turn
turn_unsent unsent.Again = turn.Again
turn_unsent unsent.Failed = turn.Over end.WriteFault
turn_unsent unsent.NoMemory = turn.Over end.NoMemory

-- the session that could not send: it goes on where the link has to be asked again
abbrev pub stopped : Unsent → Standing → Standing
stopped unsent.Again at = at
stopped other at = over at
