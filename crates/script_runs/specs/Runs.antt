-- THE HEADLINE. What a run of a script is: its sessions are served by several workers over one cache, and there is one
-- history, in which each session's output is its replies.
use Rattle.std.specs.Prelude.{◌≡◌, ◌⊎◌, ℕ, ◌+◌, ◌/◌, ◌%◌, ◌^◌, ◌<◌, ◌≤◌, List, [], ◌∷◌, ◌++◌, length, Option, Some, IfSome, Ok, Err}
use Rattle.std.specs.List.{AllByRecursion}
use Rattle.arc_core.specs.CacheState.{CacheState}
use Rattle.arc_core.specs.CollectionLines.{coll_line_needs}
use Rattle.arc_core.specs.Framing.{Whole, BeginsWith}
use Rattle.arc_core.specs.History.{Entry}
use Rattle.arc_core.specs.Outside.{Rose, first_then, sent_more, incoming, outgoing}
use Rattle.pipe_session.specs.SessionText.{Tells}
use Rattle.pipe_session.specs.Desks.{TicksThrough}
use Rattle.pipe_session.specs.Outside.{Outside, outside}
use Rattle.pipe_session.specs.Units.{OnlyLastFinal}
use Rattle.pipe_session.specs.Ends.{Ends, IsSentInPart, is_closed}
use Rattle.turn_lock.specs.Calls.{LeadsTo, calls_of}
use Rattle.worker_server.specs.Apart.{session_calls}
use Rattle.script_runs.specs.declared.run.RunEnd.{RunEnd}
use Rattle.script_runs.specs.declared.run.RunEnd.TheVariants as run_end
use Rattle.script_runs.specs.Script.{Session, bytes_of, script_of}
use Rattle.script_runs.specs.Output.{Outcome, HasWord, output_of}

-- A field that is data, in a record whose other fields are facts, means: there is such a value.

-- WHO SERVES WHICH SESSION. With so many workers session i is served by worker i mod n, which counts its sessions from 0. A
-- worker's seat at the lock has its number and 1 more; seat 0 serves no session.

abbrev pub seat_of : (workers number : ℕ) → ℕ
seat_of workers number = number % workers + 1

abbrev pub turn_of : (workers number : ℕ) → ℕ
turn_of workers number = number / workers

-- the entries of a history that are those of this session of the script, in order
abbrev pub entries_of : (workers number : ℕ) → List Entry → List Entry
entries_of workers number history = session_calls (turn_of workers number) (calls_of (seat_of workers number) history)

-- the link of a session at one moment: it never fails, and tells what is left, what was sent and how often it was refused
-- memory; and the seconds of its worker's clock that are to come
abbrev pub link_outside : (left sent : List ℕ) (refusals : ℕ) → Option (List ℕ) → Outside
link_outside left sent refusals coming = outside (incoming (Some left) 0) (outgoing (Some sent) 0 refusals) coming

-- ONE SESSION OF THE SCRIPT, which has this number and these bytes. In this history it came out so:
pub record CameOut (workers : ℕ) (history : List Entry) (number : ℕ) (bytes : List ℕ) (outcome : Outcome) : Type 0 where
  -- the bytes that it took, and those that it left
  pub taken : List ℕ
  pub left : List ℕ
  -- the units that it handled, the bytes that were taken behind the last of them, and the text of all that was answered
  pub units : List Whole
  pub tail : List ℕ
  pub text : List ℕ
  -- how often its link was refused memory, and the clock before and behind
  pub refusals : ℕ
  pub coming : Option (List ℕ)
  pub coming' : Option (List ℕ)
  pub parts : bytes ≡ taken ++ left
  pub spans : BeginsWith coll_line_needs taken units tail
  pub last : OnlyLastFinal units
  -- the requests and replies of its entries are those of its units in their order, and the text is theirs
  pub tells : Tells (is_closed outcome.ended) units (entries_of workers number history) text
  pub seconds : TicksThrough coming (entries_of workers number history) coming'
  -- why it ended, and what was sent of the text
  pub ends : Ends outcome.ended (link_outside bytes [] 0 coming) (link_outside left outcome.sent refusals coming') taken units tail text
  pub word : HasWord outcome.ended

-- So the sessions came out from this number on.
abbrev pub AllCameOut : (workers : ℕ) → List Entry → ℕ → List Session → List Outcome → Type 0
AllCameOut workers history number [] [] = Unit {0}
AllCameOut workers history number (session ∷ sessions) (outcome ∷ outcomes) =
    CameOut workers history number (bytes_of session) outcome × AllCameOut workers history (number + 1) sessions outcomes
AllCameOut workers history number [] (outcome ∷ outcomes) = ⊥
AllCameOut workers history number (session ∷ sessions) [] = ⊥

-- The entry is that of one of so many sessions.
pub record IsOfSession (workers sessions : ℕ) (entry : Entry) : Type 0 where
  pub number : ℕ
  pub below : number < sessions
  pub seat : entry.seat ≡ seat_of workers number
  pub session : entry.session ≡ turn_of workers number

-- ONE HISTORY. From this state on so many workers have served these sessions, by clocks that began with these seconds, and
-- this came out:
pub record HaveRun (opening : CacheState) (workers : ℕ) (coming : Option (List ℕ)) (sessions : List Session) (outcomes : List Outcome) (closing : CacheState) : Type 0 where
  -- all requests that were executed, in one order
  pub history : List Entry
  -- each reply and each next state are those of the machine where that entry stands, and each state on the way keeps its
  -- rules: the accounted bytes are within the limit
  pub legal : LeadsTo opening history closing
  pub each : AllCameOut workers history 0 sessions outcomes
  -- it has no other entries
  pub no_others : AllByRecursion (IsOfSession workers (length sessions)) history
  -- each worker's entries came at the seconds of its clock, one after another
  pub seconds : (worker : ℕ) → worker < workers → (later : Option (List ℕ)) × TicksThrough coming (calls_of (worker + 1) history) later

-- The source was read to its end, where that is told, no pull failed, and at most 2^28 bytes were taken.
pub record IsRead (before after : Outside) (taken : List ℕ) : Type 0 where
  pub ended : IfSome after.incoming.left (λ bytes. bytes ≡ [])
  pub no_fault : after.incoming.faults ≡ before.incoming.faults
  pub few : length taken ≤ 2 ^ 28

-- Nothing was sent, and no push failed or was refused memory.
abbrev pub SentNothing : Outside → Outside → Type 0
SentNothing before after = after.out ≡ before.out

-- The whole script was served, and all output was sent.
pub record EndsDone (opening : CacheState) (workers : ℕ) (before after : Outside) (taken : List ℕ) : Type 0 where
  pub read : IsRead before after taken
  pub sessions : List Session
  pub script : script_of taken ≡ Ok sessions
  pub outcomes : List Outcome
  pub closing : CacheState
  pub run : HaveRun opening workers before.coming sessions outcomes closing
  pub sent : after.out ≡ sent_more before.out (output_of outcomes)

-- The whole script was served, and a front of the output was sent.
pub record SentFront (opening : CacheState) (workers : ℕ) (before after : Outside) (taken : List ℕ) : Type 0 where
  pub read : IsRead before after taken
  pub sessions : List Session
  pub script : script_of taken ≡ Ok sessions
  pub outcomes : List Outcome
  pub closing : CacheState
  pub run : HaveRun opening workers before.coming sessions outcomes closing
  pub sent : IsSentInPart before.out.sent after.out.sent (output_of outcomes)

-- A push failed, which was counted.
pub record EndsWriteFault (opening : CacheState) (workers : ℕ) (before after : Outside) (taken : List ℕ) : Type 0 where
  pub fault : Rose before.out.faults after.out.faults
  pub same_refusals : after.out.refusals ≡ before.out.refusals
  pub front : SentFront opening workers before after taken

-- A pull failed, which was counted, and nothing was served.
pub record EndsReadFault (before after : Outside) (taken : List ℕ) : Type 0 where
  pub fault : Rose before.incoming.faults after.incoming.faults
  pub few : length taken ≤ 2 ^ 28
  pub sent : SentNothing before after

-- More than 2^28 bytes were taken, and nothing was served.
pub record EndsLong (before after : Outside) (taken : List ℕ) : Type 0 where
  pub long : 2 ^ 28 < length taken
  pub no_fault : after.incoming.faults ≡ before.incoming.faults
  pub sent : SentNothing before after

-- What was read is no script, by this offset, and nothing was served.
pub record EndsBad (offset : ℕ) (before after : Outside) (taken : List ℕ) : Type 0 where
  pub read : IsRead before after taken
  pub bad : script_of taken ≡ Err offset
  pub sent : SentNothing before after

-- Memory was refused before anything was written; or while the output was, of which a front was sent.
pub record EndsWithoutMemory (opening : CacheState) (workers : ℕ) (before after : Outside) (taken : List ℕ) : Type 0 where
  pub few : length taken ≤ 2 ^ 28
  pub no_fault : after.incoming.faults ≡ before.incoming.faults
  pub same_faults : after.out.faults ≡ before.out.faults
  pub sent : SentNothing before after ⊎ SentFront opening workers before after taken

-- How a run ends, and why.
abbrev pub EndsBy : RunEnd → CacheState → (workers : ℕ) → Outside → Outside → List ℕ → Type 0
EndsBy run_end.Done opening workers before after taken = EndsDone opening workers before after taken
EndsBy run_end.ReadFault opening workers before after taken = EndsReadFault before after taken
EndsBy run_end.WriteFault opening workers before after taken = EndsWriteFault opening workers before after taken
EndsBy run_end.LongInput opening workers before after taken = EndsLong before after taken
EndsBy (run_end.BadScript offset) opening workers before after taken = EndsBad offset before after taken
EndsBy run_end.NoMemory opening workers before after taken = EndsWithoutMemory opening workers before after taken

-- THE RUN. From this state, with so many workers, between these two moments of the outside, a script was run to this end.
pub record IsRun (opening : CacheState) (workers : ℕ) (before after : Outside) (ended : RunEnd) : Type 0 where
  -- the bytes that were taken are the next ones that the source had left
  pub taken : List ℕ
  pub took : before.incoming.left ≡ first_then taken after.incoming.left
  pub ends : EndsBy ended opening workers before after taken
  -- each worker has a clock of its own that goes on from here; this one stays
  pub same_clock : after.coming ≡ before.coming

-- COMPLETENESS. Where the source tells that a script of at most 2^28 bytes is left, and no pull and no push failed, it is
-- served whole, or memory was wanted.
abbrev pub IsComplete : Outside → Outside → RunEnd → Type 0
IsComplete before after ended =
    (script : List ℕ) (sessions : List Session) → before.incoming.left ≡ Some script → script_of script ≡ Ok sessions → length script ≤ 2 ^ 28
    → (Rose before.incoming.faults after.incoming.faults → ⊥) → (Rose before.out.faults after.out.faults → ⊥)
    → (ended ≡ run_end.Done) ⊎ (ended ≡ run_end.NoMemory)
