-- How the units of a session are handled, one after another. For the functions within: no public clause cites it.
use Rattle.std.specs.Prelude.{◌≡◌, ◌⊎◌, ℕ, Bool, true, false, ◌<◌, ◌≤◌, if◌then◌else◌, List, [], ◌∷◌, ◌++◌, length, take, Option, Some, None}
use Rattle.arc_core.specs.declared.outside.Need.TheVariants as need
use Rattle.arc_core.specs.declared.pipes.PipeStatus.{PipeStatus}
use Rattle.arc_core.specs.declared.pipes.PipeStatus.TheVariants as status
use Rattle.arc_core.specs.declared.replies.Reply.{Reply}
use Rattle.arc_core.specs.declared.replies.Word.{Word}
use Rattle.arc_core.specs.declared.replies.Word.TheVariants as word
use Rattle.arc_core.specs.declared.coll_commands.CollHead.{CollHead}
use Rattle.arc_core.specs.Framing.{Whole, IsSpan, line_too_long}
use Rattle.arc_core.specs.CollectionLines.{SpellsRequest, IsCollUnknown, IsCollBadFormat, IsBadBlock, IsQuit, coll_head_of, coll_line_needs, coll_answer, coll_request_of}
use Rattle.arc_core.specs.Grammar.{is_silent}
use Rattle.arc_core.specs.History.{Entry}
use Rattle.arc_core.specs.Outside.{Ticks}
use Rattle.arc_core.specs.PlainRequest.{PlainRequest}
use Rattle.arc_core.specs.ReplyText.{reply_text, word_line}
use Rattle.arc_core.specs.Words.{words}
use Rattle.reply_print.specs.PipeText.{status_of}
use Rattle.frame_reader.specs.Progress.{Progress, StandsFor}
use Rattle.pipe_session.specs.declared.phase.Phase.{Phase}
use Rattle.pipe_session.specs.declared.phase.Phase.TheVariants as phase
use Rattle.pipe_session.specs.Desks.{Serves, TicksThrough}
use Rattle.pipe_session.specs.Runs.{Kept, TakesOne, answer_of, broken_answer_of, no_run}
use Rattle.pipe_session.specs.SessionText.{HasStatus, TellsUnit, IsQuitUnit, belongs, head_is_piped, is_marked, line_belongs, line_is_marked, sent_for}

-- Where the handling of units stands: the desk, the seconds to come, the text that is owed, and what is kept of the run of
-- piped commands that is open.
pub record Stand (D : Type 0) : Type 0 where
  pub desk : D
  pub coming : Option (List ℕ)
  pub owed : List ℕ
  pub run : Kept

abbrev pub stand : {D : Type 0} → D → Option (List ℕ) → List ℕ → Kept → Stand D
stand desk coming owed run = record { desk = desk; coming = coming; owed = owed; run = run }

-- Between the two stands these requests were executed, each at a second of the clock, and this text was answered.
pub record Executed {D : Type 0} (answers : D → Entry → D → Type 0) (from to : Stand D) (entries : List Entry) (text : List ℕ) : Type 0 where
  pub served : Serves answers from.desk entries to.desk
  pub seconds : TicksThrough from.coming entries to.coming
  pub owed : to.owed ≡ from.owed ++ text

-- One request was executed, at the clock's second.
abbrev pub ExecutesOne : {D : Type 0} → (D → Entry → D → Type 0) → D → Option (List ℕ) → PlainRequest → Reply → D → Option (List ℕ) → Type 0
ExecutesOne answers from coming request reply to coming' =
    (entry : Entry) × (entry.request ≡ request) × (entry.reply ≡ reply) × answers from entry to × Ticks coming entry.second coming'

-- What is to be told of a unit, of its line, or of its head: whether it is marked as piped; whether it belongs to a run in
-- front of it; which requests it has executed, with its status in a run; and which with its text.
pub record Facts : Type 1 where
  pub marked : Bool
  pub belongs : Bool
  pub Status : List Entry → PipeStatus → Type 0
  pub Told : List Entry → List ℕ → Type 0

-- It was told by itself.
abbrev pub IsToldAlone : {D : Type 0} → (D → Entry → D → Type 0) → (List Entry → List ℕ → Type 0) → Stand D → Stand D → Type 0
IsToldAlone answers Told from to = (entries : List Entry) × (text : List ℕ) × Told entries text × Executed answers from to entries text

-- It goes on with the run that is open, or opens one: nothing is answered.
abbrev pub GoesOnInRun : {D : Type 0} → (D → Entry → D → Type 0) → (List Entry → PipeStatus → Type 0) → Stand D → Stand D → Type 0
GoesOnInRun answers Status from to = (entries : List Entry) × TakesOne Status from.run to.run entries × Executed answers from to entries []

-- It is the last one of the run that is open, which is answered.
abbrev pub EndsRun : {D : Type 0} → (D → Entry → D → Type 0) → (List Entry → PipeStatus → Type 0) → Stand D → Stand D → Type 0
EndsRun answers Status from to =
    (entries : List Entry) × (kept : Kept) × TakesOne Status from.run kept entries × Executed answers from to entries (answer_of kept) × (to.run ≡ no_run)

-- It breaks off the run that is open, which is answered, and is told behind it.
abbrev pub BreaksRun : {D : Type 0} → (D → Entry → D → Type 0) → (List Entry → List ℕ → Type 0) → Stand D → Stand D → Type 0
BreaksRun answers Told from to =
    (entries : List Entry) × (text : List ℕ) × Told entries text × Executed answers from to entries (broken_answer_of from.run ++ text) × (to.run ≡ no_run)

-- It was told behind a run that is open.
abbrev pub IsToldBehindRun : {D : Type 0} → (D → Entry → D → Type 0) → Facts → Stand D → Stand D → Type 0
IsToldBehindRun answers facts from to =
    ((facts.belongs ≡ true) × EndsRun answers facts.Status from to) ⊎ ((facts.belongs ≡ false) × BreaksRun answers facts.Told from to)

-- What was to be told was told: in a run, behind one, or by itself.
abbrev pub IsTold : {D : Type 0} → (D → Entry → D → Type 0) → Facts → Stand D → Stand D → Type 0
IsTold answers facts from to =
    ((facts.marked ≡ true) × GoesOnInRun answers facts.Status from to)
    ⊎ ((facts.marked ≡ false)
    × (((from.run.is_open ≡ true) × IsToldBehindRun answers facts from to)
    ⊎ ((from.run.is_open ≡ false) × IsToldAlone answers facts.Told from to × (to.run ≡ from.run))))

-- what is sent of an answer to this head
abbrev pub heard : CollHead → List ℕ → List ℕ
heard head answer = if is_silent (coll_answer head) then [] else answer

-- What a head with its block tells: its request is executed; or there is none, and the block is answered as bad.
abbrev pub TellsHead : CollHead → List ℕ → List Entry → List ℕ → Type 0
TellsHead head block entries text =
    ((entry : Entry) × (coll_request_of head block ≡ Some entry.request) × (entries ≡ entry ∷ []) × (text ≡ heard head (reply_text entry.reply)))
    ⊎ ((coll_request_of head block ≡ None) × (entries ≡ []) × (text ≡ heard head (word_line word.BadChunk)))

-- What a head with its block has executed in a run, and its status.
abbrev pub HeadStatus : CollHead → List ℕ → List Entry → PipeStatus → Type 0
HeadStatus head block entries told =
    ((entry : Entry) × (coll_request_of head block ≡ Some entry.request) × (entries ≡ entry ∷ []) × (status_of entry.reply ≡ Some told))
    ⊎ ((coll_request_of head block ≡ None) × (entries ≡ []) × (told ≡ status.Word word.BadChunk))

-- This request was executed in a run, with this status.
abbrev pub RequestStatus : PlainRequest → List Entry → PipeStatus → Type 0
RequestStatus request entries told = (entry : Entry) × (entry.request ≡ request) × (entries ≡ entry ∷ []) × (status_of entry.reply ≡ Some told)

-- Nothing was executed in a run, and the status is this word.
abbrev pub WordStatus : Word → List Entry → PipeStatus → Type 0
WordStatus answer entries told = (entries ≡ []) × (told ≡ status.Word answer)

-- what is to be told of a head with its block
abbrev pub head_facts : CollHead → List ℕ → Facts
head_facts head block = record {
  marked = head_is_piped head;
  belongs = line_belongs (Some head) block;
  Status = HeadStatus head block;
  Told = TellsHead head block;
}

-- what is to be told where the session answers with a word: it may be marked, and its line may ask for silence
abbrev pub word_facts : (marked silent : Bool) → Word → Facts
word_facts marked silent answer = record {
  marked = marked;
  belongs = true;
  Status = WordStatus answer;
  Told = λ entries text. (entries ≡ []) × (text ≡ (if silent then [] else word_line answer));
}

-- The session answers the line with its block by itself, with this word.
abbrev pub AnswersLine : List ℕ → List ℕ → Word → Type 0
AnswersLine line block answer =
    ((coll_line_needs line ≡ need.Nothing) × ((IsCollUnknown line × (answer ≡ word.Unknown)) ⊎ (IsCollBadFormat line × (answer ≡ word.BadFormat))))
    ⊎ ((len : ℕ) × (limit : ℕ) × (coll_line_needs line ≡ need.Block len limit) × IsBadBlock line block × (answer ≡ word.BadChunk))

-- The line asks for no block, and ends the session.
pub record QuitsByLine (line : List ℕ) : Type 0 where
  pub is_quit : IsQuit line
  pub asks_nothing : coll_line_needs line ≡ need.Nothing

-- What a line with its block tells: its request is executed; or the session answers it; or it ends the session.
abbrev pub TellsLine : List ℕ → List ℕ → List Entry → List ℕ → Type 0
TellsLine line block entries text =
    ((entry : Entry) × SpellsRequest line block entry.request × (entries ≡ entry ∷ []) × (text ≡ sent_for line (reply_text entry.reply)))
    ⊎ (((answer : Word) × AnswersLine line block answer × (entries ≡ []) × (text ≡ sent_for line (word_line answer)))
    ⊎ (QuitsByLine line × (entries ≡ []) × (text ≡ [])))

-- What a line with its block has executed in a run, and its status.
abbrev pub LineStatus : List ℕ → List ℕ → List Entry → PipeStatus → Type 0
LineStatus line block entries told =
    ((entry : Entry) × SpellsRequest line block entry.request × (entries ≡ entry ∷ []) × (status_of entry.reply ≡ Some told))
    ⊎ ((answer : Word) × AnswersLine line block answer × (entries ≡ []) × (told ≡ status.Word answer))

-- what is to be told of a line with its block
abbrev pub line_facts : List ℕ → List ℕ → Facts
line_facts line block = record {
  marked = line_is_marked line;
  belongs = line_belongs (coll_head_of (words line)) block;
  Status = LineStatus line block;
  Told = TellsLine line block;
}

-- what is to be told of a unit
abbrev pub unit_facts : Whole → Facts
unit_facts unit = record { marked = is_marked unit; belongs = belongs unit; Status = HasStatus unit; Told = TellsUnit unit }

-- What was to be told was told, and the session goes on exactly where it was neither `quit` nor a line that is too long.
abbrev pub Handles : {D : Type 0} → (D → Entry → D → Type 0) → Facts → (Quits Long : Type 0) → Stand D → Stand D → Phase → Type 0
Handles answers facts Quits Long from to phase.Going = IsTold answers facts from to × (Quits → ⊥) × (Long → ⊥)
Handles answers facts Quits Long from to phase.Quit = IsTold answers facts from to × Quits × (to.run.is_open ≡ false)
Handles answers facts Quits Long from to phase.LineTooLong = IsTold answers facts from to × Long × (to.run.is_open ≡ false)
Handles answers facts Quits Long from to other = ⊥

-- A line with its block was handled so.
abbrev pub HandlesLine : {D : Type 0} → (D → Entry → D → Type 0) → List ℕ → List ℕ → Stand D → Stand D → Phase → Type 0
HandlesLine answers line block from to behind = Handles answers (line_facts line block) (QuitsByLine line) ⊥ from to behind

-- A unit was handled so.
abbrev pub HandlesUnit : {D : Type 0} → (D → Entry → D → Type 0) → Whole → Stand D → Stand D → Phase → Type 0
HandlesUnit answers unit from to behind = Handles answers (unit_facts unit) (IsQuitUnit unit) (unit ≡ line_too_long) from to behind

-- The line asks for no block and there is none, or it asks for one of this length, within its limit.
abbrev pub HasItsBlock : List ℕ → List ℕ → Type 0
HasItsBlock line block =
    ((coll_line_needs line ≡ need.Nothing) × (block ≡ []))
    ⊎ ((len : ℕ) × (limit : ℕ) × (coll_line_needs line ≡ need.Block len limit) × (length block ≡ len) × (len ≤ limit))

-- A unit is the front of the piece, so many bytes of it, and was handled; the session goes on behind it.
abbrev pub HandlesFront : {D : Type 0} → (D → Entry → D → Type 0) → List ℕ → Stand D → Stand D → ℕ → Type 0
HandlesFront answers piece from to count =
    (unit : Whole) × (0 < count) × (count ≤ length piece) × IsSpan coll_line_needs (take count piece) unit × HandlesUnit answers unit from to phase.Going

-- The unit at the front of the piece was handled, or nothing was done.
abbrev pub TakesFront : {D : Type 0} → (D → Entry → D → Type 0) → List ℕ → Stand D → Stand D → Option ℕ → Type 0
TakesFront answers piece from to (Some count) = HandlesFront answers piece from to count
TakesFront answers piece from to None = to ≡ from

-- The reader went on by all bytes of the piece, and no unit got whole by them: nothing was done.
pub record FeedsAll {D : Type 0} (from to : Stand D) (progress progress' : Progress) (piece : List ℕ) : Type 0 where
  pub same : to ≡ from
  pub feeds : (tail : List ℕ) → StandsFor coll_line_needs progress tail → StandsFor coll_line_needs progress' (tail ++ piece)

-- With what the reader had, the first bytes of the piece, so many of them, are a unit, which was handled so.
abbrev pub HandlesNext : {D : Type 0} → (D → Entry → D → Type 0) → Stand D → Stand D → Progress → Progress → List ℕ → ℕ → Phase → Type 0
HandlesNext answers from to progress progress' piece count behind =
    (tail : List ℕ) → StandsFor coll_line_needs progress tail
    → (unit : Whole) × IsSpan coll_line_needs (tail ++ take count piece) unit × HandlesUnit answers unit from to behind
    × (behind ≡ phase.Going → StandsFor coll_line_needs progress' [])

-- The next unit was handled, or all bytes of the piece were fed to the reader.
abbrev pub TakesNext : {D : Type 0} → (D → Entry → D → Type 0) → Stand D → Stand D → Progress → Progress → List ℕ → ℕ → Option Phase → Type 0
TakesNext answers from to progress progress' piece count (Some behind) = HandlesNext answers from to progress progress' piece count behind
TakesNext answers from to progress progress' piece count None = FeedsAll from to progress progress' piece × (count ≡ length piece)
