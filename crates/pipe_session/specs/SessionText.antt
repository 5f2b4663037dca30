-- What a session does with its units, and what it sends.
use Rattle.std.specs.Prelude.{◌≡◌, ◌⊎◌, ℕ, Bool, true, false, not, ◌&&◌, ◌||◌, nat_lt, if◌then◌else◌, List, [], ◌∷◌, ◌++◌, length, take, bytes_eq, codes, Option, Some, None}
use Rattle.std.specs.Option.{option_map_or}
use Rattle.std.specs.List.{list_any}
use Rattle.arc_core.specs.declared.coll_commands.CollCommand.{CollCommand}
use Rattle.arc_core.specs.declared.coll_commands.CollCommand.TheVariants as command
use Rattle.arc_core.specs.declared.coll_commands.CollHead.{CollHead}
use Rattle.arc_core.specs.declared.coll_commands.CollHead.TheVariants as coll_head
use Rattle.arc_core.specs.declared.pipes.PipeFault.{PipeFault}
use Rattle.arc_core.specs.declared.pipes.PipeFault.TheVariants as fault
use Rattle.arc_core.specs.declared.pipes.PipeStatus.{PipeStatus}
use Rattle.arc_core.specs.declared.pipes.PipeStatus.TheVariants as status
use Rattle.arc_core.specs.declared.replies.Word.{Word}
use Rattle.arc_core.specs.declared.replies.Word.TheVariants as word
use Rattle.arc_core.specs.declared.requests.Answer.{Answer}
use Rattle.arc_core.specs.declared.requests.Answer.TheVariants as answer
use Rattle.arc_core.specs.PlainRequest.{PlainAct, PlainRequest}
use Rattle.arc_core.specs.PlainRequest as act
use Rattle.arc_core.specs.Framing.{Whole, line, line_with_block, bad_chunk, too_large, block_no_memory, line_too_long}
use Rattle.arc_core.specs.CollectionLines.{SpellsRequest, IsCollUnknown, IsCollBadFormat, IsBadBlock, IsQuit, coll_head_of, coll_is_quit, coll_is_marked, coll_line_is_silent, coll_request_of}
use Rattle.arc_core.specs.ReplyText.{reply_text, word_line}
use Rattle.arc_core.specs.History.{Entry}
use Rattle.arc_core.specs.Words.{words}
use Rattle.reply_print.specs.PipeText.{fails_run, pipe_text, status_of, status_text}

-- ONE UNIT

-- The unit is this request.
abbrev pub IsRequest : Whole → PlainRequest → Type 0
IsRequest (line text) request = SpellsRequest text [] request
IsRequest (line_with_block text block) request = SpellsRequest text block request
IsRequest (bad_chunk text) request = ⊥
IsRequest (too_large text) request = ⊥
IsRequest (block_no_memory text) request = ⊥
IsRequest line_too_long request = ⊥

-- The session answers the unit by itself, with this word.
abbrev pub AnswersItself : Whole → Word → Type 0
AnswersItself (line text) answer = (IsCollUnknown text × (answer ≡ word.Unknown)) ⊎ (IsCollBadFormat text × (answer ≡ word.BadFormat))
AnswersItself (line_with_block text block) answer = IsBadBlock text block × (answer ≡ word.BadChunk)
AnswersItself (bad_chunk text) answer = answer ≡ word.BadChunk
AnswersItself (too_large text) answer = answer ≡ word.TooLarge
AnswersItself (block_no_memory text) answer = answer ≡ word.NoMemory
AnswersItself line_too_long answer = answer ≡ word.LineTooLong

-- The unit ends the session without an answer.
abbrev pub IsQuitUnit : Whole → Type 0
IsQuitUnit (line text) = IsQuit text
IsQuitUnit (line_with_block text block) = ⊥
IsQuitUnit (bad_chunk text) = ⊥
IsQuitUnit (too_large text) = ⊥
IsQuitUnit (block_no_memory text) = ⊥
IsQuitUnit line_too_long = ⊥

-- what is sent of an answer: all, or nothing where the line says `noreply`
abbrev pub sent_for : List ℕ → List ℕ → List ℕ
sent_for text answer = if coll_line_is_silent text then [] else answer

-- what is sent of the answer to a unit
abbrev pub sent_of : Whole → List ℕ → List ℕ
sent_of (line text) answer = sent_for text answer
sent_of (line_with_block text block) answer = sent_for text answer
sent_of (bad_chunk text) answer = sent_for text answer
sent_of (too_large text) answer = sent_for text answer
sent_of (block_no_memory text) answer = sent_for text answer
sent_of line_too_long answer = answer

-- The unit has this request executed and sends its reply's text.
abbrev pub IsExecuted : Whole → List Entry → List ℕ → Type 0
IsExecuted unit entries text =
    (entry : Entry) × IsRequest unit entry.request × (entries ≡ entry ∷ []) × (text ≡ sent_of unit (reply_text entry.reply))

-- The session answers the unit, and nothing is executed.
abbrev pub IsAnswered : Whole → List Entry → List ℕ → Type 0
IsAnswered unit entries text = (answer : Word) × AnswersItself unit answer × (entries ≡ []) × (text ≡ sent_of unit (word_line answer))

-- The unit ends the session, and nothing is executed or sent.
abbrev pub IsLastWord : Whole → List Entry → List ℕ → Type 0
IsLastWord unit entries text = IsQuitUnit unit × (entries ≡ []) × (text ≡ [])

-- What one unit has executed, and the text that it sends.
abbrev pub TellsUnit : Whole → List Entry → List ℕ → Type 0
TellsUnit unit entries text = IsExecuted unit entries text ⊎ (IsAnswered unit entries text ⊎ IsLastWord unit entries text)

-- RUNS OF PIPED COMMANDS (the ARCUS protocol's command pipelining; how a run ends is this server's own)

-- whether a command may be piped: it changes elements, or asks whether a set has a value
abbrev pub command_may_be_piped : CollCommand → Bool
command_may_be_piped (command.Create kind key args) = false
command_may_be_piped (command.ListGet key range taking) = false
command_may_be_piped (command.SetGet key number taking) = false
command_may_be_piped (command.MapGet key len number taking) = false
command_may_be_piped other = true

-- whether a head is a piped command: one that may be piped, and its line ends with `pipe`
abbrev pub head_is_piped : CollHead → Bool
head_is_piped (coll_head.KeyValue head) = false
head_is_piped (coll_head.Collection asked answer) = coll_is_marked (coll_head.Collection asked answer) && command_may_be_piped asked

-- the last of words of which this one is the first
abbrev pub last_word : List ℕ → List (List ℕ) → List ℕ
last_word word [] = word
last_word word (next ∷ more) = last_word next more

-- whether commands on collections begin with this word
abbrev pub is_collection_word : List ℕ → Bool
is_collection_word word =
    bytes_eq word (codes "lop") || (bytes_eq word (codes "sop") || (bytes_eq word (codes "mop") || bytes_eq word (codes "bop")))

-- whether a line's words have the form of a piped command: the first begins commands on collections, and the last is `pipe`
abbrev pub have_piped_form : List (List ℕ) → Bool
have_piped_form [] = false
have_piped_form (first ∷ more) = is_collection_word first && bytes_eq (last_word first more) (codes "pipe")

-- whether a line is marked as piped: by its head, or where it spells none by its form
abbrev pub line_is_marked : List ℕ → Bool
line_is_marked text = option_map_or head_is_piped (coll_head_of (words text)) (have_piped_form (words text))

-- whether a unit is
abbrev pub is_marked : Whole → Bool
is_marked (line text) = line_is_marked text
is_marked (line_with_block text block) = line_is_marked text
is_marked (bad_chunk text) = line_is_marked text
is_marked (too_large text) = line_is_marked text
is_marked (block_no_memory text) = line_is_marked text
is_marked line_too_long = false

-- whether a request changes elements of a collection, or asks whether a set has a value
abbrev pub act_may_be_piped : PlainAct → Bool
act_may_be_piped (act.on_collection key (act.list_get range taking)) = false
act_may_be_piped (act.on_collection key (act.set_get number taking)) = false
act_may_be_piped (act.on_collection key (act.map_get fields taking)) = false
act_may_be_piped (act.on_collection key other) = true
act_may_be_piped other = false

-- whether the answer is a text of its own
abbrev pub is_plain : Answer → Bool
is_plain answer.Plain = true
is_plain other = false

-- whether a request that is not piped may be a run's last one: it is answered by a text, and might be piped
abbrev pub may_end_a_run : PlainRequest → Bool
may_end_a_run request = is_plain request.answer && act_may_be_piped request.act

-- whether a line with its block belongs to the run in front of it: as such a request, or since the session answers it by
-- itself
abbrev pub line_belongs : Option CollHead → List ℕ → Bool
line_belongs None block = true
line_belongs (Some head) block = not (coll_is_quit head) && option_map_or may_end_a_run (coll_request_of head block) true

-- whether a unit that is not marked belongs to the run in front of it
abbrev pub belongs : Whole → Bool
belongs (line text) = line_belongs (coll_head_of (words text)) []
belongs (line_with_block text block) = line_belongs (coll_head_of (words text)) block
belongs (bad_chunk text) = true
belongs (too_large text) = true
belongs (block_no_memory text) = true
belongs line_too_long = false

-- A group of units that is answered together: a unit by itself; or a run of marked units, with the last one that belongs
-- to it, where one does; or a run at the end of what was read, which is not answered.
pub data Group : Type 0 where
  alone : Whole → Group
  run : List Whole → Option Whole → Group
  cut_off : List Whole → Group

-- the run that is open behind a unit, by the one before it: a marked unit opens a run or goes on with it
abbrev pub opened : List Whole → Whole → List Whole
opened running unit = if is_marked unit then running ++ unit ∷ [] else []

-- the groups that a unit ends which is not marked, by the run that is open before it
abbrev pub ended_unmarked : List Whole → Whole → List Group
ended_unmarked [] unit = alone unit ∷ []
ended_unmarked (first ∷ more) unit = if belongs unit then run (first ∷ more) (Some unit) ∷ [] else run (first ∷ more) None ∷ alone unit ∷ []

-- the groups that a unit ends
abbrev pub ended_by : List Whole → Whole → List Group
ended_by running unit = if is_marked unit then [] else ended_unmarked running unit

-- the run that is open behind units, and the groups that they end, by the run before them
abbrev pub open_behind : List Whole → List Whole → List Whole
open_behind running [] = running
open_behind running (unit ∷ units) = open_behind (opened running unit) units

abbrev pub groups_before : List Whole → List Whole → List Group
groups_before running [] = []
groups_before running (unit ∷ units) = ended_by running unit ++ groups_before (opened running unit) units

-- the group of a run that is open at the end. `closed` says that it is answered
abbrev pub at_end : Bool → List Whole → List Group
at_end closed [] = []
at_end true (first ∷ more) = run (first ∷ more) None ∷ []
at_end false (first ∷ more) = cut_off (first ∷ more) ∷ []

-- the groups of a session's units
abbrev pub groups : Bool → List Whole → List Group
groups closed units = groups_before [] units ++ at_end closed (open_behind [] units)

-- What a unit of a run has executed, and its status: that of its reply, or the word with which the session answers it. It
-- has one even where its line says `noreply`.
abbrev pub HasStatus : Whole → List Entry → PipeStatus → Type 0
HasStatus unit entries told =
    ((entry : Entry) × IsRequest unit entry.request × (entries ≡ entry ∷ []) × (status_of entry.reply ≡ Some told))
    ⊎ ((answer : Word) × AnswersItself unit answer × (entries ≡ []) × (told ≡ status.Word answer))

-- whether a status fails its run
abbrev pub fails : PipeStatus → Bool
fails told = fails_run (status_text told)

-- What units have executed, one after another up to the first whose status fails the run, and their statuses.
abbrev pub HaveStatuses : List Whole → List Entry → List PipeStatus → Type 0
HaveStatuses [] entries statuses = (entries ≡ []) × (statuses ≡ [])
HaveStatuses (unit ∷ units) entries statuses =
    (own : List Entry) × (others : List Entry) × (told : PipeStatus) × (rest : List PipeStatus)
    × (entries ≡ own ++ others) × (statuses ≡ told ∷ rest) × HasStatus unit own told
    × (((fails told ≡ true) × (others ≡ []) × (rest ≡ [])) ⊎ ((fails told ≡ false) × HaveStatuses units others rest))

-- why a run of so many units was not executed to its end. `ended` says that its last unit belongs to it and is not marked
abbrev pub fault_of : List PipeStatus → ℕ → Bool → PipeFault
fault_of statuses number ended =
    if list_any fails statuses then fault.BadError
    else if nat_lt 500 number then fault.Overflow
    else if ended then fault.Nothing
    else fault.BadError

-- What a run has executed, and its text. The first 500 of its units have statuses.
abbrev pub TellsRun : List Whole → Bool → List Entry → List ℕ → Type 0
TellsRun units ended entries text =
    (statuses : List PipeStatus) × HaveStatuses (take 500 units) entries statuses
    × (text ≡ pipe_text statuses (fault_of statuses (length units) ended))

-- What a run that is not answered has executed.
abbrev pub TellsCutOff : List Whole → List Entry → List ℕ → Type 0
TellsCutOff units entries text = (statuses : List PipeStatus) × HaveStatuses (take 500 units) entries statuses × (text ≡ [])

-- THE SESSION

-- What one group has executed, and its text.
abbrev pub TellsGroup : Group → List Entry → List ℕ → Type 0
TellsGroup (alone unit) entries text = TellsUnit unit entries text
TellsGroup (run marked (Some last)) entries text = TellsRun (marked ++ last ∷ []) true entries text
TellsGroup (run marked None) entries text = TellsRun marked false entries text
TellsGroup (cut_off marked) entries text = TellsCutOff marked entries text

-- What groups have executed, one after another, and their text.
abbrev pub TellsGroups : List Group → List Entry → List ℕ → Type 0
TellsGroups [] entries text = (entries ≡ []) × (text ≡ [])
TellsGroups (group ∷ more) entries text =
    (own : List Entry) × (others : List Entry) × (first : List ℕ) × (rest : List ℕ)
    × (entries ≡ own ++ others) × (text ≡ first ++ rest) × TellsGroup group own first × TellsGroups more others rest

-- These entries are what the units have executed, in their order, and this is the session's text.
abbrev pub Tells : Bool → List Whole → List Entry → List ℕ → Type 0
Tells closed units entries text = TellsGroups (groups closed units) entries text
