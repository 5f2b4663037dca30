-- The answer to a run of piped commands. (The texts are those of ARCUS; how a run ends is this server's own.)
use Rattle.std.specs.Prelude.{ℕ, Bool, ◌||◌, List, ◌++◌, length, take, codes, decimal, bytes_eq, Option, Some, None}
use Rattle.std.specs.List.{flat_map}
use Rattle.arc_core.specs.declared.pipes.PipeStatus.{PipeStatus}
use Rattle.arc_core.specs.declared.pipes.PipeStatus.TheVariants as status
use Rattle.arc_core.specs.declared.pipes.PipeFault.{PipeFault}
use Rattle.arc_core.specs.declared.pipes.PipeFault.TheVariants as fault
use Rattle.arc_core.specs.declared.replies.Reply.{Reply}
use Rattle.arc_core.specs.declared.replies.Reply.TheVariants as reply
use Rattle.arc_core.specs.ReplyText.{word_line, line_end}

-- the line of a status
abbrev pub status_text : PipeStatus → List ℕ
status_text (status.Word w) = word_line w
status_text (status.Number n) = decimal n ++ line_end

-- how the answer ends
abbrev pub fault_text : PipeFault → List ℕ
fault_text fault.Nothing = codes "END"
fault_text fault.BadError = codes "PIPE_ERROR bad error"
fault_text fault.Overflow = codes "PIPE_ERROR command overflow"

-- RESPONSE <n>, the line of each of the n statuses, and how the answer ends
abbrev pub pipe_text : List PipeStatus → PipeFault → List ℕ
pipe_text statuses end =
    codes "RESPONSE " ++ decimal (length statuses) ++ line_end ++ flat_map status_text statuses ++ fault_text end ++ line_end

-- the status that a reply is, where it is a word or a number
abbrev pub status_of : Reply → Option PipeStatus
status_of (reply.Word w) = Some (status.Word w)
status_of (reply.Number n) = Some (status.Number n)
status_of (reply.Values rows) = None
status_of (reply.Rows flags rows end) = None

-- whether a status with this line fails its run: the line says that there was an error
abbrev pub fails_run : List ℕ → Bool
fails_run line =
    bytes_eq (take 5 line) (codes "ERROR") || bytes_eq (take 12 line) (codes "CLIENT_ERROR") || bytes_eq (take 12 line) (codes "SERVER_ERROR")
