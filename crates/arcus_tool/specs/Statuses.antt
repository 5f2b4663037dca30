-- The statuses of the program: which number and which line each has, and which stands for the end of a job.
use Rattle.std.specs.Prelude.{ℕ, List, [], ◌++◌, codes, decimal}
use Rattle.arcus_tool.specs.declared.status.Status.{Status}
use Rattle.arcus_tool.specs.declared.status.Status.TheVariants as status
use Rattle.script_runs.specs.declared.run.RunEnd.{RunEnd}
use Rattle.script_runs.specs.declared.run.RunEnd.TheVariants as run_end
use Rattle.serve_runs.specs.declared.serve.ServeEnd.{ServeEnd}
use Rattle.serve_runs.specs.declared.serve.ServeEnd.TheVariants as serve_end

-- the exit status of a status
abbrev pub exit_status : Status → ℕ
exit_status status.Done = 0
exit_status (status.BadWords place) = 2
exit_status status.ReadFault = 3
exit_status status.WriteFault = 4
exit_status status.PortFault = 5
exit_status (status.BadScript offset) = 6
exit_status status.LongInput = 7
exit_status (status.CutInput rest) = 8
exit_status status.LineTooLong = 9
exit_status status.NoMemory = 10

-- the line that tells a status other than Done
abbrev pub status_line : Status → List ℕ
status_line status.Done = []
status_line (status.BadWords place) = codes "arcus: bad words at " ++ decimal place
status_line status.ReadFault = codes "arcus: read fault"
status_line status.WriteFault = codes "arcus: write fault"
status_line status.PortFault = codes "arcus: port fault"
status_line (status.BadScript offset) = codes "arcus: bad script at " ++ decimal offset
status_line status.LongInput = codes "arcus: input too long"
status_line (status.CutInput rest) = codes "arcus: input ends within a unit"
status_line status.LineTooLong = codes "arcus: line too long"
status_line status.NoMemory = codes "arcus: no memory"

-- the status of a script's run that ended so
abbrev pub run_status : RunEnd → Status
run_status run_end.Done = status.Done
run_status run_end.ReadFault = status.ReadFault
run_status run_end.WriteFault = status.WriteFault
run_status run_end.LongInput = status.LongInput
run_status (run_end.BadScript offset) = status.BadScript offset
run_status run_end.NoMemory = status.NoMemory

-- the status of a server that ended so
abbrev pub serve_status : ServeEnd → Status
serve_status serve_end.Done = status.Done
serve_status serve_end.WriteFault = status.WriteFault
serve_status serve_end.PortFault = status.PortFault
serve_status serve_end.NoMemory = status.NoMemory
