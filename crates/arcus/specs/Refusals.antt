-- How the program ends where its words cannot be had.
use Rattle.std.specs.declared.io.ErrorKind.{ErrorKind}
use Rattle.std.specs.declared.io.ErrorKind.TheVariants.{OutOfMemory}
use Rattle.arcus_tool.specs.declared.status.Status.{Status}
use Rattle.arcus_tool.specs.declared.status.Status.TheVariants as status

-- memory for the words was refused; or a word is no text
abbrev pub refusal_of : ErrorKind → Status
refusal_of OutOfMemory = status.NoMemory
refusal_of _ = status.BadWords 0
