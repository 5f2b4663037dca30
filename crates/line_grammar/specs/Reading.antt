-- What is answered to the words of a line.
use Rattle.std.specs.Prelude.{ℕ, List, [], ◌∷◌, Option, Some, None, Result, Ok, Err}
use Rattle.arc_core.specs.declared.commands.CommandName.{CommandName}
use Rattle.arc_core.specs.declared.commands.Head.{Head}
use Rattle.arc_core.specs.Rows.{row_read}
use Rattle.arc_core.specs.Grammar.{command_of, row_of}
use Rattle.line_grammar.specs.declared.faults.LineFault.{LineFault}
use Rattle.line_grammar.specs.declared.faults.LineFault.TheVariants.{Unknown, BadFormat}

-- the head of a row that was read, and else the line's format is bad
abbrev pub or_bad_format : Option Head → Result Head LineFault
or_bad_format None = Err BadFormat
or_bad_format (Some head) = Ok head

-- the answer to the words behind a line's first word, by the command that the first word names
abbrev pub answer_by : Option CommandName → List (List ℕ) → Result Head LineFault
answer_by None after = Err Unknown
answer_by (Some name) after = or_bad_format (row_read (row_of name) after)

-- the answer to a line's words
abbrev pub answer_to : List (List ℕ) → Result Head LineFault
answer_to [] = Err Unknown
answer_to (first ∷ after) = answer_by (command_of first) after
