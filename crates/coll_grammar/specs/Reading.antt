-- What is answered to the words of a line that is no key-value command.
use Rattle.std.specs.Prelude.{ℕ, List, [], ◌∷◌, Option, Some, None, Result, Ok, Err}
use Rattle.arc_core.specs.declared.coll_commands.CollName.{CollName}
use Rattle.arc_core.specs.declared.coll_commands.CollHead.{CollHead}
use Rattle.arc_core.specs.CollectionLines.{coll_name_of, coll_row_of}
use Rattle.arc_core.specs.Rows.{row_read}
use Rattle.line_grammar.specs.declared.faults.LineFault.{LineFault}
use Rattle.line_grammar.specs.declared.faults.LineFault.TheVariants.{Unknown, BadFormat}

-- the head of a row that was read, and else the line's format is bad
abbrev pub or_bad_format : Option CollHead → Result CollHead LineFault
or_bad_format None = Err BadFormat
or_bad_format (Some head) = Ok head

-- the answer to the words behind a line's first two, by the command that these name
abbrev pub answer_by : Option CollName → List (List ℕ) → Result CollHead LineFault
answer_by None after = Err Unknown
answer_by (Some name) after = or_bad_format (row_read (coll_row_of name) after)

-- the answer to the words behind a line's first
abbrev pub answer_behind : List ℕ → List (List ℕ) → Result CollHead LineFault
answer_behind first [] = Err Unknown
answer_behind first (second ∷ after) = answer_by (coll_name_of first second) after

-- the answer to a line's words
abbrev pub answer_to : List (List ℕ) → Result CollHead LineFault
answer_to [] = Err Unknown
answer_to (first ∷ after) = answer_behind first after
