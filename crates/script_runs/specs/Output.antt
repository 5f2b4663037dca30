-- What is written of the sessions of a script.
use Rattle.std.specs.Prelude.{ℕ, ◌+◌, List, [], ◌∷◌, ◌++◌, length, codes, decimal}
use Rattle.arc_core.specs.declared.ends.End.{End}
use Rattle.arc_core.specs.declared.ends.End.TheVariants as end

-- What came of a session: how it ended, and the bytes that were sent to it.
pub record Outcome : Type 0 where
  pub ended : End
  pub sent : List ℕ

abbrev pub outcome : End → List ℕ → Outcome
outcome ended sent = record { ended = ended; sent = sent }

-- the word of an end
abbrev pub word_of : End → List ℕ
word_of end.Ended = codes "ended"
word_of end.Quit = codes "quit"
word_of (end.Cut rest) = codes "cut"
word_of end.LineTooLong = codes "line-too-long"
word_of end.NoMemory = codes "no-memory"
-- a session of a script ends in none of these ways
word_of end.LongInput = []
word_of end.ReadFault = []
word_of end.WriteFault = []
word_of end.Crowded = []

-- The end has a word.
abbrev pub HasWord : End → Type 0
HasWord end.LongInput = ⊥
HasWord end.ReadFault = ⊥
HasWord end.WriteFault = ⊥
HasWord end.Crowded = ⊥
HasWord other = Unit {0}

-- the line before a session's bytes: its number, the word of its end, and how many bytes were sent
abbrev pub header : ℕ → Outcome → List ℕ
header number outcome =
    codes "session " ++ (decimal number ++ (32 ∷ word_of outcome.ended ++ (32 ∷ decimal (length outcome.sent) ++ 10 ∷ [])))

-- the record of a session: this line, the bytes that were sent, and a line feed
abbrev pub outcome_record : ℕ → Outcome → List ℕ
outcome_record number outcome = header number outcome ++ (outcome.sent ++ 10 ∷ [])

-- the records of sessions, in order, from this number on
abbrev pub records_from : ℕ → List Outcome → List ℕ
records_from number [] = []
records_from number (outcome ∷ outcomes) = outcome_record number outcome ++ records_from (number + 1) outcomes

-- THE OUTPUT. The records of all sessions of a script, in its order.
abbrev pub output_of : List Outcome → List ℕ
output_of outcomes = records_from 0 outcomes
