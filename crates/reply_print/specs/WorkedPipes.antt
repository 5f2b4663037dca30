-- Worked examples that compute.
use Rattle.std.specs.Prelude.{◌≡◌, ℕ, List, [], ◌∷◌, ◌++◌, codes, refl, true, false}
use Rattle.std.specs.List.{flat_map}
use Rattle.std.specs.Fmt.{digits}
use Rattle.arc_core.specs.declared.pipes.PipeStatus.TheVariants as status
use Rattle.arc_core.specs.declared.pipes.PipeFault.TheVariants as fault
use Rattle.arc_core.specs.declared.replies.Word.TheVariants as word
use Rattle.arc_core.specs.ReplyText.{word_line, line_end}
use Rattle.reply_print.specs.PipeText.{pipe_text, status_text, fails_run}

-- these texts, each as a line
abbrev lines : List (List ℕ) → List ℕ
lines texts = flat_map (λ text. text ++ line_end) texts

-- two commands, and both were executed
two_statuses : pipe_text (status.Word word.Stored ∷ status.Number 20 ∷ []) fault.Nothing
    ≡ lines (codes "RESPONSE 2" ∷ codes "STORED" ∷ codes "20" ∷ codes "END" ∷ [])
unfolding digits
two_statuses = refl

-- a run that was broken off behind its first command
broken_off : pipe_text (status.Word word.Stored ∷ []) fault.BadError
    ≡ lines (codes "RESPONSE 1" ∷ codes "STORED" ∷ codes "PIPE_ERROR bad error" ∷ [])
unfolding digits
broken_off = refl

-- the status that fails a run is counted
failed_at_the_second : pipe_text (status.Word word.Stored ∷ status.Word word.BadFormat ∷ []) fault.BadError
    ≡ lines (codes "RESPONSE 2" ∷ codes "STORED" ∷ codes "CLIENT_ERROR bad command line format" ∷ codes "PIPE_ERROR bad error" ∷ [])
unfolding digits
failed_at_the_second = refl

-- no status
no_statuses : pipe_text [] fault.Overflow ≡ lines (codes "RESPONSE 0" ∷ codes "PIPE_ERROR command overflow" ∷ [])
unfolding digits
no_statuses = refl

-- errors of the three kinds
unknown_fails : fails_run (word_line word.Unknown) ≡ true
unknown_fails = refl

bad_chunk_fails : fails_run (word_line word.BadChunk) ≡ true
bad_chunk_fails = refl

out_of_memory_fails : fails_run (word_line word.OutOfMemory) ≡ true
out_of_memory_fails = refl

-- a refusal by what is held is no error, nor is a number, nor a line that is too short to tell
overflowed_stands : fails_run (word_line word.Overflowed) ≡ false
overflowed_stands = refl

number_stands : fails_run (status_text (status.Number 7)) ≡ false
unfolding digits
number_stands = refl

short_line_stands : fails_run (codes "ERRO") ≡ false
short_line_stands = refl
