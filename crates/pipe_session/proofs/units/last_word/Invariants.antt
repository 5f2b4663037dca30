use Rattle.std.proofs.Common.{◌≡◌}
use Rattle.pipe_session.specs.SessionText.{last_word}
use Rattle.pipe_session.proofs.units.last_word.Given as goal

-- the last of the words that are left is that of all
abbrev pub invariant-loop-word : goal.invariant-loop-word
invariant-loop-word l = last_word l.last l.word-iterator ≡ last_word l.fn.first l.fn.words
