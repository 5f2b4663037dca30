use Rattle.std.proofs.Common.{◌≡◌, ◌+◌, length}
use Rattle.arc_core.specs.Words.{are_keys}
use Rattle.arc_core.proofs.word_lists.count_keys.Given as goal

-- the words so far are keys, as many as were counted
abbrev pub invariant-loop-count : goal.invariant-loop-count
invariant-loop-count l =
    record {
      counted : l.count + length l.words ≡ length l.initial.words;
      keys : are_keys l.initial.words ≡ are_keys l.words;
    }
