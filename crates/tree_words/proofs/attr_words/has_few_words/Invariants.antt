use Rattle.std.proofs.Common.{◌≡◌, ◌+◌, ◌≤◌, length}
use Rattle.arc_core.specs.Words.{words}
use Rattle.tree_words.proofs.attr_words.has_few_words.Given as goal

abbrev pub invariant-loop-word : goal.invariant-loop-word
invariant-loop-word l = record { counted : l.count + length l._word-iterator ≡ length (words l.text); fits : l.count ≤ 16 }
