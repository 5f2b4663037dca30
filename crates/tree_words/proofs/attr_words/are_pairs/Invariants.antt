use Rattle.std.proofs.Common.{◌≡◌, ◌+◌, ◌≤◌, length}
use Rattle.std.specs.List.{list_all}
use Rattle.arc_core.specs.Words.{words}
use Rattle.tree_words.specs.AttrTexts.{is_pair}
use Rattle.tree_words.proofs.attr_words.are_pairs.Given as goal

abbrev pub invariant-loop-word : goal.invariant-loop-word
invariant-loop-word l =
    record {
      counted : l.count + length l.word-iterator ≡ length (words l.text);
      fits : l.count ≤ 16;
      pairs : list_all is_pair (words l.text) ≡ list_all is_pair l.word-iterator;
    }
