use Rattle.std.proofs.Common.{◌≡◌, length, nat_le}
use Rattle.std.specs.List.{list_all}
use Rattle.arc_core.proofs.word_lists.are_short.Given as goal

-- the keys so far are short
abbrev pub invariant-loop-key : goal.invariant-loop-key
invariant-loop-key l = record {
  next : (goal.iterator-loop-key).can_next l.key-iterator;
  finite : (goal.iterator-loop-key).is_finite l.key-iterator;
  short : list_all (λ key. nat_le (length key) 250) l.initial.key-iterator ≡ list_all (λ key. nat_le (length key) 250) l.key-iterator;
}
