use Rattle.std.proofs.Common.{◌≡◌, ◌+◌, ◌≤◌, length}
use Rattle.std.specs.List.{list_all}
use Rattle.arc_core.specs.HexText.{comma_parts, is_flag_of}
use Rattle.arc_core.proofs.filters.are_values.Given as goal

abbrev pub invariant-loop-part : goal.invariant-loop-part
invariant-loop-part l =
    record {
      counted : l.count + length l.part-iterator ≡ length (comma_parts l.word);
      fits : l.count ≤ 100;
      flags : list_all (is_flag_of (length l.first)) (comma_parts l.word) ≡ list_all (is_flag_of (length l.first)) l.part-iterator;
    }
