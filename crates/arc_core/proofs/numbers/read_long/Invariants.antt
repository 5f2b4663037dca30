use Rattle.std.proofs.Common.{◌≡◌, ◌<◌, ◌^◌, take, true}
use Rattle.std.specs.List.{list_all}
use Rattle.std.specs.Char.{is_ascii_digit}
use Rattle.arc_core.specs.Words.{number_of}
use Rattle.arc_core.proofs.numbers.read_long.Given as goal

abbrev pub invariant-loop-digit : goal.invariant-loop-digit
invariant-loop-digit l =
    record {
      value : l.number ≡ number_of (take l.digit-index l.word);
      below : l.number < 10 ^ l.digit-index;
      digits : list_all is_ascii_digit (take l.digit-index l.word) ≡ true;
    }
