use Rattle.std.proofs.Common.{◌≡◌, ◌<◌, ◌≤◌, ◌^◌, take, true}
use Rattle.std.specs.List.{list_all}
use Rattle.std.specs.Char.{is_ascii_digit}
use Rattle.arc_core.specs.Words.{number_of}
use Rattle.arc_core.proofs.numbers.front_number.Given as goal

abbrev pub invariant-loop-byte : goal.invariant-loop-byte
invariant-loop-byte l =
    record {
      len : l.len ≡ l.byte-index;
      few : l.len ≤ 18;
      value : l.number ≡ number_of (take l.byte-index l.text);
      below : l.number < 10 ^ l.byte-index;
      digits : list_all is_ascii_digit (take l.byte-index l.text) ≡ true;
    }
