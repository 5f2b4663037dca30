use Rattle.std.proofs.Common.{◌≡◌, length, take}
use Rattle.arc_core.specs.Filter.{combination}
use Rattle.eflag_filter.proofs.bits.combined.Given as goal

abbrev pub invariant-loop-i : goal.invariant-loop-i
invariant-loop-i l =
    record {
      written : take l.i l.bytes ≡ combination l.op (take l.i l.part) (take l.i l.operand);
      long : length l.bytes ≡ 31;
    }
