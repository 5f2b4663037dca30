use Rattle.std.proofs.Common.{◌≡◌}
use Rattle.std.specs.Prelude.{bytes_eq}
use Rattle.std.specs.List.{list_any}
use Rattle.eflag_filter.proofs.filter.is_among.Given as goal

abbrev pub invariant-loop-value : goal.invariant-loop-value
invariant-loop-value l = list_any (λ value. bytes_eq l.bytes value) l.values ≡ list_any (λ value. bytes_eq l.bytes value) l.value-iterator
