use Rattle.std.proofs.Common.{◌<◌, ℕ}
use Rattle.byte_account.specs.Numbers.{name_hash, nth_number}
use Rattle.byte_account.proofs.NumberLemmas.{IsElsewhere}
use Rattle.byte_account.proofs.numbers.find.Given as goal

-- the numbers that were tried have no place, or another name's
abbrev pub invariant-loop-k : goal.invariant-loop-k
invariant-loop-k g l = (j : ℕ) → j < l.k → IsElsewhere (λ named. named.name.items) (λ named. named.place) l.name l.table.entries (nth_number (name_hash l.name) j)
