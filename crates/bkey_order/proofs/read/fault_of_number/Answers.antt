use Rattle.std.proofs.Common.{sym, arith}
use Rattle.std.proofs.lemmas.Bool.{eqb-false}
use Rattle.bkey_order.proofs.NumberLemmas.{too_big}
use Rattle.bkey_order.proofs.read.fault_of_number.Goals as goal

pub returns-else-word-gt-MAX_DIGITS : goal.returns-else-word-gt-MAX_DIGITS
returns-else-word-gt-MAX_DIGITS c =
    too_big c.args.word.now (eqb-false _ _ (sym c.if-is_empty.ensures)) (λ more. omega (arith, c.if-word-gt-MAX_DIGITS.false, more)) (sym c.in_default.ensures) c.requires
