use Rattle.std.proofs.Common.{sym, ◌∙◌, ap, eqb-true}
use Rattle.std.specs.Option.{ok_or}
use Rattle.std.specs.Result.{result_err}
use Rattle.std.proofs.lemmas.Bool.{eqb-false}
use Rattle.bkey_order.specs.declared.faults.BkeyFault.TheVariants.{TooLong}
use Rattle.bkey_order.proofs.DigitLemmas.{short_bytes-empty, short_bytes-bad, short_bytes-odd, even_digits}
use Rattle.bkey_order.proofs.read.read_bytes.Goals as goal

pub returns-then-is_empty-clause-value : goal.returns-then-is_empty-clause-value
returns-then-is_empty-clause-value c = sym (short_bytes-empty c.args.digits.now (eqb-true _ _ (sym c.if-is_empty.ensures)))

pub returns-in-Some-clause-value : goal.returns-in-Some-clause-value
returns-in-Some-clause-value c = sym (short_bytes-bad c.args.digits.now c.in-Some.place (sym c.in-Some.ensures))

pub returns-then-digits-eq1-clause-value : goal.returns-then-digits-eq1-clause-value
returns-then-digits-eq1-clause-value c = sym (short_bytes-odd c.args.digits.now c.if-digits-eq1.true)

pub returns-clause-fault : goal.returns-clause-fault
returns-clause-fault c =
    ap result_err c.ok_or.ensures.value ∙ ap (λ bytes. result_err (ok_or bytes TooLong)) c.from_hex.ensures
    ∙ even_digits c.args.digits.now (eqb-false _ _ (sym c.if-is_empty.ensures)) (sym c.in_default.ensures) c.if-digits-eq1.false
