use Rattle.std.proofs.Common.{◌+◌, sym, ◌∙◌, arith, eqb-true}
use Rattle.arc_core.proofs.NumberFrontLemmas.{number_read-none, number_read, number_not_read}
use Rattle.arc_core.proofs.word_lists.first_number.Goals as goal

pub returns-in_err-first_other-clause-read : goal.returns-in_err-first_other-clause-read
returns-in_err-first_other-clause-read c =
    rw c.from_residual.ensures (number_read-none c.args.text.now (c.args.most + 1) (sym c.first_other.ensures ∙ c.in_err-first_other.was))

pub returns-then-number-most-clause-read : goal.returns-then-number-most-clause-read
returns-then-number-most-clause-read c =
    number_read c.args.text.now _ _ _ c.in_ok-first_other.field-0 _ (c.args.most + 1)
    (record {
      at = sym c.first_other.ensures ∙ c.in_ok-first_other.was;
      left_is = c.split_at.ensures.back;
      within = c.front_number-number.ensures.within;
      few = c.front_number-number.ensures.few;
      digits = c.front_number-number.ensures.digits;
      behind_is = c.split_at-2.ensures.back;
    })
    (eqb-true _ _ (sym c.ends_word.ensures ∙ c.if-ends_word.true)) c.front_number-number.ensures.value (omega (arith, c.if-number-most.true))

pub returns-else-number-most-clause-read : goal.returns-else-number-most-clause-read
returns-else-number-most-clause-read c =
    number_not_read c.args.text.now _ _ _ c.in_ok-first_other.field-0 _ (c.args.most + 1)
    (record {
      at = sym c.first_other.ensures ∙ c.in_ok-first_other.was;
      left_is = c.split_at.ensures.back;
      within = c.front_number-number.ensures.within;
      few = c.front_number-number.ensures.few;
      digits = c.front_number-number.ensures.digits;
      behind_is = c.split_at-2.ensures.back;
    })
    (eqb-true _ _ (sym c.ends_word.ensures ∙ c.if-ends_word.true)) c.front_number-number.ensures.value (omega (arith, c.if-number-most.false))
