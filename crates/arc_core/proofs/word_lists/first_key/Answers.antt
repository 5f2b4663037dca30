use Rattle.std.proofs.Common.{sym, ◌∙◌, arith, eqb-true}
use Rattle.std.proofs.lemmas.Bool.{eqb-false}
use Rattle.arc_core.proofs.KeyFrontLemmas.{split_from, len_fits, split_read, split_too_long, split_bad, key_read-none}
use Rattle.arc_core.proofs.word_lists.first_key.Goals as goal
use Rattle.arc_core.proofs.word_lists.first_key.Goals.{else-len-le-MAX_KEY_BYTES-via-then-len-le-MAX_KEY_BYTES+else-ends_word, else-len-le-MAX_KEY_BYTES-via-else-len-le-MAX_KEY_BYTES}

pub returns-in_err-first_other : goal.returns-in_err-first_other
returns-in_err-first_other c = rw c.from_residual.ensures (key_read-none c.args.text.now (sym c.first_other.ensures ∙ c.in_err-first_other.was))

pub split_at-requires-2 : goal.split_at-requires-2
split_at-requires-2 c = len_fits c.split_at.result.1.now c.key_len-len.result c.key_len-len.ensures

pub of-requires : goal.of-requires
of-requires c = (split_read _ _ _ _ _ (split_from c.first_other.ensures c.in_ok-first_other.was c.split_at.ensures.back c.key_len-len.ensures c.split_at-2.ensures.front c.split_at-2.ensures.back) c.if-len-le-MAX_KEY_BYTES.true (eqb-true _ _ (sym c.ends_word.ensures ∙ c.if-ends_word.true))).0

pub returns-then-ends_word : goal.returns-then-ends_word
returns-then-ends_word c =
    rw c.of.ensures (split_read _ _ _ _ _ (split_from c.first_other.ensures c.in_ok-first_other.was c.split_at.ensures.back c.key_len-len.ensures c.split_at-2.ensures.front c.split_at-2.ensures.back) c.if-len-le-MAX_KEY_BYTES.true (eqb-true _ _ (sym c.ends_word.ensures ∙ c.if-ends_word.true))).1

pub returns-else-len-le-MAX_KEY_BYTES : goal.returns-else-len-le-MAX_KEY_BYTES
returns-else-len-le-MAX_KEY_BYTES c = elim c.else-len-le-MAX_KEY_BYTES.branch [
  | else-len-le-MAX_KEY_BYTES-via-then-len-le-MAX_KEY_BYTES+else-ends_word w ↦ split_bad _ _ _ _ _ (split_from c.first_other.ensures c.in_ok-first_other.was c.split_at.ensures.back c.key_len-len.ensures c.split_at-2.ensures.front c.split_at-2.ensures.back) (omega (arith, eqb-false _ _ (sym w.ends_word.ensures ∙ w.if-ends_word.false)))
  | else-len-le-MAX_KEY_BYTES-via-else-len-le-MAX_KEY_BYTES w ↦ split_too_long _ _ _ _ _ (split_from c.first_other.ensures c.in_ok-first_other.was c.split_at.ensures.back c.key_len-len.ensures c.split_at-2.ensures.front c.split_at-2.ensures.back) (omega (arith, w.if-len-le-MAX_KEY_BYTES.false))
]
