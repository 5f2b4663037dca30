use Rattle.std.proofs.Common.{sym, ◌∙◌, drop, length, unwrap_or, ◌≡◌}
use Rattle.std.specs.List.{position}
use Rattle.arc_core.specs.Words.{is_space}
use Rattle.arc_core.proofs.WordLemmas.{words-none, words-some}
use Rattle.arc_core.proofs.word_lists.first_word.Goals as goal

pub returns-in_err-first_other-clause-words : goal.returns-in_err-first_other-clause-words
returns-in_err-first_other-clause-words c =
    rw c.from_residual.ensures (words-none c.args.text.now (sym c.first_other.ensures ∙ c.in_err-first_other.was))

pub returns-clause-words : goal.returns-clause-words
returns-clause-words c =
    let text = c.args.text.now in
    let e : c.unwrap_or-word_len.result ≡ unwrap_or (position is_space (drop c.in_ok-first_other.field-0 text)) (length (drop c.in_ok-first_other.field-0 text)) = cc in
    rw (c.split_at-2.ensures.front, c.split_at-2.ensures.back, c.split_at.ensures.back)
    (words-some text c.in_ok-first_other.field-0 c.unwrap_or-word_len.result (sym c.first_other.ensures ∙ c.in_ok-first_other.was) e).0

pub returns-clause-shorter : goal.returns-clause-shorter
returns-clause-shorter c =
    let text = c.args.text.now in
    let e : c.unwrap_or-word_len.result ≡ unwrap_or (position is_space (drop c.in_ok-first_other.field-0 text)) (length (drop c.in_ok-first_other.field-0 text)) = cc in
    rw (c.split_at-2.ensures.back, c.split_at.ensures.back)
    (words-some text c.in_ok-first_other.field-0 c.unwrap_or-word_len.result (sym c.first_other.ensures ∙ c.in_ok-first_other.was) e).1
