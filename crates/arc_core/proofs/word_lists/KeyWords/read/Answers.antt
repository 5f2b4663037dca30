use Rattle.std.proofs.Common.{sym, ◌∙◌}
use Rattle.arc_core.specs.Words.{words}
use Rattle.arc_core.proofs.KeyWordLemmas.{keys_counted-none, keys_counted-other, keys_counted-all}
use Rattle.arc_core.proofs.word_lists.KeyWords.read.Goals as goal

pub returns-in_err-keys : goal.returns-in_err-keys
returns-in_err-keys c = c.from_residual.ensures ∙ sym (keys_counted-none c.args.number (words c.args.block.now) (sym c.keys_within.ensures ∙ c.in_err-keys.was))

pub returns-then-count-number : goal.returns-then-count-number
returns-then-count-number c =
    sym (keys_counted-all c.args.number c.count.result (words c.args.block.now) _ (sym c.keys_within.ensures ∙ c.in_ok-keys.was) c.count.ensures.number c.if-count-number.true)

pub returns-else-count-number : goal.returns-else-count-number
returns-else-count-number c =
    sym (keys_counted-other c.args.number c.count.result (words c.args.block.now) _ (sym c.keys_within.ensures ∙ c.in_ok-keys.was) c.count.ensures.number c.if-count-number.false)
