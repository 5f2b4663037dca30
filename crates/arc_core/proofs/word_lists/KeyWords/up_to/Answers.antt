use Rattle.std.proofs.Common.{◌<◌, sym, ◌∙◌, arith}
use Rattle.arc_core.specs.Words.{words}
use Rattle.arc_core.proofs.KeyWordLemmas.{keys_up_to-none, keys_up_to-empty, keys_up_to-all}
use Rattle.arc_core.proofs.word_lists.KeyWords.up_to.Goals as goal

pub returns-in_err-keys : goal.returns-in_err-keys
returns-in_err-keys c = c.from_residual.ensures ∙ sym (keys_up_to-none c.args.most (words c.args.text.now) (sym c.keys_within.ensures ∙ c.in_err-keys.was))

pub returns-then-count-eq0 : goal.returns-then-count-eq0
returns-then-count-eq0 c =
    sym (keys_up_to-empty c.args.most c.count.result (words c.args.text.now) _ (sym c.keys_within.ensures ∙ c.in_ok-keys.was) c.count.ensures.number c.if-count-eq0.true)

pub returns-else-count-eq0 : goal.returns-else-count-eq0
returns-else-count-eq0 c =
    let some : 0 < c.count.result = omega (arith, c.if-count-eq0.false) in
    sym (keys_up_to-all c.args.most c.count.result (words c.args.text.now) _ (sym c.keys_within.ensures ∙ c.in_ok-keys.was) c.count.ensures.number some)
