use Rattle.std.proofs.Common.{sym, ◌∙◌, arith}
use Rattle.arc_core.proofs.KeyWordLemmas.{one_more, stopped, all_taken}
use Rattle.arc_core.proofs.word_lists.count_keys.Goals as goal

pub returns-in_default : goal.returns-in_default
returns-in_default c =
    let last = stopped c.args.most c.loop-count.count _ _ c.next_key.result c.next_key.new.self c.loop-count.invariant.counted c.loop-count.invariant.keys
    (omega (arith, c.loop-count-test.true)) c.next_key.ensures.read c.in_default.is in
    c.then_some.ensures ∙ rw (c.is_empty.ensures, c.in_default.ensures.kept) (sym last)

pub loop-count-preserved : goal.loop-count-preserved
loop-count-preserved c =
    let more = one_more _ _ _ c.loop-count.count c.next_key.result c.loop-count.invariant.counted c.loop-count.invariant.keys c.next_key.ensures.read
    c.in-Some.field-0 c.in-Some.is in
    record { counted = more.0; keys = more.1 }

pub returns : goal.returns
returns c =
    let last = all_taken c.args.most c.loop-count.count _ _ c.loop-count.invariant.counted c.loop-count.invariant.keys (omega (arith, c.loop-count-test.false, c.loop-count.auto.count-end)) in
    c.then_some-2.ensures ∙ rw c.is_empty-2.ensures (sym last)
