use Rattle.std.proofs.Common.{◌∙◌, ◌++◌, sym, drop, ap, min, ◌+◌, ◌-◌, ◌^◌}
use Rattle.std.proofs.lemmas.List.{length-take-le}
use Rattle.reply_print.proofs.Reach.{went_on, took_some, stopped_failed, stopped_refused, stopped_again, take_rest}
use Rattle.reply_print.proofs.sending.send.Goals as goal

pub loop-unsent-preserved : goal.loop-unsent-preserved
loop-unsent-preserved g c = λ start from text rest was.
    let took = c.in-Took.ensures.pushed in
    let unsent = c.loop-unsent.unsent.now in
    let n = c.in-Took.count in
    rw (take_rest unsent n) (went_on start _ _ from _ _ text (unsent ++ rest) unsent (drop n unsent ++ rest) n (c.loop-unsent.invariant start from text rest was)
    (took_some unsent rest n) took (c.saturating_add-at.ensures ∙ ap (λ k. min (c.loop-unsent.at + k) (2 ^ 64 - 1)) (sym (length-take-le n unsent took.0.within))) c.in-Took.ensures.incoming)

pub returns-in-Failed : goal.returns-in-Failed
returns-in-Failed g c = λ start from text rest was.
    stopped_failed start _ _ from _ text _ (c.loop-unsent.invariant start from text rest was) c.in-Failed.ensures.pushed c.in-Failed.ensures.incoming

pub returns-in-NoMemory : goal.returns-in-NoMemory
returns-in-NoMemory g c = λ start from text rest was.
    stopped_refused start _ _ from _ text _ (c.loop-unsent.invariant start from text rest was) c.in-NoMemory.ensures.pushed c.in-NoMemory.ensures.incoming

pub returns-in-Again : goal.returns-in-Again
returns-in-Again g c = λ start from text rest was.
    stopped_again start _ _ from _ text _ (c.loop-unsent.invariant start from text rest was) c.in-Again.ensures.pushed c.in-Again.ensures.incoming
