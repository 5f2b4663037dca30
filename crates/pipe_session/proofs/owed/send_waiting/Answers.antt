use Rattle.std.proofs.Common.{◌∙◌}
use Rattle.pipe_session.proofs.Owing.{upto_taken, upto_on, counts_on}
use Rattle.pipe_session.proofs.owed.send_waiting.Goals as goal

pub loop-link-preserved : goal.loop-link-preserved
loop-link-preserved g c =
    let pushed = c.in-Took.ensures.pushed in
    let so = c.loop-link.invariant in
    record {
      sent = upto_on _ _ _ _ _ _ so.sent (upto_taken _ _ c.loop-link.waiting _ c.took.new.self c.in-Took.count c.bytes-in-loop-link.ensures.bytes pushed.0.bytes c.took.ensures);
      stay = counts_on _ _ _ _ _ _ so.stay (record { same_faults = pushed.0.same_faults; same_refusals = pushed.0.same_refusals; same_agains = pushed.1 });
      same = c.in-Took.ensures.incoming ∙ so.same;
    }
