use Rattle.std.proofs.Common.{◌∙◌, ◌||◌, take, ap, sym, arith}
use Rattle.serve_runs.specs.Verdicts.{has_failed, was_refused, any_failed, any_refused}
use Rattle.serve_runs.proofs.Handing.{total_more, any_more}
use Rattle.serve_runs.proofs.verdict.verdict_on.Goals as goal

pub loop-member-preserved : goal.loop-member-preserved
loop-member-preserved g c =
    let inv = c.loop-member.invariant in
    let place = c.loop-member.member-index in
    let members = c.args.members.now in
    let d = c.member-item.result in
    let inside = c.loop-member-test.true in (
      omega (arith, inv.0, total_more members place d inside, ap (λ m. m.served) c.member-item.is, c.from-total.ensures),
      omega (arith, inv.1, c.from-total.ensures),
      ap (λ b. b || c.has_failed-failed.result) inv.2
          ∙ (ap (λ r. any_failed (take place members) || r) (c.has_failed-failed.ensures ∙ ap (λ m. has_failed m.end) c.member-item.is) ∙ sym (any_more (λ m. has_failed m.end) members place d inside)),
      ap (λ b. b || c.was_refused-refused.result) inv.3
          ∙ (ap (λ r. any_refused (take place members) || r) (c.was_refused-refused.ensures ∙ ap (λ m. was_refused m.end) c.member-item.is) ∙ sym (any_more (λ m. was_refused m.end) members place d inside)),
    )
