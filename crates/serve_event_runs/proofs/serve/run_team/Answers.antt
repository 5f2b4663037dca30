use Rattle.std.proofs.Common.{◌≡◌, ◌∙◌, length, true, false, refl, inl, ap, subst, arith}
use Rattle.serve_runs.specs.Serving.{total_served}
use Rattle.serve_runs.specs.Verdicts.{any_failed, any_refused}
use Rattle.serve_runs.proofs.Ending.{ends_well}
use Rattle.serve_runs.proofs.Accounts.{as_many_left}
use Rattle.serve_event_runs.proofs.serve.run_team.Goals as goal

pub verdict_on-verdict-requires : goal.verdict_on-verdict-requires
verdict_on-verdict-requires g c =
    let run = c.serve-executor.ensures in
    omega (arith, ap length c.deref.ensures.value, as_many_left _ run.lock _ run.history 1 c.args.team.workers c.serve-executor.result.1.items run.each, c.requires.few)

pub take_back-requires : goal.take_back-requires
take_back-requires g c =
    let run = c.serve-executor.ensures in
    omega (arith, as_many_left _ run.lock _ run.history 1 c.args.team.workers c.serve-executor.result.1.items run.each, c.requires.out)

pub returns-in-PortFault : goal.returns-in-PortFault
returns-in-PortFault g c = record {
  members = c.serve-executor.result.1.items;
  closing = g.E.Executor.state c.serve-executor.result.0;
  run = c.serve-executor.ensures;
  back = c.take_back.ensures;
  behind = (subst (λ ms. any_failed ms ≡ true) c.deref.ensures.value c.in-PortFault.ensures, refl);
}

pub returns-in-NoMemory : goal.returns-in-NoMemory
returns-in-NoMemory g c = record {
  members = c.serve-executor.result.1.items;
  closing = g.E.Executor.state c.serve-executor.result.0;
  run = c.serve-executor.ensures;
  back = c.take_back.ensures;
  behind = (subst (λ ms. any_failed ms ≡ false) c.deref.ensures.value c.in-NoMemory.ensures.0, inl (subst (λ ms. any_refused ms ≡ true) c.deref.ensures.value c.in-NoMemory.ensures.1, refl));
}

pub returns : goal.returns
returns g c = record {
  members = c.serve-executor.result.1.items;
  closing = g.E.Executor.state c.serve-executor.result.0;
  run = c.serve-executor.ensures;
  back = c.take_back.ensures;
  behind = ends_well c.serve-executor.result.1.items c.in-Well.total _ _ c.write_total.result (subst (λ ms. any_failed ms ≡ false) c.deref.ensures.value c.in-Well.ensures.0)
      (subst (λ ms. any_refused ms ≡ false) c.deref.ensures.value c.in-Well.ensures.1) (c.in-Well.ensures.2 ∙ ap total_served c.deref.ensures.value) c.write_total.ensures;
}
