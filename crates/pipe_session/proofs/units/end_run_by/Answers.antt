use Rattle.std.proofs.Common.{◌∙◌, ◌++◌, ap}
use Rattle.std.proofs.lemmas.List.{append-nil}
use Rattle.pipe_session.specs.Runs.{answer_of}
use Rattle.pipe_session.proofs.units.end_run_by.Goals as goal

pub returns : goal.returns
returns g c =
    let on = c.take_request.ensures.goes_on in
    let kept = c.take_request.new.owed.run in (
      on.0,
      kept,
      on.1,
      record {
        served = on.2.served;
        seconds = on.2.seconds;
        owed = c.end_run.ensures.text ∙ ap (λ o. o ++ answer_of kept) (on.2.owed ∙ append-nil c.args.owed.now.text);
      },
      c.end_run.ensures.run,
    )
