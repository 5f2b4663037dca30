use Rattle.std.proofs.Common.{◌∷◌, [], ◌∙◌, ap, sym, refl, inl, inr}
use Rattle.std.proofs.lemmas.List.{append-nil}
use Rattle.reply_print.specs.PipeText.{status_of}
use Rattle.pipe_session.specs.Runs.{with_status}
use Rattle.pipe_session.proofs.units.take_request.Goals as goal

pub returns-then-not-takes_one-clause-goes_on : goal.returns-then-not-takes_one-clause-goes_on
returns-then-not-takes_one-clause-goes_on g c =
    let over = c.if-not-takes_one.ensures in (
      [],
      inr (sym over.takes, refl, over.run),
      record { served = refl; seconds = refl; owed = over.text ∙ sym (append-nil c.args.owed.now.text) },
    )

pub returns-clause-goes_on : goal.returns-clause-goes_on
returns-clause-goes_on g c =
    let kept = c.if-not-takes_one.ensures in
    let done = c.answer_in_run-status.ensures in
    let one = done.1 in (
      one.0 ∷ [],
      inl (
        sym kept.takes,
        c.answer_in_run-status.result,
        (one.0, one.1, refl, ap status_of one.2 ∙ done.2),
        c.put_status.ensures.run ∙ ap (λ k. with_status k c.answer_in_run-status.result) kept.run,
      ),
      record {
        served = (c.answer_in_run-status.new.desk, one.3, refl);
        seconds = (g.C.Clock.coming c.answer_in_run-status.new.clock, one.4, refl);
        owed = c.put_status.ensures.text ∙ kept.text ∙ sym (append-nil c.args.owed.now.text);
      },
    )
