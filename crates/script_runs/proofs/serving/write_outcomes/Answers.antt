use Rattle.std.proofs.Common.{◌≡◌, ◌∙◌, ◌<◌, ◌+◌, suc, Err, length, take, ap, sym, subst, arith}
use Rattle.arc_core.specs.Outside.{outgoing, sent_more}
use Rattle.sink_writes.specs.Writing.{Writes}
use Rattle.script_runs.specs.Output.{HasWord, output_of, outcome_record}
use Rattle.script_runs.proofs.Places.{at_some}
use Rattle.script_runs.proofs.Writings.{nothing_more, take_whole, outcome_is, writes_one, writes_no_further, stands_at}
use Rattle.script_runs.proofs.serving.write_outcomes.Goals as goal

pub loop-session-init : goal.loop-session-init
loop-session-init g c outcomes many all = nothing_more _

pub outcome_at-end-requires : goal.outcome_at-end-requires
outcome_at-end-requires g c =
    let session = c.loop-session.session in
    let outcomes = c.requires.0 in
    let inside : session < length outcomes = omega (arith, c.loop-session-test.true, c.requires.1) in
    let one = at_some outcomes session inside in
    (one.0, stands_at _ _ _ _ 0 session outcomes session one.0 (omega arith) c.requires.2 one.1)

pub write_outcome-requires : goal.write_outcome-requires
write_outcome-requires g c =
    let session = c.loop-session.session in
    let outcomes = c.requires.0 in
    let inside : session < length outcomes = omega (arith, c.loop-session-test.true, c.requires.1) in
    let one = at_some outcomes session inside in
    let stands = stands_at _ _ _ _ 0 session outcomes session one.0 (omega arith) c.requires.2 one.1 in
    subst HasWord (sym (c.outcome_at-end.ensures one.0 stands).0) stands.word

pub returns-in-Err : goal.returns-in-Err
returns-in-Err g c outcomes many all =
    let session = c.loop-session.session in
    let inside : session < length outcomes = omega (arith, c.loop-session-test.true, many) in
    let one = at_some outcomes session inside in
    let came = c.outcome_at-end.ensures one.0 (stands_at _ _ _ _ 0 session outcomes session one.0 (omega arith) all one.1) in
    let is = outcome_is c.outcome_at-end.result.0 c.outcome_at-end.result.1.now one.0 came.0 came.1 in
    writes_no_further (Unit {0}) _ _ _ outcomes session one.0 c.in-Err.fault one.1 (c.loop-session.invariant outcomes many all)
    (subst (λ o. Writes {A = Unit {0}} (outgoing (g.K.Sink.sent c.loop-session.sink) (g.K.Sink.write_faults c.loop-session.sink) (g.K.Sink.refusals c.loop-session.sink)) (outcome_record session o)
    (outgoing (g.K.Sink.sent c.write_outcome.new.sink) (g.K.Sink.write_faults c.write_outcome.new.sink) (g.K.Sink.refusals c.write_outcome.new.sink)) (Err c.in-Err.fault)) is c.in-Err.ensures)

pub loop-session-preserved : goal.loop-session-preserved
loop-session-preserved g c outcomes many all =
    let session = c.loop-session.session in
    let inside : session < length outcomes = omega (arith, c.loop-session-test.true, many) in
    let one = at_some outcomes session inside in
    let came = c.outcome_at-end.ensures one.0 (stands_at _ _ _ _ 0 session outcomes session one.0 (omega arith) all one.1) in
    let is = outcome_is c.outcome_at-end.result.0 c.outcome_at-end.result.1.now one.0 came.0 came.1 in
    let next : suc session ≡ session + 1 = omega arith in
    let before = outgoing (g.K.Sink.sent c.args.sink.now) (g.K.Sink.write_faults c.args.sink.now) (g.K.Sink.refusals c.args.sink.now) in
    let now = outgoing (g.K.Sink.sent c.loop-session.sink) (g.K.Sink.write_faults c.loop-session.sink) (g.K.Sink.refusals c.loop-session.sink) in
    let after = outgoing (g.K.Sink.sent c.write_outcome.new.sink) (g.K.Sink.write_faults c.write_outcome.new.sink) (g.K.Sink.refusals c.write_outcome.new.sink) in
    subst (λ n. after ≡ sent_more before (output_of (take n outcomes))) next
    (writes_one before now after outcomes session one.0 one.1 (c.loop-session.invariant outcomes many all) (c.in-Ok.ensures ∙ ap (λ o. sent_more now (outcome_record session o)) is))

pub returns : goal.returns
returns g c outcomes many all =
    c.loop-session.invariant outcomes many all
    ∙ ap (λ os. sent_more (outgoing (g.K.Sink.sent c.args.sink.now) (g.K.Sink.write_faults c.args.sink.now) (g.K.Sink.refusals c.args.sink.now)) (output_of os))
    (take_whole outcomes c.loop-session.session (omega (arith, many, c.loop-session-test.false)))
