use Rattle.std.proofs.Common.{◌∙◌, ap, set, get_or}
use Rattle.std.proofs.lemmas.List.{set-get_or}
use Rattle.event_port.specs.declared.team.EventWorker.{EventWorker}
use Rattle.worker_server.proofs.Meeting.{meets_next}
use Rattle.event_port.proofs.team.meet_all.Goals as goal

pub loop-place-preserved : goal.loop-place-preserved
loop-place-preserved g c =
    let so_far = c.loop-place.invariant in
    let others = c.loop-place.others in
    let place = c.loop-place.place in
    let one : EventWorker g.row.E.Denot g.row.Q.Denot g.row.C.Denot = get_or others place c.index-others-place.result in
    record {
      met = meets_next (λ w. w.seat) c.args.seat.now c.args.others.now others place c.index-others-place.result c.loop-place.seat c.meet.new.seat so_far.same c.loop-place-test.true c.index-others-place.is
          so_far.met c.meet.ensures.met;
      own = ap (λ s. s.lock) c.meet.ensures.met.seat ∙ so_far.own;
      same = ap (λ s. set others place (record one { seat = s })) c.meet.ensures.other ∙ (set-get_or others place c.index-others-place.result ∙ so_far.same);
    }
