use Rattle.std.proofs.Common.{◌∙◌, arith}
use Rattle.event_port.proofs.Ending.{ends_from}
use Rattle.event_port.proofs.events.serve_links.Goals as goal

pub returns-then-floor-clause-runs : goal.returns-then-floor-clause-runs
returns-then-floor-clause-runs g c = c.loop-round.invariant.runs

pub returns-then-floor-clause-ends : goal.returns-then-floor-clause-ends
returns-then-floor-clause-ends g c = let so_far = c.loop-round.invariant in (c.if-floor.true, so_far.faults, so_far.refusals)

pub serve_wake-requires-clause-begun : goal.serve_wake-requires-clause-begun
serve_wake-requires-clause-begun g c = let b = c.requires.begun in (b.0, c.loop-round.invariant.runs b.0 b.1)

pub returns-in-Some-clause-runs : goal.returns-in-Some-clause-runs
returns-in-Some-clause-runs g c before runs = c.in-Some.ensures.runs before (c.loop-round.invariant.runs before runs)

pub returns-in-Some-clause-ends : goal.returns-in-Some-clause-ends
returns-in-Some-clause-ends g c = let so_far = c.loop-round.invariant in ends_from c.in-Some.end _ _ _ _ _ so_far.faults so_far.refusals c.in-Some.ensures.counts

pub loop-round-preserved : goal.loop-round-preserved
loop-round-preserved g c =
    let so_far = c.loop-round.invariant in
    let served = c.in-None.ensures in
    record {
      own = served.own;
      runs = λ before runs. served.runs before (so_far.runs before runs);
      faults = served.counts.0 ∙ so_far.faults;
      refusals = served.counts.1 ∙ so_far.refusals;
      came = (let a = served.came in let b = so_far.came in omega arith);
      limit = served.limit ∙ so_far.limit;
    }
