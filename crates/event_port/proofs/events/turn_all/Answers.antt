use Rattle.worker_server.specs.Ports.{port_state}
use Rattle.event_port.specs.Pollers.{poller_state}
use Rattle.event_port.proofs.Ending.{only_then, same_then}
use Rattle.event_port.proofs.events.turn_all.Goals as goal

pub turn_at-requires-clause-begun : goal.turn_at-requires-clause-begun
turn_at-requires-clause-begun g c = let b = c.requires.begun in (b.0, c.loop-key.invariant.runs b.0 b.1)

pub loop-key-preserved : goal.loop-key-preserved
loop-key-preserved g c =
    let q = g.Q.Poller in
    let at = λ (p : g.row.Q.Denot). poller_state (port_state (q.links p) (q.returned p) (q.faults p) (q.refusals p)) (q.held p) in
    let so_far = c.loop-key.invariant in
    let turned = c.turn_at.ensures in
    record {
      own = turned.own;
      runs = λ before runs. turned.runs before (so_far.runs before runs);
      counts = only_then (at c.args.poller.now) (at c.loop-key.poller) (at c.turn_at.new.poller) so_far.counts turned.counts;
      same = same_then _ _ _ so_far.same turned.same;
    }
