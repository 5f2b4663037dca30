use Rattle.std.proofs.Common.{◌∙◌}
use Rattle.arc_core.specs.Outside.{Linked, linked}
use Rattle.worker_server.specs.Ports.{port_state}
use Rattle.event_port.specs.Pollers.{poller_state}
use Rattle.event_port.proofs.Ending.{ends_behind}
use Rattle.event_port.proofs.Floors.{begins, finished}
use Rattle.event_port.specs.Moves.{event_state}
use Rattle.event_port.proofs.events.run_events.Goals as goal

pub serve_links-end-requires-clause-begun : goal.serve_links-end-requires-clause-begun
serve_links-end-requires-clause-begun g c =
    let link = g.Q.Link.Link in
    let look : g.row.Q-Link.Denot → Linked = λ x. linked (link.left x) (link.read_faults x) (link.sent x) (link.write_faults x) (link.refusals x) (link.agains x) in
    (_, begins look _ c.new-floor.result c.most_sessions.result c.new-floor.ensures)

pub serve_the_rest-requires-clause-begun : goal.serve_the_rest-requires-clause-begun
serve_the_rest-requires-clause-begun g c =
    let link = g.Q.Link.Link in
    let look : g.row.Q-Link.Denot → Linked = λ x. linked (link.left x) (link.read_faults x) (link.sent x) (link.write_faults x) (link.refusals x) (link.agains x) in
    (_, c.serve_links-end.ensures.runs _ (begins look _ c.new-floor.result c.most_sessions.result c.new-floor.ensures))

pub returns : goal.returns
returns g c =
    let link = g.Q.Link.Link in
    let look : g.row.Q-Link.Denot → Linked = λ x. linked (link.left x) (link.read_faults x) (link.sent x) (link.write_faults x) (link.refusals x) (link.agains x) in
    let q = g.Q.Poller in
    let at = λ (p : g.row.Q.Denot). poller_state (port_state (q.links p) (q.returned p) (q.faults p) (q.refusals p)) (q.held p) in
    let coming = g.C.Clock.coming in
    let before = event_state (at c.args.poller.now) (coming c.args.clock.now) c.args.seat.now in
    let served = c.serve_links-end.ensures in
    let rest = c.serve_the_rest.ensures in
    let runs = rest.runs before (served.runs before (begins look before c.new-floor.result c.most_sessions.result c.new-floor.ensures)) in
    let limit = rest.same.limit ∙ (served.limit ∙ (c.new-floor.ensures.limit_is ∙ c.most_sessions.ensures)) in
    finished look before _ c.serve_the_rest.new.floor _ c.serve_links-end.result runs rest.none limit
    (ends_behind c.serve_links-end.result _ _ _ _ (at c.args.poller.now) (at c.serve_links-end.new.poller) (at c.serve_the_rest.new.poller) rest.same.taken_on
    (served.limit ∙ (c.new-floor.ensures.limit_is ∙ c.most_sessions.ensures)) rest.counts served.ends)
