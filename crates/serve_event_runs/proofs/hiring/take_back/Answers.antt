use Rattle.std.proofs.Common.{◌∙◌, length, map, ap, sym, subst, arith}
use Rattle.worker_ports.specs.Hands.{PortsState, ports_state}
use Rattle.worker_server.specs.Ports.{PortState, port_state}
use Rattle.serve_runs.specs.Serving.{TakesThrough}
use Rattle.serve_runs.proofs.Handing.{takes_more, rest_goes_on, none_left, all_done}
use Rattle.serve_event_runs.proofs.hiring.take_back.Goals as goal

pub loop-member-preserved : goal.loop-member-preserved
loop-member-preserved g c =
    let port = g.Q.Poller.Poller in
    let all = g.Q.EventPorts in
    let ports = g.Q.Ports in
    let tell : g.row.Q-Poller.Denot → PortState g.row.Q-Poller-Link.Denot = λ p. port_state (port.links p) (port.returned p) (port.faults p) (port.refusals p) in
    let state : g.row.Q.Denot → PortsState g.row.Q-Poller.Denot = λ q. ports_state (all.pollers_waiting q) (all.pollers_back q) (all.pollers_out q) (ports.faults q) (ports.refusals q) in
    let inv = c.loop-member.invariant in
    let next = c.in-Some.ensures.steps.0 in (
      tt,
      tt,
      omega (arith, inv.2, ap length next, c.back_poller.ensures.out),
      takes_more tell (λ m. m.port) (state c.args.ports.now) (state c.loop-member.ports) (state c.back_poller.new.self) c.loop-member.yielded c.in-Some.member inv.3 c.back_poller.ensures,
      rest_goes_on c.into_iter-member-iterator.result.rest.items c.loop-member.yielded c.loop-member.member-iterator.rest.items c.next.new.self.rest.items c.in-Some.member inv.4 next,
    )

pub returns : goal.returns
returns g c =
    let port = g.Q.Poller.Poller in
    let all = g.Q.EventPorts in
    let ports = g.Q.Ports in
    let tell : g.row.Q-Poller.Denot → PortState g.row.Q-Poller-Link.Denot = λ p. port_state (port.links p) (port.returned p) (port.faults p) (port.refusals p) in
    let state : g.row.Q.Denot → PortsState g.row.Q-Poller.Denot = λ q. ports_state (all.pollers_waiting q) (all.pollers_back q) (all.pollers_out q) (ports.faults q) (ports.refusals q) in
    let inv = c.loop-member.invariant in
    let none = none_left c.loop-member.member-iterator.rest.items (omega (arith, c.in-None.ensures.steps.0, c.loop-member.member-iterator.rest.ok)) in
    let done = all_done c.into_iter-member-iterator.result.rest.items c.loop-member.yielded c.loop-member.member-iterator.rest.items inv.4 none in
    subst (λ ms. TakesThrough tell (state c.args.ports.now) (map (λ m. m.port) ms) (state c.loop-member.ports)) (sym done ∙ c.into_iter-member-iterator.ensures.into_iter_gives.0) inv.3
