use Rattle.std.proofs.Common.{◌∙◌, ◌==◌, ◌-◌, ◌^◌, if◌then◌else◌, length, map, ap, subst, arith}
use Rattle.arc_core.specs.Outside.{Linked, linked, Outgoing, outgoing}
use Rattle.worker_ports.specs.Hands.{PortsState, ports_state}
use Rattle.worker_server.specs.Ports.{PortState, port_state}
use Rattle.event_port.specs.Pollers.{PollerState, poller_state}
use Rattle.event_team.specs.Served.{HasServedPoller}
use Rattle.worker_team.specs.Team.{Hired}
use Rattle.serve_runs.specs.Serving.{TakesThrough, Serves}
use Rattle.serve_runs.proofs.Accounts.{hands_counts}
use Rattle.serve_runs.proofs.Ending.{serves_refused, serves_well, map_length}
use Rattle.serve_event_runs.proofs.Pollers.{poller_ends, enough_out}
use Rattle.serve_event_runs.proofs.serve.serve_pollers.Goals as goal

pub run_team-requires-clause-out : goal.run_team-requires-clause-out
run_team-requires-clause-out g c κs within =
    let port = g.Q.Poller.Poller in
    let all = g.Q.EventPorts in
    let ports = g.Q.Ports in
    let tell : g.row.Q-Poller.Denot → PortState g.row.Q-Poller-Link.Denot = λ p. port_state (port.links p) (port.returned p) (port.faults p) (port.refusals p) in
    let tell_all : g.row.Q-Poller.Denot → PollerState g.row.Q-Poller-Link.Denot = λ p. poller_state (tell p) (port.held p) in
    let state : g.row.Q.Denot → PortsState g.row.Q-Poller.Denot = λ q. ports_state (all.pollers_waiting q) (all.pollers_back q) (all.pollers_out q) (ports.faults q) (ports.refusals q) in
    let counts = hands_counts tell (state c.bind_pollers.new.self) (state c.hire_all.new.ports) (map (λ w. w.port) c.hire_all.new.team.workers) c.in-Ok-hire_all.ensures.hired.handed in
    omega (arith, counts.1, map_length (λ (w : Hired g.row.Q-Poller.Denot g.row.C.Denot). w.port) c.hire_all.new.team.workers)

pub returns-in-Ok-hire_all : goal.returns-in-Ok-hire_all
returns-in-Ok-hire_all g c =
    let link = g.Q.Poller.Link.Link in
    let port = g.Q.Poller.Poller in
    let all = g.Q.EventPorts in
    let ports = g.Q.Ports in
    let sink = g.K.Sink in
    let look : g.row.Q-Poller-Link.Denot → Linked = λ x. linked (link.left x) (link.read_faults x) (link.sent x) (link.write_faults x) (link.refusals x) (link.agains x) in
    let tell : g.row.Q-Poller.Denot → PortState g.row.Q-Poller-Link.Denot = λ p. port_state (port.links p) (port.returned p) (port.faults p) (port.refusals p) in
    let tell_all : g.row.Q-Poller.Denot → PollerState g.row.Q-Poller-Link.Denot = λ p. poller_state (tell p) (port.held p) in
    let state : g.row.Q.Denot → PortsState g.row.Q-Poller.Denot = λ q. ports_state (all.pollers_waiting q) (all.pollers_back q) (all.pollers_out q) (ports.faults q) (ports.refusals q) in
    let out : g.row.K.Denot → Outgoing = λ k. outgoing (sink.sent k) (sink.write_faults k) (sink.refusals k) in
    let sessions = if c.args.job.sessions == 0 then 2 ^ 64 - 1 else c.args.job.sessions in
    let seconds = g.C.Clock.coming c.args.clock.now in
    let opening = c.in-Ok-hire_all.ensures.opening ∙ c.in-Ok.ensures.opening in
    subst (λ before. Serves (HasServedPoller look tell_all g.C.Clock.coming) tell g.C.Clock.coming c.run_team.result (g.E.Executor.state c.args.executor) c.args.job.workers sessions seconds before (state c.run_team.new.ports) (out c.args.sink.now) (out c.run_team.new.sink))
    c.in-Ok-bind_pollers.ensures
    (subst (λ o. Serves (HasServedPoller look tell_all g.C.Clock.coming) tell g.C.Clock.coming c.run_team.result o c.args.job.workers sessions seconds (state c.bind_pollers.new.self) (state c.run_team.new.ports) (out c.args.sink.now) (out c.run_team.new.sink)) opening
    (serves_well (HasServedPoller look tell_all g.C.Clock.coming) tell g.C.Clock.coming (poller_ends look tell_all g.C.Clock.coming) c.hire_all.new.team.opening c.args.job.workers sessions seconds (state c.bind_pollers.new.self) (state c.hire_all.new.ports) (state c.run_team.new.ports) (out c.args.sink.now)
    (out c.run_team.new.sink) c.hire_all.new.team.workers c.run_team.result c.in-Ok-hire_all.ensures.hired c.run_team.ensures))

pub take_back-requires : goal.take_back-requires
take_back-requires g c =
    let port = g.Q.Poller.Poller in
    let all = g.Q.EventPorts in
    let ports = g.Q.Ports in
    let tell : g.row.Q-Poller.Denot → PortState g.row.Q-Poller-Link.Denot = λ p. port_state (port.links p) (port.returned p) (port.faults p) (port.refusals p) in
    let state : g.row.Q.Denot → PortsState g.row.Q-Poller.Denot = λ q. ports_state (all.pollers_waiting q) (all.pollers_back q) (all.pollers_out q) (ports.faults q) (ports.refusals q) in
    let refused = c.in-Err.ensures.hired in
    omega (
      arith,
      enough_out tell (state c.bind_pollers.new.self) refused.handed_out (state c.hire_all.new.ports) (map (λ w. w.port) c.hire_all.new.team.workers) c.in-Err.end refused.handed refused.refused,
      ap length c.dismiss.ensures.ports,
      map_length (λ m. m.port) c.dismiss.result.items,
    )

pub returns-in-Err : goal.returns-in-Err
returns-in-Err g c =
    let link = g.Q.Poller.Link.Link in
    let port = g.Q.Poller.Poller in
    let all = g.Q.EventPorts in
    let ports = g.Q.Ports in
    let sink = g.K.Sink in
    let look : g.row.Q-Poller-Link.Denot → Linked = λ x. linked (link.left x) (link.read_faults x) (link.sent x) (link.write_faults x) (link.refusals x) (link.agains x) in
    let tell : g.row.Q-Poller.Denot → PortState g.row.Q-Poller-Link.Denot = λ p. port_state (port.links p) (port.returned p) (port.faults p) (port.refusals p) in
    let tell_all : g.row.Q-Poller.Denot → PollerState g.row.Q-Poller-Link.Denot = λ p. poller_state (tell p) (port.held p) in
    let state : g.row.Q.Denot → PortsState g.row.Q-Poller.Denot = λ q. ports_state (all.pollers_waiting q) (all.pollers_back q) (all.pollers_out q) (ports.faults q) (ports.refusals q) in
    let out : g.row.K.Denot → Outgoing = λ k. outgoing (sink.sent k) (sink.write_faults k) (sink.refusals k) in
    let sessions = if c.args.job.sessions == 0 then 2 ^ 64 - 1 else c.args.job.sessions in
    let seconds = g.C.Clock.coming c.args.clock.now in
    let refused = c.in-Err.ensures.hired in
    subst (λ before. Serves (HasServedPoller look tell_all g.C.Clock.coming) tell g.C.Clock.coming c.in-Err.end (g.E.Executor.state c.args.executor) c.args.job.workers sessions seconds before (state c.take_back.new.ports) (out c.args.sink.now) (out c.args.sink.now))
    c.in-Ok-bind_pollers.ensures
    (serves_refused (HasServedPoller look tell_all g.C.Clock.coming) tell g.C.Clock.coming (g.E.Executor.state c.args.executor) c.args.job.workers sessions seconds (state c.bind_pollers.new.self) refused.handed_out
    (state c.hire_all.new.ports) (state c.take_back.new.ports) (out c.args.sink.now) (map (λ w. w.port) c.hire_all.new.team.workers) c.in-Err.end refused.handed refused.refused
    (subst (λ ps. TakesThrough tell (state c.hire_all.new.ports) ps (state c.take_back.new.ports)) c.dismiss.ensures.ports c.take_back.ensures))
