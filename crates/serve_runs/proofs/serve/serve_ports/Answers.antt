use Rattle.std.proofs.Common.{◌∙◌, ◌==◌, ◌-◌, ◌^◌, if◌then◌else◌, map, subst, arith}
use Rattle.arc_core.specs.Outside.{Linked, linked, Outgoing, outgoing}
use Rattle.worker_ports.specs.Hands.{PortsState, ports_state}
use Rattle.worker_server.specs.Ports.{PortState, port_state}
use Rattle.worker_team.specs.Team.{Hired, HasServedPort}
use Rattle.serve_runs.specs.Serving.{Serves}
use Rattle.serve_runs.proofs.Accounts.{hands_counts}
use Rattle.serve_runs.proofs.Ending.{serves_stopped, serves_well, map_length}
use Rattle.serve_runs.proofs.Ports.{port_ends}
use Rattle.serve_runs.proofs.serve.serve_ports.Goals as goal

pub run_team-requires-clause-out : goal.run_team-requires-clause-out
run_team-requires-clause-out g c κs within =
    let port = g.Q.Port.Port in
    let ports = g.Q.Ports in
    let tell : g.row.Q-Port.Denot → PortState g.row.Q-Port-Link.Denot = λ p. port_state (port.links p) (port.returned p) (port.faults p) (port.refusals p) in
    let state : g.row.Q.Denot → PortsState g.row.Q-Port.Denot = λ q. ports_state (ports.waiting q) (ports.taken_back q) (ports.out q) (ports.faults q) (ports.refusals q) in
    let counts = hands_counts tell (state c.bind.new.self) (state c.hire_all.new.ports) (map (λ w. w.port) c.hire_all.new.team.workers) c.in-Ok-hire_all.ensures.hired.handed in
    omega (arith, counts.1, map_length (λ (w : Hired g.row.Q-Port.Denot g.row.C.Denot). w.port) c.hire_all.new.team.workers)

pub returns-in-Ok-hire_all : goal.returns-in-Ok-hire_all
returns-in-Ok-hire_all g c =
    let link = g.Q.Port.Link.Link in
    let port = g.Q.Port.Port in
    let ports = g.Q.Ports in
    let sink = g.K.Sink in
    let look : g.row.Q-Port-Link.Denot → Linked = λ x. linked (link.left x) (link.read_faults x) (link.sent x) (link.write_faults x) (link.refusals x) (link.agains x) in
    let tell : g.row.Q-Port.Denot → PortState g.row.Q-Port-Link.Denot = λ p. port_state (port.links p) (port.returned p) (port.faults p) (port.refusals p) in
    let state : g.row.Q.Denot → PortsState g.row.Q-Port.Denot = λ q. ports_state (ports.waiting q) (ports.taken_back q) (ports.out q) (ports.faults q) (ports.refusals q) in
    let out : g.row.K.Denot → Outgoing = λ k. outgoing (sink.sent k) (sink.write_faults k) (sink.refusals k) in
    let sessions = if c.args.job.sessions == 0 then 2 ^ 64 - 1 else c.args.job.sessions in
    let seconds = g.C.Clock.coming c.args.clock.now in
    let opening = c.in-Ok-hire_all.ensures.opening ∙ c.in-Ok.ensures.opening in
    subst (λ before. Serves (HasServedPort look tell g.C.Clock.coming) tell g.C.Clock.coming c.run_team.result (g.E.Executor.state c.args.executor) c.args.job.workers sessions seconds before (state c.run_team.new.ports) (out c.args.sink.now) (out c.run_team.new.sink))
    c.in-Ok-bind.ensures
    (subst (λ o. Serves (HasServedPort look tell g.C.Clock.coming) tell g.C.Clock.coming c.run_team.result o c.args.job.workers sessions seconds (state c.bind.new.self) (state c.run_team.new.ports) (out c.args.sink.now) (out c.run_team.new.sink)) opening
    (serves_well (HasServedPort look tell g.C.Clock.coming) tell g.C.Clock.coming (port_ends look tell g.C.Clock.coming) c.hire_all.new.team.opening c.args.job.workers sessions seconds (state c.bind.new.self) (state c.hire_all.new.ports) (state c.run_team.new.ports) (out c.args.sink.now)
    (out c.run_team.new.sink) c.hire_all.new.team.workers c.run_team.result c.in-Ok-hire_all.ensures.hired c.run_team.ensures))

pub returns-in-Err : goal.returns-in-Err
returns-in-Err g c =
    let link = g.Q.Port.Link.Link in
    let port = g.Q.Port.Port in
    let ports = g.Q.Ports in
    let sink = g.K.Sink in
    let look : g.row.Q-Port-Link.Denot → Linked = λ x. linked (link.left x) (link.read_faults x) (link.sent x) (link.write_faults x) (link.refusals x) (link.agains x) in
    let tell : g.row.Q-Port.Denot → PortState g.row.Q-Port-Link.Denot = λ p. port_state (port.links p) (port.returned p) (port.faults p) (port.refusals p) in
    let state : g.row.Q.Denot → PortsState g.row.Q-Port.Denot = λ q. ports_state (ports.waiting q) (ports.taken_back q) (ports.out q) (ports.faults q) (ports.refusals q) in
    let out : g.row.K.Denot → Outgoing = λ k. outgoing (sink.sent k) (sink.write_faults k) (sink.refusals k) in
    let sessions = if c.args.job.sessions == 0 then 2 ^ 64 - 1 else c.args.job.sessions in
    let seconds = g.C.Clock.coming c.args.clock.now in
    subst (λ before. Serves (HasServedPort look tell g.C.Clock.coming) tell g.C.Clock.coming c.send_away.result (g.E.Executor.state c.args.executor) c.args.job.workers sessions seconds before (state c.send_away.new.ports) (out c.args.sink.now) (out c.args.sink.now))
    c.in-Ok-bind.ensures
    (serves_stopped (HasServedPort look tell g.C.Clock.coming) tell g.C.Clock.coming (g.E.Executor.state c.args.executor) c.args.job.workers sessions seconds (state c.bind.new.self) (state c.hire_all.new.ports) (state c.send_away.new.ports)
    (out c.args.sink.now) c.hire_all.new.team.workers c.in-Err.stop c.send_away.result c.in-Err.ensures.hired c.send_away.ensures)
