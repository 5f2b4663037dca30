use Rattle.std.proofs.Common.{length, map, refl, ap, sym, subst, arith}
use Rattle.worker_ports.specs.Hands.{PortsState, ports_state}
use Rattle.worker_server.specs.Ports.{PortState, port_state}
use Rattle.worker_team.specs.Team.{Hired}
use Rattle.serve_runs.specs.declared.serve.ServeEnd.TheVariants as serve_end
use Rattle.serve_runs.specs.Serving.{TakesThrough}
use Rattle.serve_runs.specs.Hiring.{HasStopped}
use Rattle.serve_runs.specs.Ending.{EndsStopped}
use Rattle.serve_runs.proofs.Handing.{takes_last}
use Rattle.serve_runs.proofs.Ending.{enough_out, one_out, map_length}
use Rattle.serve_runs.proofs.serve.send_away.Goals as goal

pub take_back-requires : goal.take_back-requires
take_back-requires g c =
    let port = g.Q.Port.Port in
    let ports = g.Q.Ports in
    let tell : g.row.Q-Port.Denot → PortState g.row.Q-Port-Link.Denot = λ p. port_state (port.links p) (port.returned p) (port.faults p) (port.refusals p) in
    let state : g.row.Q.Denot → PortsState g.row.Q-Port.Denot = λ q. ports_state (ports.waiting q) (ports.taken_back q) (ports.out q) (ports.faults q) (ports.refusals q) in
    let came = c.requires in
    omega (
      arith,
      enough_out tell came.0 (state c.args.ports.now) c.args.team.workers c.args.stop came.1,
      ap length c.dismiss.ensures.ports,
      map_length (λ m. m.port) c.dismiss.result.items,
      map_length (λ (w : Hired g.row.Q-Port.Denot g.row.C.Denot). w.port) c.args.team.workers,
    )

pub back-requires : goal.back-requires
back-requires g c =
    let port = g.Q.Port.Port in
    let ports = g.Q.Ports in
    let tell : g.row.Q-Port.Denot → PortState g.row.Q-Port-Link.Denot = λ p. port_state (port.links p) (port.returned p) (port.faults p) (port.refusals p) in
    let state : g.row.Q.Denot → PortsState g.row.Q-Port.Denot = λ q. ports_state (ports.waiting q) (ports.taken_back q) (ports.out q) (ports.faults q) (ports.refusals q) in
    one_out tell c.requires.0 (state c.args.ports.now) (state c.take_back.new.ports) c.args.team.workers c.in-NoWorker.port
    (subst (λ s. HasStopped tell c.requires.0 (state c.args.ports.now) c.args.team.workers s) c.in-NoWorker.is c.requires.1)
    (subst (λ ps. TakesThrough tell (state c.args.ports.now) ps (state c.take_back.new.ports)) c.dismiss.ensures.ports c.take_back.ensures)

pub returns-in-Failed : goal.returns-in-Failed
returns-in-Failed g c =
    let port = g.Q.Port.Port in
    let ports = g.Q.Ports in
    let tell : g.row.Q-Port.Denot → PortState g.row.Q-Port-Link.Denot = λ p. port_state (port.links p) (port.returned p) (port.faults p) (port.refusals p) in
    let state : g.row.Q.Denot → PortsState g.row.Q-Port.Denot = λ q. ports_state (ports.waiting q) (ports.taken_back q) (ports.out q) (ports.faults q) (ports.refusals q) in
    subst (λ s. EndsStopped tell (state c.args.ports.now) (state c.take_back.new.ports) (map (λ w. w.port) c.args.team.workers) s serve_end.PortFault) (sym c.in-Failed.is)
    (subst (λ ps. TakesThrough tell (state c.args.ports.now) ps (state c.take_back.new.ports)) c.dismiss.ensures.ports c.take_back.ensures, refl)

pub returns-in-Refused : goal.returns-in-Refused
returns-in-Refused g c =
    let port = g.Q.Port.Port in
    let ports = g.Q.Ports in
    let tell : g.row.Q-Port.Denot → PortState g.row.Q-Port-Link.Denot = λ p. port_state (port.links p) (port.returned p) (port.faults p) (port.refusals p) in
    let state : g.row.Q.Denot → PortsState g.row.Q-Port.Denot = λ q. ports_state (ports.waiting q) (ports.taken_back q) (ports.out q) (ports.faults q) (ports.refusals q) in
    subst (λ s. EndsStopped tell (state c.args.ports.now) (state c.take_back.new.ports) (map (λ w. w.port) c.args.team.workers) s serve_end.NoMemory) (sym c.in-Refused.is)
    (subst (λ ps. TakesThrough tell (state c.args.ports.now) ps (state c.take_back.new.ports)) c.dismiss.ensures.ports c.take_back.ensures, refl)

pub returns-in-NoWorker : goal.returns-in-NoWorker
returns-in-NoWorker g c =
    let port = g.Q.Port.Port in
    let ports = g.Q.Ports in
    let tell : g.row.Q-Port.Denot → PortState g.row.Q-Port-Link.Denot = λ p. port_state (port.links p) (port.returned p) (port.faults p) (port.refusals p) in
    let state : g.row.Q.Denot → PortsState g.row.Q-Port.Denot = λ q. ports_state (ports.waiting q) (ports.taken_back q) (ports.out q) (ports.faults q) (ports.refusals q) in
    subst (λ s. EndsStopped tell (state c.args.ports.now) (state c.back.new.self) (map (λ w. w.port) c.args.team.workers) s serve_end.NoMemory) (sym c.in-NoWorker.is) (
      takes_last tell (state c.args.ports.now) (state c.take_back.new.ports) (state c.back.new.self) (map (λ w. w.port) c.args.team.workers) c.in-NoWorker.port
          (subst (λ ps. TakesThrough tell (state c.args.ports.now) ps (state c.take_back.new.ports)) c.dismiss.ensures.ports c.take_back.ensures) c.back.ensures,
      refl,
    )
