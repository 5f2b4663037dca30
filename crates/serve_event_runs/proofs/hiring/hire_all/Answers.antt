use Rattle.std.proofs.Common.{◌≡◌, ◌∙◌, ◌==◌, ◌-◌, ◌^◌, if◌then◌else◌, inl, refl, ap, sym, subst, arith}
use Rattle.std.specs.List.{AllByRecursion}
use Rattle.worker_ports.specs.Hands.{PortsState, ports_state}
use Rattle.worker_server.specs.Ports.{PortState, port_state}
use Rattle.serve_runs.specs.Serving.{IsHiredFor}
use Rattle.serve_runs.proofs.Handing.{hands_more, all_last, one_longer}
use Rattle.serve_event_runs.proofs.hiring.hire_all.Goals as goal

pub returns-in-NoMemory-clause-hired : goal.returns-in-NoMemory-clause-hired
returns-in-NoMemory-clause-hired g c =
    let all = g.Q.EventPorts in
    let ports = g.Q.Ports in
    let state : g.row.Q.Denot → PortsState g.row.Q-Poller.Denot = λ q. ports_state (all.pollers_waiting q) (all.pollers_back q) (all.pollers_out q) (ports.faults q) (ports.refusals q) in
    record { handed_out = state c.loop.ports; handed = c.loop.invariant.3; refused = inl c.in-NoMemory.ensures }

pub loop-preserved : goal.loop-preserved
loop-preserved g c =
    let port = g.Q.Poller.Poller in
    let all = g.Q.EventPorts in
    let ports = g.Q.Ports in
    let tell : g.row.Q-Poller.Denot → PortState g.row.Q-Poller-Link.Denot = λ p. port_state (port.links p) (port.returned p) (port.faults p) (port.refusals p) in
    let state : g.row.Q.Denot → PortsState g.row.Q-Poller.Denot = λ q. ports_state (all.pollers_waiting q) (all.pollers_back q) (all.pollers_out q) (ports.faults q) (ports.refusals q) in
    let inv = c.loop.invariant in
    let workers : c.hire.new.self.workers ≡ _ = ap (λ team. team.workers) c.hire.ensures in (
      ap (λ team. team.opening) c.hire.ensures ∙ inv.0,
      ap (λ team. team.room) c.hire.ensures ∙ inv.1,
      omega (arith, one_longer c.loop.team.workers c.hire.new.self.workers _ workers, inv.2),
      hands_more tell (λ w. w.port) (state c.args.ports.now) (state c.loop.ports) (state c.hand_poller.new.self) c.loop.team.workers c.hire.new.self.workers _ c.in-Port.poller inv.3 c.in-Port.ensures refl workers,
      subst (λ ws. AllByRecursion (IsHiredFor g.C.Clock.coming (g.C.Clock.coming c.args.clock.now) (if c.args.sessions == 0 then 2 ^ 64 - 1 else c.args.sessions)) ws) (sym workers)
          (all_last (IsHiredFor g.C.Clock.coming (g.C.Clock.coming c.args.clock.now) (if c.args.sessions == 0 then 2 ^ 64 - 1 else c.args.sessions)) c.loop.team.workers _ inv.4
          (record { clock = c.twin.ensures; limit = refl })),
      refl,
      refl,
      refl,
    )
