use Rattle.std.proofs.Common.{◌≡◌, ◌∙◌, ◌==◌, ◌-◌, ◌^◌, ◌++◌, [], ◌∷◌, if◌then◌else◌, map, refl, ap, sym, subst, arith}
use Rattle.std.specs.List.{AllByRecursion}
use Rattle.worker_ports.specs.Hands.{PortsState, ports_state}
use Rattle.worker_server.specs.Ports.{PortState, port_state}
use Rattle.serve_runs.specs.Serving.{HandsThrough, IsHiredFor}
use Rattle.serve_runs.proofs.Handing.{hands_last, hands_more, all_last, one_longer}
use Rattle.serve_runs.proofs.hiring.hire_all.Goals as goal

pub returns-in-Err-clause-hired : goal.returns-in-Err-clause-hired
returns-in-Err-clause-hired g c =
    let port = g.Q.Port.Port in
    let ports = g.Q.Ports in
    let tell : g.row.Q-Port.Denot → PortState g.row.Q-Port-Link.Denot = λ p. port_state (port.links p) (port.returned p) (port.faults p) (port.refusals p) in
    let state : g.row.Q.Denot → PortsState g.row.Q-Port.Denot = λ q. ports_state (ports.waiting q) (ports.taken_back q) (ports.out q) (ports.faults q) (ports.refusals q) in
    let inv = c.loop.invariant in
    subst (λ team. HandsThrough tell (state c.args.ports.now) (map (λ w. w.port) team.workers ++ c.in-Err.port ∷ []) (state c.hand.new.self)) (sym c.in-Err.ensures.refused)
    (subst (λ p. HandsThrough tell (state c.args.ports.now) (map (λ w. w.port) c.loop.team.workers ++ p ∷ []) (state c.hand.new.self)) (sym c.in-Err.ensures.back)
    (hands_last tell (state c.args.ports.now) (state c.loop.ports) (state c.hand.new.self) (map (λ w. w.port) c.loop.team.workers) c.in-Port.port inv.3 c.in-Port.ensures))

pub loop-preserved : goal.loop-preserved
loop-preserved g c =
    let port = g.Q.Port.Port in
    let ports = g.Q.Ports in
    let tell : g.row.Q-Port.Denot → PortState g.row.Q-Port-Link.Denot = λ p. port_state (port.links p) (port.returned p) (port.faults p) (port.refusals p) in
    let state : g.row.Q.Denot → PortsState g.row.Q-Port.Denot = λ q. ports_state (ports.waiting q) (ports.taken_back q) (ports.out q) (ports.faults q) (ports.refusals q) in
    let inv = c.loop.invariant in
    let workers : c.hire.new.self.workers ≡ _ = ap (λ team. team.workers) c.in-Ok.ensures.hired in (
      ap (λ team. team.opening) c.in-Ok.ensures.hired ∙ inv.0,
      ap (λ team. team.room) c.in-Ok.ensures.hired ∙ inv.1,
      omega (arith, one_longer c.loop.team.workers c.hire.new.self.workers _ workers, inv.2),
      hands_more tell (λ w. w.port) (state c.args.ports.now) (state c.loop.ports) (state c.hand.new.self) c.loop.team.workers c.hire.new.self.workers _ c.in-Port.port inv.3 c.in-Port.ensures refl workers,
      subst (λ ws. AllByRecursion (IsHiredFor g.C.Clock.coming (g.C.Clock.coming c.args.clock.now) (if c.args.sessions == 0 then 2 ^ 64 - 1 else c.args.sessions)) ws) (sym workers)
          (all_last (IsHiredFor g.C.Clock.coming (g.C.Clock.coming c.args.clock.now) (if c.args.sessions == 0 then 2 ^ 64 - 1 else c.args.sessions)) c.loop.team.workers _ inv.4
          (record { clock = c.twin.ensures; limit = refl })),
      refl,
      refl,
      refl,
    )
