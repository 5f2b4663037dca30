use Rattle.std.proofs.Common.{◌∙◌, length, map, ap, sym, subst, arith}
use Rattle.arc_core.specs.contracts.links.SteadyLink.{the_row}
use Rattle.arc_core.specs.contracts.links.SteadyLinkLink.TheImpl as link
use Rattle.arc_core.specs.declared.links.SteadyLink.{SteadyLink}
use Rattle.arc_core.specs.Outside.{outgoing}
use Rattle.worker_server.specs.contracts.memory.SteadyPortPort.TheImpl.{ghosts}
use Rattle.worker_server.specs.declared.memory.SteadyPort.{SteadyPort}
use Rattle.worker_server.specs.Ports.{PortState, port_state}
use Rattle.script_runs.specs.Serving.{AllStand, any_stopped, EndsText}
use Rattle.script_runs.proofs.Served.{served, written_ends}
use Rattle.script_runs.proofs.serving.serve_sessions.Goals as goal

abbrev tell : SteadyPort SteadyLink → PortState SteadyLink
tell p =
    let port = ghosts the_row link.ghosts link.dict in
    port_state (port.links p) (port.returned p) (port.faults p) (port.refusals p)

pub write_outcomes-requires : goal.write_outcomes-requires
write_outcomes-requires g c =
    let none = ap any_stopped (sym c.deref.ensures.value) ∙ (sym c.any_stopped.ensures ∙ c.if-any_stopped.false) in
    let all = served link.ghosts.left link.ghosts.sent link.ghosts.refusals tell g.C.Clock.coming c.sessions_are_apart.ensures (g.E.Executor.state c.args.executor) c.hire_all.new.team.opening c.args.workers (g.C.Clock.coming c.args.clock.now)
    c.requires.servable.0 c.args.links.items c.hire_all.new.team.workers (g.E.Executor.state c.serve-executor.result.0) c.serve-executor.result.1.items (omega (arith, c.requires.at_least))
    (c.in-Ok-hire_all.ensures.opening ∙ c.in-Ok.ensures.opening) c.requires.servable.1 c.in-Ok-hire_all.ensures.hired c.serve-executor.ensures none in (
      all.0,
      omega (arith, all.2, c.len-number.ensures, c.args.links.ok.0),
      subst (λ ms. AllStand link.ghosts.sent (λ p. (tell p).returned) (length ms) (map (λ m. m.port) ms) 0 all.0) (sym c.deref-2.ensures.value) all.3,
    )

pub returns : goal.returns
returns g c text servable =
    let none = ap any_stopped (sym c.deref.ensures.value) ∙ (sym c.any_stopped.ensures ∙ c.if-any_stopped.false) in
    let all = served link.ghosts.left link.ghosts.sent link.ghosts.refusals tell g.C.Clock.coming c.sessions_are_apart.ensures (g.E.Executor.state c.args.executor) c.hire_all.new.team.opening c.args.workers (g.C.Clock.coming c.args.clock.now)
    text c.args.links.items c.hire_all.new.team.workers (g.E.Executor.state c.serve-executor.result.0) c.serve-executor.result.1.items (omega (arith, c.requires.at_least))
    (c.in-Ok-hire_all.ensures.opening ∙ c.in-Ok.ensures.opening) servable c.in-Ok-hire_all.ensures.hired c.serve-executor.ensures none in
    let writes = c.write_outcomes.ensures all.0 (omega (arith, all.2, c.len-number.ensures, c.args.links.ok.0))
    (subst (λ ms. AllStand link.ghosts.sent (λ p. (tell p).returned) (length ms) (map (λ m. m.port) ms) 0 all.0) (sym c.deref-2.ensures.value) all.3) in
    let before = outgoing (g.K.Sink.sent c.args.sink.now) (g.K.Sink.write_faults c.args.sink.now) (g.K.Sink.refusals c.args.sink.now) in
    let after = outgoing (g.K.Sink.sent c.write_outcomes.new.sink) (g.K.Sink.write_faults c.write_outcomes.new.sink) (g.K.Sink.refusals c.write_outcomes.new.sink) in
    subst (EndsText (g.E.Executor.state c.args.executor) c.args.workers (g.C.Clock.coming c.args.clock.now) text before after) (sym c.end_of.ensures)
    (written_ends (g.E.Executor.state c.args.executor) c.args.workers (g.C.Clock.coming c.args.clock.now) text before after all.0 c.write_outcomes.result all.1 writes)
