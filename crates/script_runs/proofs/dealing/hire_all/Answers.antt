use Rattle.std.proofs.Common.{◌∙◌, ◌-◌, ◌^◌, refl, arith}
use Rattle.arc_core.specs.contracts.links.SteadyLink.{the_row}
use Rattle.arc_core.specs.contracts.links.SteadyLinkLink.TheImpl as link
use Rattle.arc_core.specs.declared.links.SteadyLink.{SteadyLink}
use Rattle.worker_server.specs.contracts.memory.SteadyPortPort.TheImpl.{ghosts}
use Rattle.worker_server.specs.declared.memory.SteadyPort.{SteadyPort}
use Rattle.worker_server.specs.Ports.{PortState, port_state}
use Rattle.worker_team.specs.Team.{hired}
use Rattle.script_runs.proofs.Places.{rest_goes_on}
use Rattle.script_runs.proofs.Hirings.{port_is, fewer_hired, hires_one, after_hire}
use Rattle.script_runs.proofs.dealing.hire_all.Goals as goal

abbrev tell : SteadyPort SteadyLink → PortState SteadyLink
tell p =
    let port = ghosts the_row link.ghosts link.dict in
    port_state (port.links p) (port.returned p) (port.faults p) (port.refusals p)

pub hire-requires-clause-room : goal.hire-requires-clause-room
hire-requires-clause-room g c =
    let inv = c.loop-hand.invariant in
    let fewer = fewer_hired tell g.C.Clock.coming (g.C.Clock.coming c.args.clock.now) (λ hand. hand.items) c.into_iter-hand-iterator.result.rest.items c.loop-hand.yielded c.loop-hand.hand-iterator.rest.items c.next.new.self.rest.items
    c.in-Some.hand c.loop-hand.team.workers inv.4 inv.5 c.in-Some.ensures.steps.0 in
    omega (arith, fewer, inv.6, inv.3, c.requires.room)

pub hire-requires-clause-few : goal.hire-requires-clause-few
hire-requires-clause-few g c =
    let inv = c.loop-hand.invariant in
    let fewer = fewer_hired tell g.C.Clock.coming (g.C.Clock.coming c.args.clock.now) (λ hand. hand.items) c.into_iter-hand-iterator.result.rest.items c.loop-hand.yielded c.loop-hand.hand-iterator.rest.items c.next.new.self.rest.items
    c.in-Some.hand c.loop-hand.team.workers inv.4 inv.5 c.in-Some.ensures.steps.0 in
    omega (arith, fewer, inv.6, c.requires.few)

pub loop-hand-preserved : goal.loop-hand-preserved
loop-hand-preserved g c =
    let inv = c.loop-hand.invariant in
    let worker = hired c.new.result c.twin.result (2 ^ 64 - 1) in
    let team = after_hire c.loop-hand.team c.hire.new.self worker c.in-Ok-hire.ensures.hired in (
      tt,
      tt,
      team.0 ∙ inv.2,
      team.1 ∙ inv.3,
      hires_one tell g.C.Clock.coming (g.C.Clock.coming c.args.clock.now) (λ hand. hand.items) c.loop-hand.yielded c.in-Some.hand c.loop-hand.team.workers c.hire.new.self.workers worker inv.4 team.2
          (record { port = port_is _ _ _ c.in-Some.hand.items c.new.ensures.links c.new.ensures.returned c.new.ensures.no_refusal; clock = c.twin.ensures }),
      rest_goes_on c.into_iter-hand-iterator.result.rest.items c.loop-hand.yielded c.loop-hand.hand-iterator.rest.items c.next.new.self.rest.items c.in-Some.hand inv.5 c.in-Some.ensures.steps.0,
      inv.6,
      refl,
    )
