use Rattle.std.proofs.Common.{◌∙◌, List, sym, ap, rules}
use Rattle.arc_core.specs.History.{Entry}
use Rattle.arc_core.specs.Outside.{Linked, linked}
use Rattle.event_port.specs.Desks.{Behind, behind}
use Rattle.event_port.specs.declared.desk.GuestDesk.{GuestDesk}
use Rattle.event_port.proofs.Sessions.{turned_once}
use Rattle.event_port.proofs.turning.turn_once.Goals as goal

pub returns-clause-turned : goal.returns-clause-turned
returns-clause-turned g c came told ticking stands =
    let link = g.L.Link in
    let look : g.row.L.Denot → Linked = λ x. linked (link.left x) (link.read_faults x) (link.sent x) (link.write_faults x) (link.refusals x) (link.agains x) in
    let made = c.new-desk.ensures in
    let desk = c.new-desk.result in
    let desk' = c.turn-turn.new.desk in
    let view : GuestDesk g.row.R.Denot g.row.E.Denot → Behind = λ d. behind d.past d.session d.seat.now d.seat.ghost_name in
    let put : List Entry → GuestDesk g.row.R.Denot g.row.E.Denot = λ p. record desk { past = p } in
    turned_once look view put c.args.guest.now.number desk.seat.ghost_name c.args.seat.now _ _ _
    (λ p. ap (λ s. behind p s desk.seat.now desk.seat.ghost_name) made.session ∙ ap (λ s. behind p c.args.guest.now.number s desk.seat.ghost_name) made.seat) desk' c.is_nothing.ensures
    (λ same. let name = sym (same ∙ made.same_seat) in search rules)
    came c.args.guest.now (record { number = c.args.guest.now.number; link = c.turn-turn.new.link; session = c.turn-turn.new.self }) _ _ c.turn-turn.result told desk
    (ap (λ p. record desk { past = p }) (sym made.past)) ticking stands c.turn-turn.ensures
