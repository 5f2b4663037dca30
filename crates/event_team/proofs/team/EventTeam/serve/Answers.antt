use Rattle.std.proofs.Common.{◌≡◌, ◌∙◌, List, map, drop, length, sym, ap, subst, arith}
use Rattle.std.specs.List.{All}
use Rattle.arc_core.specs.Outside.{Linked, linked}
use Rattle.event_port.specs.declared.team.EventWorker.{EventWorker}
use Rattle.event_port.specs.Pollers.{PollerState, poller_state}
use Rattle.event_port.specs.Teams.{MemberState, HaveServedEvents}
use Rattle.event_team.specs.Served.{HasServedPoller}
use Rattle.worker_server.specs.Ports.{port_state}
use Rattle.worker_team.specs.Team.{left, TeamHasWorked}
use Rattle.worker_team.specs.Disbanding.{main_seat, AreOut, Closes}
use Rattle.worker_team.proofs.Hiring.{map_length}
use Rattle.worker_team.proofs.Running.{front_is_all, own_seats}
use Rattle.event_team.proofs.Serving.{state, served_many, served_out, served_team}
use Rattle.event_team.proofs.team.EventTeam.serve.Goals as goal

pub serve_events-requires-after_bounds : goal.serve_events-requires-after_bounds
serve_events-requires-after_bounds g c κs within =
    subst (λ ws. All (λ (w : EventWorker g.row.E.Denot g.row.Q.Denot g.row.C.Denot). w.seat.lock ≡ c.self.inside.lock) ws) (sym c.deref_mut.ensures.value)
    (own_seats (λ w. w.seat) (λ w. w.served) (λ w. w.end) c.self.inside.lock c.self.inside.seat.opening 1 c.self.inside.workers.items c.self.invariant.1)

pub close_joined-requires-clause-seat : goal.close_joined-requires-clause-seat
close_joined-requires-clause-seat g c =
    let link = g.Q.Link.Link in
    let port = g.Q.Poller in
    let look : g.row.Q-Link.Denot → Linked = λ x. linked (link.left x) (link.read_faults x) (link.sent x) (link.write_faults x) (link.refusals x) (link.agains x) in
    let tell : g.row.Q.Denot → PollerState g.row.Q-Link.Denot = λ p. poller_state (port_state (port.links p) (port.returned p) (port.faults p) (port.refusals p)) (port.held p) in
    let told : List (EventWorker g.row.E.Denot g.row.Q.Denot g.row.C.Denot) → List (MemberState g.row.Q-Link.Denot) = map (state look tell g.C.Clock.coming (λ w. w.poller) (λ w. w.clock) (λ w. w.seat) (λ w. w.sessions) (λ w. w.served) (λ w. w.end)) in
    let before = c.self.inside.workers.items in
    let after = c.serve_events.new.workers in
    let served = subst (λ ws. HaveServedEvents look (told ws) (told after)) c.deref_mut.ensures.value c.serve_events.ensures in
    let many = served_many look tell g.C.Clock.coming (λ w. w.poller) (λ w. w.clock) (λ w. w.seat) (λ w. w.sessions) (λ w. w.served) (λ w. w.end) before after served in
    let same = front_is_all after (drop (length after) before) c.self.inside.workers.len (omega (arith, many, c.self.inside.workers.ok)) in
    let seats = c.part-seats.ensures.seats ∙ ap (map (λ w. w.seat)) same in
    let count : length before ≡ length c.part-seats.result.0.items = omega (arith, ap length seats, many, map_length (λ (w : EventWorker g.row.E.Denot g.row.Q.Denot g.row.C.Denot). w.seat) after) in
    c.self.invariant.0 ∙ ap (λ n. main_seat c.self.inside.lock c.self.inside.seat.opening n) count

pub close_joined-requires-clause-out : goal.close_joined-requires-clause-out
close_joined-requires-clause-out g c =
    let link = g.Q.Link.Link in
    let port = g.Q.Poller in
    let look : g.row.Q-Link.Denot → Linked = λ x. linked (link.left x) (link.read_faults x) (link.sent x) (link.write_faults x) (link.refusals x) (link.agains x) in
    let tell : g.row.Q.Denot → PollerState g.row.Q-Link.Denot = λ p. poller_state (port_state (port.links p) (port.returned p) (port.faults p) (port.refusals p)) (port.held p) in
    let told : List (EventWorker g.row.E.Denot g.row.Q.Denot g.row.C.Denot) → List (MemberState g.row.Q-Link.Denot) = map (state look tell g.C.Clock.coming (λ w. w.poller) (λ w. w.clock) (λ w. w.seat) (λ w. w.sessions) (λ w. w.served) (λ w. w.end)) in
    let before = c.self.inside.workers.items in
    let after = c.serve_events.new.workers in
    let served = subst (λ ws. HaveServedEvents look (told ws) (told after)) c.deref_mut.ensures.value c.serve_events.ensures in
    let many = served_many look tell g.C.Clock.coming (λ w. w.poller) (λ w. w.clock) (λ w. w.seat) (λ w. w.sessions) (λ w. w.served) (λ w. w.end) before after served in
    let same = front_is_all after (drop (length after) before) c.self.inside.workers.len (omega (arith, many, c.self.inside.workers.ok)) in
    subst (λ seats. AreOut c.self.inside.lock 1 seats) (sym (c.part-seats.ensures.seats ∙ ap (map (λ w. w.seat)) same))
    (served_out look tell g.C.Clock.coming (λ w. w.poller) (λ w. w.clock) (λ w. w.seat) (λ w. w.sessions) (λ w. w.served) (λ w. w.end) c.self.inside.lock c.self.inside.seat.opening before after served c.self.invariant.1)

pub returns : goal.returns
returns g c =
    let link = g.Q.Link.Link in
    let port = g.Q.Poller in
    let look : g.row.Q-Link.Denot → Linked = λ x. linked (link.left x) (link.read_faults x) (link.sent x) (link.write_faults x) (link.refusals x) (link.agains x) in
    let tell : g.row.Q.Denot → PollerState g.row.Q-Link.Denot = λ p. poller_state (port_state (port.links p) (port.returned p) (port.faults p) (port.refusals p)) (port.held p) in
    let told : List (EventWorker g.row.E.Denot g.row.Q.Denot g.row.C.Denot) → List (MemberState g.row.Q-Link.Denot) = map (state look tell g.C.Clock.coming (λ w. w.poller) (λ w. w.clock) (λ w. w.seat) (λ w. w.sessions) (λ w. w.served) (λ w. w.end)) in
    let before = c.self.inside.workers.items in
    let after = c.serve_events.new.workers in
    let served = subst (λ ws. HaveServedEvents look (told ws) (told after)) c.deref_mut.ensures.value c.serve_events.ensures in
    let many = served_many look tell g.C.Clock.coming (λ w. w.poller) (λ w. w.clock) (λ w. w.seat) (λ w. w.sessions) (λ w. w.served) (λ w. w.end) before after served in
    let same = front_is_all after (drop (length after) before) c.self.inside.workers.len (omega (arith, many, c.self.inside.workers.ok)) in
    let closing = g.E.Executor.state c.close_joined.result in
    let members = c.part-seats.result.1.items in
    let closes = subst (λ seats. Closes c.self.inside.seat.opening seats closing) (c.part-seats.ensures.seats ∙ ap (map (λ w. w.seat)) same) c.close_joined.ensures in
    let left_are = c.part-seats.ensures.members ∙ ap (map (λ w. left w.poller w.served w.end)) same in
    subst (λ team. TeamHasWorked (HasServedPoller look tell g.C.Clock.coming) team.opening team.workers closing members) c.self.view_is
    (served_team look tell g.C.Clock.coming (λ w. w.poller) (λ w. w.clock) (λ w. w.seat) (λ w. w.sessions) (λ w. w.served) (λ w. w.end) c.self.inside.lock c.self.inside.seat.opening before after closing members served c.self.invariant.1 closes left_are)
