use Rattle.std.proofs.Common.{◌∙◌, sym, ap, map}
use Rattle.event_port.specs.Teams.{limit_of}
use Rattle.worker_team.specs.Team.{hired}
use Rattle.worker_team.proofs.Hiring.{map_through}
use Rattle.worker_team.proofs.Running.{left_ports, none_has_run}
use Rattle.event_team.proofs.team.EventTeam.dismiss.Goals as goal

pub returns-clause-ports : goal.returns-clause-ports
returns-clause-ports g c =
    left_ports (λ w. w.poller) (λ w. w.served) (λ w. w.end) c.self.inside.workers.items c.part-seats.result.1.items c.part-seats.ensures.members
    ∙ (sym (map_through (λ w. hired w.poller w.clock (limit_of w.sessions)) (λ h. h.port) c.self.inside.workers.items) ∙ ap (λ team. map (λ h. h.port) team.workers) c.self.view_is)

pub returns-clause-not_run : goal.returns-clause-not_run
returns-clause-not_run g c =
    none_has_run (λ w. w.poller) (λ w. w.seat) (λ w. w.served) (λ w. w.end) c.self.inside.lock c.self.inside.seat.opening 1 c.self.inside.workers.items c.part-seats.result.1.items
    c.self.invariant.1 c.part-seats.ensures.members
