use Rattle.std.proofs.Common.{ap, arith}
use Rattle.worker_server.specs.declared.worker.WorkerEnd.TheVariants as worker_end
use Rattle.worker_team.specs.Disbanding.{post}
use Rattle.event_team.proofs.team.EventTeam.hire.Goals as goal
use Rattle.worker_team.proofs.Hiring.{hires}

pub invariant_of-self : goal.invariant_of-self
invariant_of-self g c =
    let hired = hires (λ w. post w.seat w.served w.end) c.self.inside.lock c.self.inside.seat c.split-seat.new.seat c.self.inside.workers.items c.push_reserved.new.self.items _
    c.self.invariant.0 c.self.invariant.1 c.split-seat.ensures.seat (ap (λ s. post s 0 worker_end.NotRun) c.split-seat.ensures.given) c.push_reserved.ensures.items in
    (hired.0, hired.1, c.self.invariant.2, omega (arith, c.push_reserved.ensures.capacity, c.self.invariant.3), c.self.invariant.4, omega (arith, c.push_reserved.ensures.capacity, c.self.invariant.5))
