use Rattle.std.proofs.Common.{◌≡◌, map, take}
use Rattle.worker_server.specs.Workers.{HasMet}
use Rattle.event_port.proofs.team.meet_all.Given as goal

-- it has met the first ones, which are as they were
abbrev pub invariant-loop-place : goal.invariant-loop-place
invariant-loop-place g l = record {
  met : HasMet l.fn.seat (map (λ w. w.seat) (take l.place l.fn.others)) l.seat;
  own : l.seat.lock ≡ l.fn.lock;
  same : l.others ≡ l.fn.others;
}
