use Rattle.std.proofs.Common.{◌≡◌, List, ◌++◌}
use Rattle.arc_core.specs.History.{Entry}
use Rattle.arc_core.specs.Outside.{Linked, linked}
use Rattle.event_port.specs.Running.{GoesOnTicking, MadeCalls, StandsAt}
use Rattle.event_port.proofs.turning.work.Given as goal

-- what the session has done so far
abbrev pub invariant-loop : goal.invariant-loop
invariant-loop g l =
    let link = g.L.Link in
    let look : g.row.L.Denot → Linked = λ x. linked (link.left x) (link.read_faults x) (link.sent x) (link.write_faults x) (link.refusals x) (link.agains x) in
    let coming = g.C.Clock.coming in
    record {
      own : l.seat.lock ≡ l.fn.lock;
      number : l.guest.number ≡ l.fn.guest.number;
      stands : (came : g.row.L.Denot) (told : List Entry) → GoesOnTicking told (coming l.fn.clock) → StandsAt look came l.fn.guest.link l.fn.guest.session told
          → (more : List Entry) × MadeCalls l.fn.guest.number more l.fn.seat l.seat (coming l.fn.clock) (coming l.clock) × StandsAt look came l.guest.link l.guest.session (told ++ more);
    }
