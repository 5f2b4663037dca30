use Rattle.std.proofs.Common.{◌∙◌, ◌++◌, refl}
use Rattle.arc_core.specs.Outside.{Linked, linked}
use Rattle.event_port.specs.Running.{StandsAt, IsOverWith}
use Rattle.event_port.proofs.Sessions.{worked_none, worked_on, is_going}
use Rattle.event_port.proofs.Clocks.{goes_on}
use Rattle.event_port.proofs.Calls.{same_lock}
use Rattle.event_port.proofs.turning.work.Goals as goal

pub loop-init : goal.loop-init
loop-init g c =
    let link = g.L.Link in
    let look : g.row.L.Denot → Linked = λ x. linked (link.left x) (link.read_faults x) (link.sent x) (link.write_faults x) (link.refusals x) (link.agains x) in
    record {
      own = c.requires.own;
      number = refl;
      stands = λ came told ticking stands.
          worked_none look came c.args.guest.now.number c.args.seat.now (g.C.Clock.coming c.args.clock.now) told (StandsAt look came c.args.guest.now.link c.args.guest.now.session) stands;
    }

pub turn_once-requires-clause-going : goal.turn_once-requires-clause-going
turn_once-requires-clause-going g c =
    let link = g.L.Link in
    let look : g.row.L.Denot → Linked = λ x. linked (link.left x) (link.read_faults x) (link.sent x) (link.write_faults x) (link.refusals x) (link.agains x) in
    let s = c.requires.stands in
    let now = c.loop.invariant.stands s.0 s.1 s.2 s.3 in is_going look s.0 c.loop.guest.link c.loop.guest.session _ now.2

pub loop-preserved : goal.loop-preserved
loop-preserved g c =
    let link = g.L.Link in
    let look : g.row.L.Denot → Linked = λ x. linked (link.left x) (link.read_faults x) (link.sent x) (link.write_faults x) (link.refusals x) (link.agains x) in
    let coming = g.C.Clock.coming in
    let s = c.requires.stands in
    let now = c.loop.invariant.stands s.0 s.1 s.2 s.3 in
    let next = c.in-More.ensures.turned s.0 (s.1 ++ now.0) (goes_on s.1 now.0 (coming c.args.clock.now) (coming c.loop.clock) s.2 now.1.seconds) now.2 in
    record {
      own = same_lock c.loop.seat next.0 c.turn_once.new.seat next.1.called ∙ c.loop.invariant.own;
      number = c.turn_once.ensures.number ∙ c.loop.invariant.number;
      stands = λ came told ticking stands.
          worked_on look came c.args.guest.now.number c.loop.guest.number c.args.seat.now c.loop.seat c.turn_once.new.seat (coming c.args.clock.now) (coming c.loop.clock) (coming c.turn_once.new.clock) told c.loop.guest
          (StandsAt look came c.turn_once.new.guest.link c.turn_once.new.guest.session) c.loop.invariant.number ticking (c.loop.invariant.stands came told ticking stands) (c.in-More.ensures.turned came);
    }

pub returns-in-Again-clause-worked : goal.returns-in-Again-clause-worked
returns-in-Again-clause-worked g c came told ticking stands =
    let link = g.L.Link in
    let look : g.row.L.Denot → Linked = λ x. linked (link.left x) (link.read_faults x) (link.sent x) (link.write_faults x) (link.refusals x) (link.agains x) in
    let coming = g.C.Clock.coming in
    worked_on look came c.args.guest.now.number c.loop.guest.number c.args.seat.now c.loop.seat c.turn_once.new.seat (coming c.args.clock.now) (coming c.loop.clock) (coming c.turn_once.new.clock) told c.loop.guest
    (StandsAt look came c.turn_once.new.guest.link c.turn_once.new.guest.session) c.loop.invariant.number ticking (c.loop.invariant.stands came told ticking stands) (c.in-Again.ensures.turned came)

pub returns-in-Over-clause-worked : goal.returns-in-Over-clause-worked
returns-in-Over-clause-worked g c came told ticking stands =
    let link = g.L.Link in
    let look : g.row.L.Denot → Linked = λ x. linked (link.left x) (link.read_faults x) (link.sent x) (link.write_faults x) (link.refusals x) (link.agains x) in
    let coming = g.C.Clock.coming in
    worked_on look came c.args.guest.now.number c.loop.guest.number c.args.seat.now c.loop.seat c.turn_once.new.seat (coming c.args.clock.now) (coming c.loop.clock) (coming c.turn_once.new.clock) told c.loop.guest
    (IsOverWith look came c.turn_once.new.guest.link c.in-Over.end) c.loop.invariant.number ticking (c.loop.invariant.stands came told ticking stands) (c.in-Over.ensures.turned came)
