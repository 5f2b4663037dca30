use Rattle.std.proofs.Common.{◌∙◌, is_some, refl, sym, ap}
use Rattle.arc_core.specs.Outside.{Linked, linked}
use Rattle.slab.proofs.SlabLemmas.{Updates-with_value}
use Rattle.worker_server.specs.Apart.{session_calls}
use Rattle.event_port.proofs.Calls.{same_lock, ticks_for}
use Rattle.event_port.proofs.Floors.{turned, ended, stands_somehow, some_held, same_count}
use Rattle.event_port.proofs.floor.turn_at.Goals as goal

pub work-requires-clause-stands : goal.work-requires-clause-stands
work-requires-clause-stands g c =
    let link = g.Q.Link.Link in
    let look : g.row.Q-Link.Denot → Linked = λ x. linked (link.left x) (link.read_faults x) (link.sent x) (link.write_faults x) (link.refusals x) (link.agains x) in
    stands_somehow look c.requires.begun.0 _ c.args.floor.now c.args.key c.in-Some.guest.now c.requires.begun.1 (sym c.in-Some.ensures.value)

pub hand_back-requires-clause-held : goal.hand_back-requires-clause-held
hand_back-requires-clause-held g c =
    let link = g.Q.Link.Link in
    let look : g.row.Q-Link.Denot → Linked = λ x. linked (link.left x) (link.read_faults x) (link.sent x) (link.write_faults x) (link.refusals x) (link.agains x) in
    some_held look c.requires.begun.0 _ c.args.floor.now c.args.key c.in-Some.guest.now c.requires.begun.1 (sym c.in-Some.ensures.value)

pub returns-in-None-clause-runs : goal.returns-in-None-clause-runs
returns-in-None-clause-runs g c before runs =
    let link = g.Q.Link.Link in
    let look : g.row.Q-Link.Denot → Linked = λ x. linked (link.left x) (link.read_faults x) (link.sent x) (link.write_faults x) (link.refusals x) (link.agains x) in
    let q = g.Q.Poller in
    let coming = g.C.Clock.coming in
    let guest = c.in-Some.guest.now in
    let at = sym c.in-Some.ensures.value in
    let is = runs.guests c.args.key guest at in
    let worked = c.in-None.ensures.worked is.came (session_calls guest.number runs.calls) (ticks_for guest.number runs.calls before.coming (coming c.args.clock.now) runs.seconds) is.stands in
    turned look before _ c.args.floor.now _ c.args.key guest c.work.new.guest worked.0 c.work.new.seat (coming c.work.new.clock) _ runs at c.in-None.ensures.number worked.1 worked.2
    (Updates-with_value c.args.floor.now.guests c.args.key c.work.new.guest (ap is_some at)) (same_count c.args.floor.now.guests.slots c.args.key guest c.work.new.guest at)
    (record { came = refl; taken_on = refl; limit = refl }) refl refl refl

pub returns-in-None-clause-own : goal.returns-in-None-clause-own
returns-in-None-clause-own g c =
    let link = g.Q.Link.Link in
    let look : g.row.Q-Link.Denot → Linked = λ x. linked (link.left x) (link.read_faults x) (link.sent x) (link.write_faults x) (link.refusals x) (link.agains x) in
    let coming = g.C.Clock.coming in
    let guest = c.in-Some.guest.now in
    let runs = c.requires.begun.1 in
    let is = runs.guests c.args.key guest (sym c.in-Some.ensures.value) in
    let worked = c.in-None.ensures.worked is.came (session_calls guest.number runs.calls) (ticks_for guest.number runs.calls c.requires.begun.0.coming (coming c.args.clock.now) runs.seconds) is.stands in
    same_lock c.args.seat.now worked.0 c.work.new.seat worked.1.called ∙ c.requires.own

pub returns-in-Some-work-clause-runs : goal.returns-in-Some-work-clause-runs
returns-in-Some-work-clause-runs g c before runs =
    let link = g.Q.Link.Link in
    let look : g.row.Q-Link.Denot → Linked = λ x. linked (link.left x) (link.read_faults x) (link.sent x) (link.write_faults x) (link.refusals x) (link.agains x) in
    let q = g.Q.Poller in
    let coming = g.C.Clock.coming in
    let guest = c.in-Some.guest.now in
    let at = sym c.in-Some.ensures.value in
    let is = runs.guests c.args.key guest at in
    let worked = c.in-Some-work.ensures.worked is.came (session_calls guest.number runs.calls) (ticks_for guest.number runs.calls before.coming (coming c.args.clock.now) runs.seconds) is.stands in
    ended look before _ c.args.floor.now _ _ c.args.key guest c.work.new.guest worked.0 c.work.new.seat (coming c.work.new.clock) _ c.in-Some-work.end runs at c.in-Some-work.ensures.number worked.1 worked.2
    (Updates-with_value c.args.floor.now.guests c.args.key c.work.new.guest (ap is_some at)) (same_count c.args.floor.now.guests.slots c.args.key guest c.work.new.guest at)
    (record { came = refl; taken_on = refl; limit = refl }) c.hand_back.ensures

pub returns-in-Some-work-clause-own : goal.returns-in-Some-work-clause-own
returns-in-Some-work-clause-own g c =
    let link = g.Q.Link.Link in
    let look : g.row.Q-Link.Denot → Linked = λ x. linked (link.left x) (link.read_faults x) (link.sent x) (link.write_faults x) (link.refusals x) (link.agains x) in
    let coming = g.C.Clock.coming in
    let guest = c.in-Some.guest.now in
    let runs = c.requires.begun.1 in
    let is = runs.guests c.args.key guest (sym c.in-Some.ensures.value) in
    let worked = c.in-Some-work.ensures.worked is.came (session_calls guest.number runs.calls) (ticks_for guest.number runs.calls c.requires.begun.0.coming (coming c.args.clock.now) runs.seconds) is.stands in
    same_lock c.args.seat.now worked.0 c.work.new.seat worked.1.called ∙ c.requires.own
