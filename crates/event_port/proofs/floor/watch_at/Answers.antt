use Rattle.std.proofs.Common.{is_some, refl, sym, ap}
use Rattle.arc_core.specs.Outside.{Linked, linked}
use Rattle.slab.proofs.SlabLemmas.{Updates-with_value}
use Rattle.event_port.proofs.Lists.{watch_keeps}
use Rattle.event_port.proofs.Floors.{watched, same_count}
use Rattle.event_port.proofs.floor.watch_at.Goals as goal

pub returns-in-Some-clause-runs : goal.returns-in-Some-clause-runs
returns-in-Some-clause-runs g c before now runs =
    let link = g.Q.Link.Link in
    let look : g.row.Q-Link.Denot → Linked = λ x. linked (link.left x) (link.read_faults x) (link.sent x) (link.write_faults x) (link.refusals x) (link.agains x) in
    let guest = c.in-Some.guest.now in
    let at = sym c.in-Some.ensures.value in
    let link' = c.watch.new.link in
    let keeps = watch_keeps c.watch.result _ _ c.watch.ensures.watched c.watch.ensures.failed in
    watched look before _ c.args.floor.now _ c.args.key guest (record guest { link = link' }) _ runs at refl refl c.watch.ensures.link
    (Updates-with_value c.args.floor.now.guests c.args.key (record guest { link = link' }) (ap is_some at)) (same_count c.args.floor.now.guests.slots c.args.key guest (record guest { link = link' }) at)
    (record { came = refl; taken_on = refl; limit = refl }) keeps.0 keeps.1 keeps.2
