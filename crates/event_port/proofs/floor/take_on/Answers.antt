use Rattle.std.proofs.Common.{◌∙◌, refl, ap}
use Rattle.arc_core.specs.Outside.{Linked, linked}
use Rattle.event_port.specs.declared.guests.Guest.{Guest}
use Rattle.slab.specs.Slab.{get, slab_len}
use Rattle.event_port.proofs.Sessions.{fresh_alone}
use Rattle.event_port.proofs.Floors.{untouched, taken_on, takes_same}
use Rattle.event_port.proofs.floor.take_on.Goals as goal

pub returns-in_default-clause-runs : goal.returns-in_default-clause-runs
returns-in_default-clause-runs g c before now runs gives =
    let link = g.Q.Link.Link in
    let look : g.row.Q-Link.Denot → Linked = λ x. linked (link.left x) (link.read_faults x) (link.sent x) (link.write_faults x) (link.refusals x) (link.agains x) in
    untouched look before now c.args.floor.now _ c.args.link _ _ runs gives c.done.ensures c.requires.room (λ key. refl) refl (record { came = refl; taken_on = refl; limit = refl })

pub returns-in-Ok-clause-runs : goal.returns-in-Ok-clause-runs
returns-in-Ok-clause-runs g c before now runs gives =
    let link = g.Q.Link.Link in
    let look : g.row.Q-Link.Denot → Linked = λ x. linked (link.left x) (link.read_faults x) (link.sent x) (link.write_faults x) (link.refusals x) (link.agains x) in
    let inserted = c.in-Ok.ensures in
    let guest : Guest g.row.Q-Link.Denot = record { number = c.args.floor.now.came; link = c.args.link; session = c.in-Some.session } in
    taken_on look before now c.args.floor.now _ c.args.link _ c.in-Ok.key guest runs gives c.requires.room refl refl
    (fresh_alone (look c.args.link).incoming (look c.args.link).outgoing c.in-Some.session c.in-Some.ensures) inserted.was_vacant inserted.updates inserted.len (record { came = refl; taken_on = refl; limit = refl })

pub returns-in-Err-clause-runs : goal.returns-in-Err-clause-runs
returns-in-Err-clause-runs g c before now runs gives =
    let link = g.Q.Link.Link in
    let look : g.row.Q-Link.Denot → Linked = λ x. linked (link.left x) (link.read_faults x) (link.sent x) (link.write_faults x) (link.refusals x) (link.agains x) in
    let same = c.in-Err.ensures.err in
    untouched look before now c.args.floor.now _ c.args.link _ _ runs gives (takes_same _ _ _ _ _ (c.link_of.ensures ∙ ap (λ x. x.link) c.in-Err.ensures.value_returned) c.done-in-Err.ensures) c.requires.room (λ key. ap (λ s. get s key) same) (ap slab_len same) (record { came = refl; taken_on = refl; limit = refl })
