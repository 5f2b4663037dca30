use Rattle.std.proofs.Common.{refl, inl, inr, arith}
use Rattle.arc_core.specs.Outside.{Linked, linked}
use Rattle.event_port.proofs.Floors.{turned_away}
use Rattle.event_port.proofs.floor.welcome.Goals.{then-len-eq-MOST_LINKS-via-then-len-eq-MOST_LINKS, then-len-eq-MOST_LINKS-via-else-len-eq-MOST_LINKS+then-floor}
use Rattle.event_port.proofs.floor.welcome.Goals as goal

pub returns-then-len-eq-MOST_LINKS-clause-runs : goal.returns-then-len-eq-MOST_LINKS-clause-runs
returns-then-len-eq-MOST_LINKS-clause-runs g c before now runs gives =
    let link = g.Q.Link.Link in
    let look : g.row.Q-Link.Denot → Linked = λ x. linked (link.left x) (link.read_faults x) (link.sent x) (link.write_faults x) (link.refusals x) (link.agains x) in
    turned_away look before now c.args.floor.now _ c.args.link _ _ runs gives c.done.ensures
    (elim c.then-len-eq-MOST_LINKS.branch [
      | then-len-eq-MOST_LINKS-via-then-len-eq-MOST_LINKS w ↦ inl (let a = c.len.ensures in let b = w.if-len-eq-MOST_LINKS.true in omega arith)
      | then-len-eq-MOST_LINKS-via-else-len-eq-MOST_LINKS+then-floor w ↦ inr (let b = w.if-floor.true in omega arith)
    ])
    refl (record { came = refl; taken_on = omega arith; limit = refl })
