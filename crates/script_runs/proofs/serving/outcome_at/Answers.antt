use Rattle.std.proofs.Common.{◌≡◌, ◌∙◌, ap, arith}
use Rattle.arc_core.specs.contracts.links.SteadyLinkLink.TheImpl.{ghosts}
use Rattle.script_runs.proofs.Places.{at_below, at_one, at_read}
use Rattle.script_runs.proofs.Writings.{same_told, found, some_worker}
use Rattle.script_runs.proofs.serving.outcome_at.Goals as goal

pub offset_bounds-returned-number : goal.offset_bounds-returned-number
offset_bounds-returned-number c =
    let stands = c.requires.1 in
    let there = found _ _ (λ m. m.port) _ c.args.members.now c.args.number c.requires.0 stands c.index-members-number.result c.index-members-number.is (some_worker _ _ (λ m. m.port) _ c.args.members.now c.args.number c.requires.0 stands)
    c.returned.result.now c.returned.ensures in
    omega (arith, at_below c.returned.result.now _ stands.pair there, c.returned.type_inv.1)

pub bounds-returned-number : goal.bounds-returned-number
bounds-returned-number c =
    let stands = c.requires.1 in
    let there = found _ _ (λ m. m.port) _ c.args.members.now c.args.number c.requires.0 stands c.index-members-number.result c.index-members-number.is (some_worker _ _ (λ m. m.port) _ c.args.members.now c.args.number c.requires.0 stands)
    c.returned.result.now c.returned.ensures in
    at_below c.returned.result.now _ stands.pair there

pub returns : goal.returns
returns c outcome stands =
    let there = found _ _ (λ m. m.port) _ c.args.members.now c.args.number outcome stands c.index-members-number.result c.index-members-number.is (some_worker _ _ (λ m. m.port) _ c.args.members.now c.args.number outcome stands)
    c.returned.result.now c.returned.ensures in
    let read = at_read c.returned.result.now _ c.index-returned-number.result (at_below c.returned.result.now _ stands.pair there) in
    let same : c.index-returned-number.result ≡ stands.pair = c.index-returned-number.is ∙ at_one c.returned.result.now _ _ stands.pair read there in
    (ap (λ p. p.1) same ∙ stands.ended, same_told _ c.sent.result.now outcome.sent c.sent.ensures (ap (λ p. ghosts.sent p.0) same ∙ stands.sent))
