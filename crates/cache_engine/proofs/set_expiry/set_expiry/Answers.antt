use Rattle.std.proofs.Common.{w64, sym, ap, ◌∙◌, arith}
use Rattle.std.proofs.lemmas.Int.{to_z-of_z}
use Rattle.std.specs.Option.{option_copied}
use Rattle.cache_engine.proofs.ExpiryLaws.{not_held, held_small, does_cross, does_not_cross, set_there}
use Rattle.cache_engine.proofs.set_expiry.set_expiry.Goals as goal

pub returns-in_default : goal.returns-in_default
returns-in_default c = absurd (not_held c.args.key.now c.args.expiry c.args.shelf.now c.requires.holds c.requires.held (sym c.look.ensures ∙ ap option_copied c.in_default.is))

pub crossing-requires : goal.crossing-requires
crossing-requires c =
    let small = held_small c.args.key.now c.args.shelf.now c.in-Some.item.now c.requires.key c.requires.holds (sym c.look.ensures ∙ ap option_copied c.in-Some.is) in
    omega (arith, small, c.weight-size.ensures)

pub set_expiry_across-requires-clause-crosses : goal.set_expiry_across-requires-clause-crosses
set_expiry_across-requires-clause-crosses c =
    let at = sym c.look.ensures ∙ ap option_copied c.in-Some.is in
    does_cross c.args.key.now c.args.expiry c.args.shelf.now c.requires.holds c.in-Some.item.now at c.is_sticky.result c.is_sticky-sticky.result c.is_sticky.ensures c.is_sticky-sticky.ensures c.weight-size.result _ c.if-is_sticky-sticky.true c.weight-size.ensures
    (to_z-of_z w64 c.crossing.result (record { sfits = c.crossing.type_inv }) ∙ c.crossing.ensures)

pub returns : goal.returns
returns c =
    let at = sym c.look.ensures ∙ ap option_copied c.in-Some.is in
    let side = does_not_cross c.args.key.now c.args.expiry c.args.shelf.now c.requires.holds c.in-Some.item.now at c.is_sticky.result c.is_sticky-sticky.result c.is_sticky.ensures c.is_sticky-sticky.ensures c.if-is_sticky-sticky.false in
    set_there c.args.key.now c.args.expiry c.args.shelf.now c.requires.holds c.in-Some.item.now at side (omega (arith, c.total.ensures.sum, c.total.ensures.within)) (omega (arith, c.sticky_total.ensures.sum, c.sticky_total.ensures.within))
    c.set_expiry_there.new.shelf c.set_expiry_there.ensures
