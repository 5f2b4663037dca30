use Rattle.std.proofs.Common.{sym, ◌∙◌}
use Rattle.overflow_trim.proofs.EndLemmas.{place_of_greatest, place_of_least}
use Rattle.overflow_trim.proofs.plans.plan_in.Goals as goal

pub plan_above-requires-clause-last : goal.plan_above-requires-clause-last
plan_above-requires-clause-last g c =
    place_of_greatest c.args.limits.now.maxbkeyrange c.args.elem.now c.args.tree.now.elements c.new_place-place.result c.new_place-place.ensures (sym c.is_too_high.ensures ∙ c.if-is_too_high.true)

pub plan_below-requires-clause-first : goal.plan_below-requires-clause-first
plan_below-requires-clause-first g c =
    place_of_least c.args.limits.now.maxbkeyrange c.args.elem.now c.args.tree.now.elements c.new_place-place.result c.new_place-place.ensures (sym c.is_too_low.ensures ∙ c.if-is_too_low.true)
