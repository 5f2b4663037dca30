use Rattle.std.proofs.Common.{◌∙◌, sym, arith}
use Rattle.overflow_trim.proofs.TrimLemmas.{below_trims, below_some}
use Rattle.overflow_trim.proofs.plans.plan_below.Goals as goal

pub overflow_add-highest : goal.overflow_add-highest
overflow_add-highest g c = omega (arith, c.greatest_number-greatest.ensures c.in-Number.number c.in-Number.is, c.greatest_number-greatest.type_inv)

pub prove-unreachable-requires : goal.prove-unreachable-requires
prove-unreachable-requires g c = absurd (omega (arith, c.if-prove.true, c.greatest_number-greatest.ensures c.in-Number.number c.in-Number.is))

pub number_above-requires : goal.number_above-requires
number_above-requires g c = omega (arith, c.greatest_number-greatest.ensures c.in-Number.number c.in-Number.is, c.greatest_number-greatest.type_inv)

pub returns-clause-plan : goal.returns-clause-plan
returns-clause-plan g c =
    below_trims c.args.limits.now.maxbkeyrange c.args.limits.now.action c.args.elem.now c.args.tree.now.elements c.number_above.result c.in-Number.number c.in-Number.is
    (sym c.trims_greatest.ensures ∙ c.if-not-trims_greatest.false) c.requires.first c.number_above.ensures

pub returns-clause-limit : goal.returns-clause-limit
returns-clause-limit g c =
    (below_some c.args.limits.now.maxbkeyrange c.args.elem.now c.args.tree.now.elements c.number_above.result c.in-Number.number c.in-Number.is c.requires.first c.requires.wide c.number_above.ensures, c.number_above.ensures.within)
