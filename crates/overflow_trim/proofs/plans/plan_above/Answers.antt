use Rattle.std.proofs.Common.{◌∙◌, sym}
use Rattle.overflow_trim.proofs.TrimLemmas.{above_trims, above_some}
use Rattle.overflow_trim.proofs.plans.plan_above.Goals as goal

pub returns-clause-plan : goal.returns-clause-plan
returns-clause-plan g c =
    above_trims c.args.limits.now.maxbkeyrange c.args.limits.now.action c.args.elem.now c.args.tree.now.elements c.number_below.result c.in-Number.number c.in-Number.is (sym c.trims_smallest.ensures ∙ c.if-not-trims_smallest.false) c.requires.last c.number_below.ensures

pub returns-clause-limit : goal.returns-clause-limit
returns-clause-limit g c =
    (above_some c.args.limits.now.maxbkeyrange c.args.elem.now c.args.tree.now.elements c.number_below.result c.in-Number.number c.in-Number.is c.requires.wide c.requires.last c.number_below.ensures, c.number_below.ensures.within)
