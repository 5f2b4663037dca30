use Rattle.std.proofs.Common.{◌≡◌, ◌-◌, [], arith, subst}
use Rattle.arc_core.specs.declared.collections.Side.TheVariants.{Low, High}
use Rattle.arc_core.specs.Settling.{settled}
use Rattle.overflow_trim.specs.declared.plans.TrimPlan.TheVariants.{StoreAndTrim}
use Rattle.overflow_trim.specs.Plans.{planned}
use Rattle.tree_coll.proofs.StoreLemmas.{high_fits, low_fits, none_fits, stored_high, stored_low}
use Rattle.tree_coll.proofs.inserts.settle.Goals as goal

pub returns-in-Store-clause-fits : goal.returns-in-Store-clause-fits
returns-in-Store-clause-fits g c =
    none_fits c.args.held.now.contents.elements c.tree.result.now.elements c.args.attrs.now.maxcount c.plan.result c.stored.result _ c.tree.ensures c.in-Store.is c.plan.ensures.limit (c.stored.ensures [] c.args.elem.now.bkey)

pub returns-in-StoreAndTrim-default-Low-clause-settled : goal.returns-in-StoreAndTrim-default-Low-clause-settled
returns-in-StoreAndTrim-default-Low-clause-settled g c =
    let e = c.args.elem.now in
    let attrs = c.args.attrs.now in
    let how : c.plan.result ≡ StoreAndTrim c.in-StoreAndTrim-default-Low.number Low = cc (c.in-StoreAndTrim-default-Low.is, c.in-StoreAndTrim-default-Low.field-1-is) in
    stored_low e attrs c.args.held.now.contents c.plan.result c.in-StoreAndTrim-default-Low.number c.stored-in-StoreAndTrim-default-Low.result how
    (subst (λ xs. planned c.plan.result e xs ≡ settled attrs.maxcount attrs.maxbkeyrange attrs.action e xs) c.tree.ensures c.plan.ensures.plan) c.stored-in-StoreAndTrim-default-Low.ensures

pub returns-in-StoreAndTrim-default-Low-clause-fits : goal.returns-in-StoreAndTrim-default-Low-clause-fits
returns-in-StoreAndTrim-default-Low-clause-fits g c =
    let how : c.plan.result ≡ StoreAndTrim c.in-StoreAndTrim-default-Low.number Low = cc (c.in-StoreAndTrim-default-Low.is, c.in-StoreAndTrim-default-Low.field-1-is) in
    low_fits c.args.held.now.contents.elements c.tree.result.now.elements c.args.attrs.now.maxcount c.in-StoreAndTrim-default-Low.number c.plan.result c.stored-in-StoreAndTrim-default-Low.result _
    c.tree.ensures how c.plan.ensures.limit (c.stored-in-StoreAndTrim-default-Low.ensures [] c.args.elem.now.bkey)

pub returns-in-StoreAndTrim-default-High-clause-settled : goal.returns-in-StoreAndTrim-default-High-clause-settled
returns-in-StoreAndTrim-default-High-clause-settled g c =
    let e = c.args.elem.now in
    let attrs = c.args.attrs.now in
    let number = c.in-StoreAndTrim-default-High.number in
    let how : c.plan.result ≡ StoreAndTrim number High = cc (c.in-StoreAndTrim-default-High.is, c.in-StoreAndTrim-default-High.field-1-is) in
    stored_high e attrs c.args.held.now.contents c.plan.result number (c.count-count.result - number) c.count-count.result c.stored-in-StoreAndTrim-default-High.result how
    (subst (λ xs. planned c.plan.result e xs ≡ settled attrs.maxcount attrs.maxbkeyrange attrs.action e xs) c.tree.ensures c.plan.ensures.plan) c.count-count.ensures (omega arith) c.stored-in-StoreAndTrim-default-High.ensures

pub returns-in-StoreAndTrim-default-High-clause-fits : goal.returns-in-StoreAndTrim-default-High-clause-fits
returns-in-StoreAndTrim-default-High-clause-fits g c =
    let number = c.in-StoreAndTrim-default-High.number in
    let how : c.plan.result ≡ StoreAndTrim number High = cc (c.in-StoreAndTrim-default-High.is, c.in-StoreAndTrim-default-High.field-1-is) in
    high_fits c.args.held.now.contents.elements c.tree.result.now.elements c.args.attrs.now.maxcount number (c.count-count.result - number) c.count-count.result c.plan.result c.stored-in-StoreAndTrim-default-High.result _
    c.tree.ensures how c.plan.ensures.limit c.count-count.ensures (omega arith) (c.stored-in-StoreAndTrim-default-High.ensures [] c.args.elem.now.bkey)
