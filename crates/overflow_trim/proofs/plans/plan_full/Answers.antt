use Rattle.std.proofs.Common.{◌∙◌, sym}
use Rattle.overflow_trim.proofs.TrimLemmas.{full_low, full_low_new, full_high, full_high_new}
use Rattle.overflow_trim.proofs.plans.plan_full.Goals as goal

pub returns-then-place-eq0-clause-plan : goal.returns-then-place-eq0-clause-plan
returns-then-place-eq0-clause-plan c =
    full_low_new c.args.action c.args.elem.now c.args.tree.now.elements c.args.place (sym c.trims_smallest.ensures ∙ c.if-trims_smallest.true) c.requires c.if-place-eq0.true

pub returns-else-place-eq0-clause-plan : goal.returns-else-place-eq0-clause-plan
returns-else-place-eq0-clause-plan c =
    full_low c.args.action c.args.elem.now c.args.tree.now.elements c.args.place (sym c.trims_smallest.ensures ∙ c.if-trims_smallest.true) c.requires c.if-place-eq0.false

pub returns-then-place-count-clause-plan : goal.returns-then-place-count-clause-plan
returns-then-place-count-clause-plan c =
    full_high_new c.args.action c.args.elem.now c.args.tree.now.elements c.args.place (sym c.trims_smallest.ensures ∙ c.if-trims_smallest.false) (sym c.trims_greatest.ensures ∙ c.if-trims_greatest.true) c.requires
    (c.if-place-count.true ∙ c.count.ensures)

pub returns-else-place-count-clause-plan : goal.returns-else-place-count-clause-plan
returns-else-place-count-clause-plan c =
    full_high c.args.action c.args.elem.now c.args.tree.now.elements c.args.place (sym c.trims_smallest.ensures ∙ c.if-trims_smallest.false) (sym c.trims_greatest.ensures ∙ c.if-trims_greatest.true) c.requires
    (λ same. c.if-place-count.false (same ∙ sym c.count.ensures))
