use Rattle.std.proofs.Common.{arith, sym, ◌∙◌}
use Rattle.btree_scan.proofs.SpanLemmas.{there}
use Rattle.btree_scan.proofs.leaves.number_up_to.Goals as goal

pub returns-then-is_at-clause-within : goal.returns-then-is_at-clause-within
returns-then-is_at-clause-within c =
    omega (arith, there c.args.bkey.now c.args.elements.now c.requires (sym c.is_at.ensures ∙ c.if-is_at.true), c.number_below-below.ensures.place)
