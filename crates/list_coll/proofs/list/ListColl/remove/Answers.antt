use Rattle.std.proofs.Common.{arith, ◌∙◌, ◌+◌}
use Rattle.list_coll.proofs.SizeLemmas.{range_removed}
use Rattle.list_coll.proofs.list.ListColl.remove.Goals as goal

pub invariant_of-self : goal.invariant_of-self
invariant_of-self c =
    let is = c.drop-drain.ensures.items ∙ c.drain.ensures.kept in
    range_removed c.self.inside.elements.items _ c.args.low (c.args.high + 1) _ _ _ (omega (arith, c.requires.order)) is c.self.invariant c.size_between-gone.ensures
