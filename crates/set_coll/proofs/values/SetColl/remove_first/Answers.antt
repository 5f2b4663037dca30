use Rattle.std.proofs.Common.{arith, ap, length, take, ◌∙◌}
use Rattle.std.proofs.lemmas.List.{length-drop}
use Rattle.set_coll.specs.SetContents.{SetContents}
use Rattle.arc_core.proofs.MappedLists.{drop_seen, first_removed}
use Rattle.set_coll.proofs.SizeLemmas.{size_dropped}
use Rattle.set_coll.proofs.values.SetColl.remove_first.Goals as goal

pub invariant_of-self : goal.invariant_of-self
invariant_of-self c =
    let keys = c.self.inside.table.keys in
    let n = c.min-n.result in
    let removed = c.drop-drain.ensures.kept ∙ c.drain.ensures.kept in (
      omega (arith, ap length removed, length-drop n keys, c.self.invariant.0),
      size_dropped (λ v. v.items) keys _ _ n _ _ removed (ap (take n) c.as_slice.ensures.keys) c.self.invariant.1 c.values_size-gone.ensures,
    )

pub returns-clause-values : goal.returns-clause-values
returns-clause-values c =
    let seen = ap (λ (s : SetContents). s.values) c.self.view_is in
    let removed = c.drop-drain.ensures.kept ∙ c.drain.ensures.kept in
    let first = first_removed c.self.inside.table.keys _ _ c.args.n _ c.len.ensures.len c.min-n.ensures removed in
    drop_seen (λ v. v.items) _ _ seen _ c.args.n first
