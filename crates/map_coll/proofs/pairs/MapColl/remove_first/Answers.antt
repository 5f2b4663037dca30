use Rattle.std.proofs.Common.{◌≡◌, ◌%◌, ◌^◌, All, false, length, arith, ap, sym, subst, ◌∙◌}
use Rattle.std.proofs.lemmas.List.{length-drop}
use Rattle.std.proofs.lemmas.List.Elements.{All-drop}
use Rattle.arc_core.specs.CollectionSize.{pairs_size}
use Rattle.arc_core.specs.Key.{IsKey}
use Rattle.map_coll.specs.MapContents.{MapContents}
use Rattle.arc_core.proofs.MappedLists.{drop_seen, first_removed}
use Rattle.map_coll.proofs.SizeLemmas.{size_dropped}
use Rattle.map_coll.proofs.pairs.MapColl.remove_first.Goals as goal

pub invariant_of-self : goal.invariant_of-self
invariant_of-self c =
    let es = c.self.inside.table.entries in
    let n = c.min-n.result in
    let seen = ap (λ (s : MapContents). s.pairs) c.self.view_is in
    let removed = c.drop-drain.ensures.kept ∙ c.drain.ensures.kept in
    let dropped = drop_seen (λ e. (e.0.items, e.1.value)) _ _ seen _ n removed in
    let size = c.self.invariant.2 ∙ ap (λ pairs. pairs_size pairs % 2 ^ 64) seen in (
      omega (arith, ap length removed, length-drop n es, c.self.invariant.0),
      subst (All (λ e. IsKey e.0.items × (e.1.marked ≡ false))) (sym removed) (All-drop (λ e. IsKey e.0.items × (e.1.marked ≡ false)) n es c.self.invariant.1),
      size_dropped _ _ n _ _ dropped size c.size_of_first-gone.ensures,
    )

pub returns-clause-pairs : goal.returns-clause-pairs
returns-clause-pairs c =
    let seen = ap (λ (s : MapContents). s.pairs) c.self.view_is in
    let removed = c.drop-drain.ensures.kept ∙ c.drain.ensures.kept in
    let dropped = drop_seen (λ e. (e.0.items, e.1.value)) _ _ seen _ c.min-n.result removed in
    first_removed c.args.self.now.pairs _ _ c.args.n _ c.count.ensures.count c.min-n.ensures dropped
