use Rattle.std.proofs.Common.{arith, ap, length, get_or, ◌∙◌}
use Rattle.std.proofs.lemmas.List.{length-map}
use Rattle.arc_core.specs.CollectionSize.{value_size}
use Rattle.set_coll.specs.SetContents.{SetContents}
use Rattle.arc_core.proofs.MappedLists.{remove_seen}
use Rattle.set_coll.proofs.SizeLemmas.{size_removed}
use Rattle.set_coll.proofs.values.SetColl.remove.Goals as goal

pub invariant_of-self : goal.invariant_of-self
invariant_of-self c =
    let keys = c.self.inside.table.keys in
    let count = ap (λ (s : SetContents). length s.values) c.self.view_is in
    let value = c.index-as_slice-place.is ∙ ap (λ ks. get_or ks c.args.place c.index-as_slice-place.result) c.as_slice.ensures.keys in
    let gone = c.value_size-gone.ensures ∙ ap value_size c.deref.ensures.value in (
      omega (arith, c.shift_remove_index.ensures.len, c.self.invariant.0),
      size_removed (λ v. v.items) keys _ c.args.place c.index-as_slice-place.result _ _ c.shift_remove_index.ensures.keys
          (omega (arith, c.requires, count, length-map keys (λ v. v.items))) value c.self.invariant.1 gone c.value_size-gone.type_inv,
    )

pub returns-clause-values : goal.returns-clause-values
returns-clause-values c =
    let seen = ap (λ (s : SetContents). s.values) c.self.view_is in
    remove_seen (λ v. v.items) _ _ seen _ _ c.shift_remove_index.ensures.keys
