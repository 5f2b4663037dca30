use Rattle.std.proofs.Common.{◌%◌, ◌^◌, ap, ◌∙◌}
use Rattle.arc_core.specs.CollectionSize.{pair_size}
use Rattle.map_coll.proofs.SizeLemmas.{size_counted}
use Rattle.map_coll.proofs.pairs.MapColl.size_of_first.Goals as goal

pub loop-place-preserved : goal.loop-place-preserved
loop-place-preserved c =
    let gained = c.pair_size-size.ensures ∙ ap (λ field. pair_size (field, c.at-field.result.1.now) % 2 ^ 64) c.bytes.ensures.bytes in
    size_counted _ c.loop-place.place (c.at-field.result.0, c.at-field.result.1.now) _ _ c.at-field.ensures c.loop-place.invariant gained
