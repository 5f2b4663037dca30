use Rattle.std.proofs.Common.{◌∙◌}
use Rattle.coll_items.proofs.MapLemmas.{chosen_within, chosen_at, named_more}
use Rattle.coll_items.proofs.maps.named_rows.Goals as goal

pub put_pair-requires : goal.put_pair-requires
put_pair-requires c =
    chosen_within c.args.fields.now c.args.held.now.pairs _ c.loop-index.index (c.as_slice-places.ensures ∙ c.in_ok-places.ensures) c.loop-index-test.true

pub loop-index-preserved : goal.loop-index-preserved
loop-index-preserved c =
    named_more c.args.held.now.pairs c.as_slice-places.result.now c.loop-index.index _ _ c.loop-index-test.true c.loop-index.invariant
    (chosen_at c.args.fields.now c.args.held.now.pairs _ c.loop-index.index (c.as_slice-places.ensures ∙ c.in_ok-places.ensures) c.loop-index-test.true)
    c.in_ok-put_pair.ensures
