use Rattle.tree_coll.proofs.PlaceLemmas.{one_more}
use Rattle.tree_coll.proofs.places.rows_at.Goals as goal

pub loop-number-preserved : goal.loop-number-preserved
loop-number-preserved g c =
    one_more _ c.loop-number.number c.element_at.result.now c.loop-number.rows c.put_row.new.rows c.element_at.ensures c.loop-number.invariant c.in_ok-put_row.ensures
