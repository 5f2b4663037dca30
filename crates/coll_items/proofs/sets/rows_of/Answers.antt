use Rattle.std.proofs.Common.{Some, ap, sym, ◌∙◌}
use Rattle.arc_core.specs.CollectionRows.{plain_row}
use Rattle.coll_items.proofs.RowLemmas.{row_more}
use Rattle.coll_items.proofs.sets.rows_of.Goals as goal

pub loop-place-preserved : goal.loop-place-preserved
loop-place-preserved c =
    row_more plain_row c.args.set.now.values c.loop-place.place c.in_ok-value.value _ _
    (c.at.ensures ∙ ap Some (sym c.in_ok-value.ensures)) c.loop-place.invariant c.in_ok-put_row.ensures
