use Rattle.std.proofs.Common.{sym, ap, ◌∙◌}
use Rattle.coll_items.specs.Holding.{contents_of}
use Rattle.coll_items.proofs.RowLemmas.{set_read_short}
use Rattle.coll_items.proofs.sets.read_set.Goals as goal

pub returns-clause-short : goal.returns-clause-short
returns-clause-short c =
    set_read_short _ _ c.in-Set.set.values c.if-count-eq0.number _ c.in-Ok.rows _ _ c.taken.result c.elements.ensures.rules
    (sym c.elements.ensures.elements ∙ ap contents_of c.in-Set.is) c.in-Ok.ensures c.taken.ensures
