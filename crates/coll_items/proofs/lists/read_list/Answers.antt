use Rattle.std.proofs.Common.{sym, ap, ◌∙◌}
use Rattle.coll_items.specs.Holding.{contents_of}
use Rattle.coll_items.proofs.RowLemmas.{list_read_short}
use Rattle.coll_items.proofs.lists.read_list.Goals as goal

pub returns-clause-short : goal.returns-clause-short
returns-clause-short c =
    list_read_short _ _ c.in-List.list.values c.in-Some.part _ c.in-Ok.rows _ _ c.taken.result c.elements.ensures.rules
    (sym c.elements.ensures.elements ∙ ap contents_of c.in-List.is) c.in-Ok.ensures c.taken.ensures
