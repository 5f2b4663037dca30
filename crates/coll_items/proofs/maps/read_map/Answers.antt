use Rattle.std.proofs.Common.{sym, ap, ◌∙◌}
use Rattle.coll_items.specs.Holding.{contents_of}
use Rattle.coll_items.proofs.MapLemmas.{map_read_short}
use Rattle.coll_items.proofs.ReadLemmas.{map_read_plans, not_none}
use Rattle.coll_items.proofs.maps.read_map.Goals as goal

pub returns-clause-plans : goal.returns-clause-plans
returns-clause-plans c =
    map_read_plans c.args.collection.now c.attrs-attrs.result.now c.in-Map.map.pairs c.args.fields.now c.in-Ok.rows c.args.take _ c.taken.result
    c.attrs-attrs.ensures.attrs (sym c.elements.ensures.elements ∙ ap contents_of c.in-Map.is) c.if-not-attrs.false
    (not_none _ _ c.has_some.ensures c.if-not-has_some.false) c.in-Ok.ensures.rows (c.removal_of.ensures.left c.in-Map.map.pairs) c.taken.ensures

pub returns-clause-short : goal.returns-clause-short
returns-clause-short c =
    map_read_short _ _ c.in-Map.map.pairs c.args.fields.now _ c.in-Ok.rows _ _ c.taken.result c.elements.ensures.rules
    (sym c.elements.ensures.elements ∙ ap contents_of c.in-Map.is) c.rows_of.ensures.few c.in-Ok.ensures.rows c.taken.ensures
