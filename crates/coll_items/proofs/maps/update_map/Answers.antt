use Rattle.std.proofs.Common.{sym, ap, subst, ◌∙◌}
use Rattle.arc_core.specs.Item.{IsElement}
use Rattle.coll_items.specs.Holding.{contents_of}
use Rattle.coll_items.proofs.MapLemmas.{field_suits}
use Rattle.coll_items.proofs.maps.update_map.Goals as goal

pub returns-clause-suits : goal.returns-clause-suits
returns-clause-suits c =
    field_suits _ _ c.in-Map.map.pairs c.in-Some.place _ c.elements.ensures.rules (sym c.elements.ensures.elements ∙ ap contents_of c.in-Map.is)
    c.in-Some.ensures.within (subst IsElement (sym c.in-Ok.ensures) c.requires.value)
