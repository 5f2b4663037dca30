use Rattle.std.proofs.Common.{List, ℕ, sym, ap, subst, ◌∙◌}
use Rattle.arc_core.specs.Item.{IsElement}
use Rattle.arc_core.specs.MapReading.{place_of}
use Rattle.coll_items.specs.Holding.{contents_of}
use Rattle.coll_items.proofs.MapLemmas.{field_suits, upsert_plans}
use Rattle.coll_items.proofs.maps.upsert_map.Goals as goal

pub returns-in_default-place_of-clause-plans : goal.returns-in_default-place_of-clause-plans
returns-in_default-place_of-clause-plans c =
    upsert_plans c.args.collection.now c.in-Map.map.pairs c.args.field.now c.args.value.now c.insert_into_map.result
    (sym c.elements.ensures.elements ∙ ap contents_of c.in-Map.is)
    (ap (λ (field : List ℕ). place_of field c.in-Map.map.pairs) (sym c.bytes.ensures.bytes) ∙ sym c.place_of.ensures.place ∙ c.in_default-place_of.is)
    c.insert_into_map.ensures.plans

pub returns-clause-suits : goal.returns-clause-suits
returns-clause-suits c =
    field_suits _ _ c.in-Map.map.pairs c.in-Some.place _ c.elements.ensures.rules (sym c.elements.ensures.elements ∙ ap contents_of c.in-Map.is)
    c.in-Some.ensures.within (subst IsElement (sym c.in-Ok.ensures) c.requires.value)
