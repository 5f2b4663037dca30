use Rattle.std.proofs.Common.{sym, ap, subst, ◌∙◌}
use Rattle.arc_core.specs.Item.{IsElement}
use Rattle.coll_items.specs.Holding.{contents_of}
use Rattle.coll_items.proofs.InsertLemmas.{stored_suits, trimmed_suits}
use Rattle.coll_items.proofs.lists.insert_into_list.Goals as goal
use Rattle.coll_items.proofs.lists.insert_into_list.Goals.{in-Store, in-StoreAndTrim}

pub returns-clause-suits : goal.returns-clause-suits
returns-clause-suits c =
    let same = sym c.elements.ensures.elements ∙ ap contents_of c.in-List.is in
    let small = subst IsElement (sym c.in-Ok.ensures) c.requires in
    elim c.match-plan.branch [
      | in-Store w ↦ stored_suits _ _ _ c.in-List.list.values _ c.plan.result _ _ _ c.elements.ensures.rules same
          c.attrs-attrs.ensures.attrs c.plan.ensures.plan w.in-Store.is w.place-is small
      | in-StoreAndTrim w ↦ trimmed_suits _ _ _ c.in-List.list.values _ c.plan.result _ _ _ _ c.elements.ensures.rules same
          c.attrs-attrs.ensures.attrs c.plan.ensures.plan w.in-StoreAndTrim.is w.place-is small
    ]
