use Rattle.std.proofs.Common.{rules, ◌≡◌, w32, to_z, of_z, false, sym, subst}
use Rattle.std.specs.Prelude.{IfSome}
use Rattle.arc_core.specs.declared.requests.Act.{Act}
use Rattle.arc_core.specs.CollectionRequests.{asked_of}
use Rattle.arc_core.specs.CollectionStep.{on_list}
use Rattle.arc_core.specs.ListRows.{list_insert}
use Rattle.arc_core.specs.PlainRequest.{plain_act}
use Rattle.coll_items.specs.Holding.{Held}
use Rattle.coll_items.specs.Planning.{Plans}
use Rattle.coll_items.specs.declared.planned.Planned.{Planned}
use Rattle.cache_engine.specs.Asking.{asked_by}
use Rattle.cache_engine.proofs.asked.plan_asked.Goals as goal

-- What is planned is what the act asks.
abbrev PlansFor : Held → Planned → Act → Type 0
PlansFor held plan act = IfSome (asked_by (plain_act act)) (λ asked. Plans (asked_of asked).reads (asked_of asked).row held plan)

pub returns-in-ListInsert-clause-plans : goal.returns-in-ListInsert-clause-plans
returns-in-ListInsert-clause-plans c =
    let index : to_z w32 (of_z w32 c.in-ListInsert.index) ≡ c.in-ListInsert.index = search rules in
    let plans : Plans false (on_list (list_insert c.in-ListInsert.index c.in-ListInsert.value.now)) c.args.collection.now c.insert_into_list.result
    = subst (λ n. Plans false (on_list (list_insert n c.in-ListInsert.value.now)) c.args.collection.now c.insert_into_list.result) index c.insert_into_list.ensures.plans in
    subst (PlansFor c.args.collection.now c.insert_into_list.result) (sym c.in-ListInsert.is) plans

pub returns-in-ListDelete-clause-plans : goal.returns-in-ListDelete-clause-plans
returns-in-ListDelete-clause-plans c = subst (PlansFor c.args.collection.now c.delete_from_list.result) (sym c.in-ListDelete.is) c.delete_from_list.ensures.plans

pub returns-in-ListGet-clause-plans : goal.returns-in-ListGet-clause-plans
returns-in-ListGet-clause-plans c = subst (PlansFor c.args.collection.now c.read_list.result) (sym c.in-ListGet.is) c.read_list.ensures.plans

pub returns-in-SetInsert-clause-plans : goal.returns-in-SetInsert-clause-plans
returns-in-SetInsert-clause-plans c = subst (PlansFor c.args.collection.now c.insert_into_set.result) (sym c.in-SetInsert.is) c.insert_into_set.ensures.plans

pub returns-in-SetDelete-clause-plans : goal.returns-in-SetDelete-clause-plans
returns-in-SetDelete-clause-plans c = subst (PlansFor c.args.collection.now c.delete_from_set.result) (sym c.in-SetDelete.is) c.delete_from_set.ensures.plans

pub returns-in-SetExist-clause-plans : goal.returns-in-SetExist-clause-plans
returns-in-SetExist-clause-plans c = subst (PlansFor c.args.collection.now c.find_in_set.result) (sym c.in-SetExist.is) c.find_in_set.ensures.plans

pub returns-in-SetGet-clause-plans : goal.returns-in-SetGet-clause-plans
returns-in-SetGet-clause-plans c = subst (PlansFor c.args.collection.now c.read_set.result) (sym c.in-SetGet.is) c.read_set.ensures.plans

pub returns-in-MapInsert-clause-plans : goal.returns-in-MapInsert-clause-plans
returns-in-MapInsert-clause-plans c = subst (PlansFor c.args.collection.now c.insert_into_map.result) (sym c.in-MapInsert.is) c.insert_into_map.ensures.plans

pub returns-in-MapUpdate-clause-plans : goal.returns-in-MapUpdate-clause-plans
returns-in-MapUpdate-clause-plans c = subst (PlansFor c.args.collection.now c.update_map.result) (sym c.in-MapUpdate.is) c.update_map.ensures.plans

pub returns-in-MapUpsert-clause-plans : goal.returns-in-MapUpsert-clause-plans
returns-in-MapUpsert-clause-plans c = subst (PlansFor c.args.collection.now c.upsert_map.result) (sym c.in-MapUpsert.is) c.upsert_map.ensures.plans

pub returns-in-MapDelete-clause-plans : goal.returns-in-MapDelete-clause-plans
returns-in-MapDelete-clause-plans c = subst (PlansFor c.args.collection.now c.delete_from_map.result) (sym c.in-MapDelete.is) c.delete_from_map.ensures.plans

pub returns-in-MapGet-clause-plans : goal.returns-in-MapGet-clause-plans
returns-in-MapGet-clause-plans c = subst (PlansFor c.args.collection.now c.read_map.result) (sym c.in-MapGet.is) c.read_map.ensures.plans
