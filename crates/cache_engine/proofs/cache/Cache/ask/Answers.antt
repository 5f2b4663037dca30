use Rattle.std.proofs.Common.{max, Some, sym, ap, ◌∙◌, subst}
use Rattle.std.specs.Prelude.{IfSome}
use Rattle.arc_core.specs.CollectionRequests.{asked_of}
use Rattle.arc_core.specs.Item.{collection}
use Rattle.arc_core.specs.Places.{found}
use Rattle.arc_core.specs.PlainRequest.{plain_act}
use Rattle.coll_items.specs.Planning.{Plans}
use Rattle.cache_engine.specs.Asking.{asked_by}
use Rattle.cache_engine.specs.Starting.{live_of}
use Rattle.cache_engine.specs.Stored.{item_of}
use Rattle.cache_engine.proofs.Asking.{changed, live_found}
use Rattle.cache_engine.proofs.cache.Cache.ask.Goals as goal

pub returns-in-Some-Collection-clause-acts : goal.returns-in-Some-Collection-clause-acts
returns-in-Some-Collection-clause-acts c =
    let second = c.max-latest.ensures ∙ ap (λ s. max s.latest c.args.now) c.self.view_is in
    let held = c.in-Some-Collection.held.value in
    let looked = sym c.look-held.ensures.item ∙ ap (λ k. found k c.self.inside.items) c.bytes.ensures.bytes ∙ ap (λ s. found c.args.key.now s.places) c.self.view_is in
    let there = sym (c.in-Some-Collection.ensures ∙ ap (live_of c.max-latest.result) looked ∙ ap (λ l. live_of l (found c.args.key.now c.args.self.now.places)) second) ∙ ap (λ s. Some (item_of s)) c.in-Some-Collection.field-0-is in
    let plans = subst (λ h. IfSome (asked_by (plain_act c.args.act.now)) (λ asked. Plans (asked_of asked).reads (asked_of asked).row h c.plan_asked-planned.result)) c.deref.ensures
    c.plan_asked-planned.ensures.plans in
    changed c.args.self.now c.args.now c.args.key.now c.change.new.self c.change.result held there c.plan_asked-planned.result
    (λ plan is_plan. c.change.ensures.carries_out held plan (live_found (max c.args.self.now.latest c.args.now) (found c.args.key.now c.args.self.now.places) (collection held.attrs held.contents) there) is_plan)
    (plain_act c.args.act.now) c.requires.on plans c.plan_asked-planned.ensures.memory
