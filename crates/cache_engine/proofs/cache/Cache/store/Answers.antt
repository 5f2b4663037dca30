use Rattle.std.proofs.Common.{max, w64, sym, ap, ◌∙◌, subst}
use Rattle.std.proofs.lemmas.Int.{to_z-of_z}
use Rattle.arc_core.specs.Places.{found}
use Rattle.arc_core.specs.Step.{plan_of_store}
use Rattle.cache_engine.specs.Planning.{Plans, state_at}
use Rattle.cache_engine.specs.Stored.{held_item}
use Rattle.cache_engine.specs.Starting.{live_of}
use Rattle.cache_engine.proofs.Actions.{stored}
use Rattle.cache_engine.proofs.cache.Cache.store.Goals as goal

pub returns-clause-acts : goal.returns-clause-acts
returns-clause-acts c =
    let held = held_item c.live-held.result in
    let planned = c.plan_store-planned.result in
    stored c.args.self.now c.args.now c.args.key.now c.carry_out.new.self c.carry_out.result c.args.verb c.args.flags c.args.exptime c.args.value.now c.max-latest.result held planned
    (c.max-latest.ensures ∙ ap (λ s. max s.latest c.args.now) c.self.view_is)
    (c.live-held.ensures ∙ ap (live_of c.max-latest.result) (sym c.look-held.ensures.item ∙ ap (λ k. found k c.self.inside.items) c.bytes.ensures.bytes ∙ ap (λ s. found c.args.key.now s.places) c.self.view_is))
    (λ k p. subst (λ n. Plans k (plan_of_store (state_at c.max-latest.result n p) c.args.verb k c.args.flags c.args.exptime c.args.value.now held) planned) (ap (λ s. s.counter) c.self.view_is)
    (subst (λ e. Plans k (plan_of_store (state_at c.max-latest.result c.self.inside.counter p) c.args.verb k c.args.flags e c.args.value.now held) planned) (to_z-of_z w64 c.args.exptime c.ranges.exptime) (c.plan_store-planned.ensures.plans k p)))
    c.carry_out.ensures.finishes
