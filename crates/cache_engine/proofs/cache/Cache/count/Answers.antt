use Rattle.std.proofs.Common.{max, sym, ap, ◌∙◌, subst}
use Rattle.arc_core.specs.Places.{found}
use Rattle.arc_core.specs.Step.{plan_of_count}
use Rattle.cache_engine.specs.Planning.{Plans, state_at}
use Rattle.cache_engine.specs.Stored.{held_item}
use Rattle.cache_engine.specs.Starting.{live_of}
use Rattle.cache_engine.proofs.Actions.{counted}
use Rattle.cache_engine.proofs.cache.Cache.count.Goals as goal

pub returns-clause-acts : goal.returns-clause-acts
returns-clause-acts c =
    let held = held_item c.live-held.result in
    let planned = c.plan_count-planned.result in
    counted c.args.self.now c.args.now c.args.key.now c.carry_out.new.self c.carry_out.result c.args.up c.args.delta c.args.initial c.max-latest.result held planned
    (c.max-latest.ensures ∙ ap (λ s. max s.latest c.args.now) c.self.view_is)
    (c.live-held.ensures ∙ ap (live_of c.max-latest.result) (sym c.look-held.ensures.item ∙ ap (λ k. found k c.self.inside.items) c.bytes.ensures.bytes ∙ ap (λ s. found c.args.key.now s.places) c.self.view_is))
    (λ k p. subst (λ n. Plans k (plan_of_count (state_at c.max-latest.result n p) c.args.up k c.args.delta c.args.initial held) planned) (ap (λ s. s.counter) c.self.view_is) (c.plan_count-planned.ensures.plans k p))
    c.carry_out.ensures.finishes
