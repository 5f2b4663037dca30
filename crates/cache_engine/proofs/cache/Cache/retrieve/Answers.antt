use Rattle.std.proofs.Common.{max, ap, ◌∙◌}
use Rattle.arc_core.specs.Step.{unexpired, used}
use Rattle.cache_engine.specs.Retrieving.{live_rows}
use Rattle.cache_engine.proofs.Retrievals.{answer_short, retrieved}
use Rattle.cache_engine.proofs.cache.Cache.retrieve.Goals as goal

pub returns-clause-acts : goal.returns-clause-acts
returns-clause-acts c =
    let second = c.max-latest.ensures ∙ ap (λ s. max s.latest c.args.now) c.self.view_is in
    let places = ap (λ s. s.places) c.self.view_is in
    retrieved c.args.self.now c.args.now c.args.keys.now c.args.unique _ c.in-Ok.found.rows
    (c.in-Ok.ensures.rows ∙ (λ i. live_rows c.args.unique (second i) (places i) c.args.keys.now))
    (λ i. record {
      latest = second i;
      counter = ap (λ s. s.counter) c.self.view_is i;
      places = (c.read_and_use.ensures ∙ (λ j. used (second j) c.args.keys.now (unexpired (second j) c.args.keys.now (places j)))) i;
    })

pub returns-clause-text : goal.returns-clause-text
returns-clause-text c =
    answer_short c.args.unique c.max-latest.result c.args.keys.now c.self.inside.items c.in-Ok.found.rows c.keep_the_rules.ensures.placed c.in-Ok.ensures.keys.0 c.in-Ok.ensures.keys.1 c.in-Ok.ensures.rows
