use Rattle.std.proofs.Common.{ap, ◌∙◌}
use Rattle.arc_core.specs.Places.{brought_to_front}
use Rattle.cache_engine.proofs.Retrievals.{uses_on}
use Rattle.cache_engine.proofs.retrieval.use_keys.Goals as goal

pub loop-key-preserved : goal.loop-key-preserved
loop-key-preserved c =
    let on = uses_on c.args.latest c.in-Some.key c.loop-key.key-iterator c.next.new.self c.loop-key.items c.mark_used.new.self c.in-Some.ensures.steps
    (c.mark_used.ensures ∙ ap (λ k. brought_to_front k c.loop-key.items) c.bytes.ensures.bytes) c.loop-key.invariant.live in
    record { so_far = on.so_far ∙ c.loop-key.invariant.so_far; live = on.live }
