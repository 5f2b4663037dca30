use Rattle.std.proofs.Common.{refl, ap, ◌∙◌}
use Rattle.arc_core.specs.Places.{brought_to_front}
use Rattle.cache_engine.proofs.ChangesInStep.{removed_in_step, not_both}
use Rattle.cache_engine.proofs.key_state.remove_and_use.Goals as goal

pub returns-then-not-dropped : goal.returns-then-not-dropped
returns-then-not-dropped c =
    removed_in_step c.args.latest c.args.key.now c.args.items.now c.requires.live c.requires.placed c.args.removal.now c.args.drop_empty
    c.remove_from-dropped.new.self c.mark_used.new.self c.remove_from-dropped.result c.remove_from-dropped.ensures
    (λ e. c.mark_used.ensures ∙ ap (λ k. brought_to_front k c.remove_from-dropped.new.self) c.bytes.ensures.bytes)
    (λ e. absurd (not_both c.remove_from-dropped.result e c.if-not-dropped.true))

pub returns-else-not-dropped : goal.returns-else-not-dropped
returns-else-not-dropped c =
    removed_in_step c.args.latest c.args.key.now c.args.items.now c.requires.live c.requires.placed c.args.removal.now c.args.drop_empty
    c.remove_from-dropped.new.self c.remove_from-dropped.new.self c.remove_from-dropped.result c.remove_from-dropped.ensures
    (λ e. absurd (not_both c.remove_from-dropped.result c.if-not-dropped.false e)) (λ e. refl)
