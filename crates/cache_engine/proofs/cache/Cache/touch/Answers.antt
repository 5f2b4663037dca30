use Rattle.std.proofs.Common.{max, sym, ap, ◌∙◌}
use Rattle.arc_core.specs.Places.{found}
use Rattle.cache_engine.specs.Starting.{key_state_of}
use Rattle.cache_engine.proofs.Actions.{not_touched, is_live}
use Rattle.cache_engine.proofs.cache.Cache.touch.Goals as goal

pub returns-in_default-clause-acts : goal.returns-in_default-clause-acts
returns-in_default-clause-acts c =
    let second = c.max-latest.ensures ∙ ap (λ s. max s.latest c.args.now) c.self.view_is in
    let stands = c.key_state_of-key_state.ensures
    ∙ ap (key_state_of c.max-latest.result) (sym c.look.ensures.item ∙ ap (λ k. found k c.self.inside.items) c.bytes.ensures.bytes ∙ ap (λ s. found c.args.key.now s.places) c.self.view_is)
    ∙ ap (λ l. key_state_of l (found c.args.key.now c.args.self.now.places)) second in
    not_touched c.args.self.now c.args.now c.args.key.now c.answer.new.self c.answer.result c.args.exptime c.key_state_of-key_state.result stands c.in_default.not-Live c.answer.ensures.answers

pub set_expiry_and_use-requires : goal.set_expiry_and_use-requires
set_expiry_and_use-requires c =
    let second = c.max-latest.ensures ∙ ap (λ s. max s.latest c.args.now) c.self.view_is in
    let stands = c.key_state_of-key_state.ensures
    ∙ ap (key_state_of c.max-latest.result) (sym c.look.ensures.item ∙ ap (λ k. found k c.self.inside.items) c.bytes.ensures.bytes ∙ ap (λ s. found c.args.key.now s.places) c.self.view_is)
    ∙ ap (λ l. key_state_of l (found c.args.key.now c.args.self.now.places)) second in
    let live = is_live (max c.args.self.now.latest c.args.now) c.args.key.now c.args.self.now.places (sym c.in-Live.is ∙ stands) in
    (live.item, ap (λ s. found c.args.key.now s.places) c.self.view_is ∙ live.there)
