use Rattle.std.proofs.Common.{max, sym, ap, ◌∙◌}
use Rattle.arc_core.specs.Places.{found, without}
use Rattle.cache_engine.specs.Starting.{key_state_of}
use Rattle.cache_engine.proofs.Actions.{not_deleted, is_live, deleted}
use Rattle.cache_engine.proofs.cache.Cache.delete.Goals as goal

pub returns-in_default-clause-acts : goal.returns-in_default-clause-acts
returns-in_default-clause-acts c =
    let second = c.max-latest.ensures ∙ ap (λ s. max s.latest c.args.now) c.self.view_is in
    let stands = c.key_state_of-key_state.ensures
    ∙ ap (key_state_of c.max-latest.result) (sym c.look.ensures.item ∙ ap (λ k. found k c.self.inside.items) c.bytes.ensures.bytes ∙ ap (λ s. found c.args.key.now s.places) c.self.view_is)
    ∙ ap (λ l. key_state_of l (found c.args.key.now c.args.self.now.places)) second in
    not_deleted c.args.self.now c.args.now c.args.key.now c.answer.new.self c.answer.result c.key_state_of-key_state.result stands c.in_default.not-Live c.answer.ensures.answers

pub returns-clause-acts : goal.returns-clause-acts
returns-clause-acts c =
    let second = c.max-latest.ensures ∙ ap (λ s. max s.latest c.args.now) c.self.view_is in
    let stands = c.key_state_of-key_state.ensures
    ∙ ap (key_state_of c.max-latest.result) (sym c.look.ensures.item ∙ ap (λ k. found k c.self.inside.items) c.bytes.ensures.bytes ∙ ap (λ s. found c.args.key.now s.places) c.self.view_is)
    ∙ ap (λ l. key_state_of l (found c.args.key.now c.args.self.now.places)) second in
    let live = is_live (max c.args.self.now.latest c.args.now) c.args.key.now c.args.self.now.places (sym c.in-Live.is ∙ stands) in
    let places = c.remove.ensures ∙ ap (λ k. without k c.self.inside.items) c.bytes-2.ensures.bytes ∙ ap (λ s. without c.args.key.now s.places) c.self.view_is in
    deleted c.args.self.now c.args.now c.args.key.now live _ (λ i. record { latest = second i; counter = ap (λ s. s.counter) c.self.view_is i; places = places i })
