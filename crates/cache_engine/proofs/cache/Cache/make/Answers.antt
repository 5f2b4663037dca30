use Rattle.std.proofs.Common.{max, sym, ap, ◌∙◌}
use Rattle.arc_core.specs.CollectionRows.{attrs_of}
use Rattle.arc_core.specs.Places.{found}
use Rattle.cache_engine.specs.Starting.{key_state_of}
use Rattle.cache_engine.proofs.Actions.{not_live}
use Rattle.cache_engine.proofs.Asking.{was_made}
use Rattle.cache_engine.proofs.cache.Cache.make.Goals as goal

pub returns : goal.returns
returns c =
    let second = c.max-latest.ensures ∙ ap (λ s. max s.latest c.args.now) c.self.view_is in
    let stands = c.key_state_of-key_state.ensures
    ∙ ap (key_state_of c.max-latest.result) (sym c.look.ensures.item ∙ ap (λ k. found k c.self.inside.items) c.bytes.ensures.bytes ∙ ap (λ s. found c.args.key.now s.places) c.self.view_is)
    ∙ ap (λ l. key_state_of l (found c.args.key.now c.args.self.now.places)) second in
    let absent = not_live c.args.self.now c.args.now c.args.key.now c.put_collection.new.self c.put_collection.result
    (max c.args.self.now.latest c.args.now) (found c.args.key.now c.args.self.now.places) c.key_state_of-key_state.result stands c.in_default.not-Live in
    record {
      acts = was_made c.args.self.now c.args.now c.args.key.now c.put_collection.new.self c.put_collection.result c.args.kind c.args.args c.empty_collection-made.result absent
          (c.empty_collection-made.ensures.attrs ∙ ap (λ l. attrs_of l c.args.args) second) c.empty_collection-made.ensures.contents c.put_collection.ensures.finishes;
      text = c.put_collection.ensures.text;
    }
