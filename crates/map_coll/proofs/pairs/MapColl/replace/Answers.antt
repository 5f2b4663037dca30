use Rattle.std.proofs.Common.{◌≡◌, false, refl, ap}
use Rattle.std.proofs.lemmas.List.Elements.{All-weaker}
use Rattle.arc_core.specs.Key.{IsKey}
use Rattle.map_coll.specs.MapContents.{MapContents}
use Rattle.map_coll.proofs.EntryLemmas.{All-set_value_at, All-value_at, length-set_value_at, value_at, value_replaced}
use Rattle.map_coll.proofs.SizeLemmas.{size_replaced}
use Rattle.map_coll.proofs.pairs.MapColl.replace.Goals as goal

pub invariant_of-self : goal.invariant_of-self
invariant_of-self c =
    let es = c.self.inside.table.entries in
    let unmarked = All-weaker (λ e. IsKey e.0.items × (e.1.marked ≡ false)) (λ e. e.1.marked ≡ false) (λ e both. both.1) es c.self.invariant.1 in
    let old = value_at (λ k. k.items) (λ held. held.value) es _ refl c.args.place _ _ c.index_mut.ensures.value c.replace-old.ensures.value in
    let new = value_replaced (λ k. k.items) (λ held. held.value) es _ refl c.args.place _ _ c.replace-old.ensures.after in
    let stays = All-value_at (λ held. held.marked ≡ false) es c.args.place c.index_mut.result.now c.index_mut.ensures.value unmarked in (
      rw (length-set_value_at es c.args.place _) c.self.invariant.0,
      All-set_value_at (λ e. IsKey e.0.items × (e.1.marked ≡ false)) es c.args.place _ (λ k v both. (both.0, stays)) c.self.invariant.1,
      size_replaced _ _ c.args.place c.args.value c.replace-old.result _ _ _ new old c.self.invariant.2 c.value_len-gained.ensures c.value_len-lost.ensures c.value_len-lost.type_inv,
    )

pub returns-clause-old : goal.returns-clause-old
returns-clause-old c =
    let pairs = ap (λ (s : MapContents). s.pairs) c.self.view_is in
    value_at (λ k. k.items) (λ held. held.value) c.self.inside.table.entries _ pairs c.args.place _ _ c.index_mut.ensures.value c.replace-old.ensures.value

pub returns-clause-pairs : goal.returns-clause-pairs
returns-clause-pairs c =
    let pairs = ap (λ (s : MapContents). s.pairs) c.self.view_is in
    value_replaced (λ k. k.items) (λ held. held.value) _ _ pairs c.args.place _ _ c.replace-old.ensures.after

pub returns-clause-spare : goal.returns-clause-spare
returns-clause-spare c = rw (length-set_value_at c.self.inside.table.entries c.args.place _) (ap (λ (s : MapContents). s.spare) c.self.view_is)
