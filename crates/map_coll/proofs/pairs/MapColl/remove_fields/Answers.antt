use Rattle.std.proofs.Common.{rules, arith, ◌≡◌, ◌∙◌, not, filter, length, All, false, ap, subst, sym}
use Rattle.std.proofs.lemmas.List.{length-map}
use Rattle.std.proofs.lemmas.List.Elements.{All-filter, All-weaker}
use Rattle.arc_core.specs.Key.{IsKey}
use Rattle.indexmap.proofs.CallerLemmas.{filter-RetainsPairs}
use Rattle.arc_core.specs.CollectionSize.{pairs_size}
use Rattle.map_coll.specs.MapContents.{MapContents}
use Rattle.map_coll.proofs.EntryLemmas.{fields_keep}
use Rattle.map_coll.proofs.MarkedEntries.{none_marked, pairs_left}
use Rattle.map_coll.proofs.MarkedSizes.{size_left}
use Rattle.map_coll.proofs.pairs.MapColl.remove_fields.Goals as goal

left : (c : goal.After-retain) → c.retain.new.self.entries ≡ filter (λ e. not e.1.marked) c.mark_fields-gone.new.table.entries
left c = filter-RetainsPairs _ (λ e. not e.1.marked) _ (λ k v b w g call. search rules) _ _ c.retain.ensures.filtered

pub invariant_of-self : goal.invariant_of-self
invariant_of-self c =
    let old = c.self.inside.table.entries in
    let marked = c.mark_fields-gone.new.table.entries in
    let keys = All-weaker (λ e. IsKey e.0.items × (e.1.marked ≡ false)) (λ e. IsKey e.0.items) (λ e both. both.0) old c.self.invariant.1 in
    let kept = All-filter (λ e. not e.1.marked) (λ e. IsKey e.0.items) marked
    (fields_keep (λ k. k.items) (λ held. held.value) IsKey old marked c.mark_fields-gone.ensures.pairs keys) in
    let unmarked = none_marked (λ e. e.1.marked) marked in
    let same : length marked ≡ length old = sym (length-map marked _) ∙ ap length c.mark_fields-gone.ensures.pairs ∙ length-map old _ in (
      omega (arith, same, c.retain.ensures.bound, c.self.invariant.0),
      subst (All (λ e. IsKey e.0.items × (e.1.marked ≡ false))) (sym (left c)) (λ k d within. (kept k d within, unmarked k d within)),
      size_left (λ k. k.items) (λ held. held.marked) (λ held. held.value) marked _ _ _ _ (left c) (ap pairs_size (sym c.mark_fields-gone.ensures.pairs))
          c.self.invariant.2 c.mark_fields-gone.ensures.size,
    )

pub returns-clause-pairs : goal.returns-clause-pairs
returns-clause-pairs c =
    let pairs = ap (λ (s : MapContents). s.pairs) c.self.view_is in
    pairs_left (λ k. k.items) (λ held. held.marked) (λ held. held.value) c.args.fields.now c.mark_fields-gone.new.table.entries _ _
    c.mark_fields-gone.ensures.marks (c.mark_fields-gone.ensures.pairs ∙ pairs) (left c)
