use Rattle.std.proofs.Common.{◌%◌, ◌^◌, ◌≡◌, ◌∙◌, arith, All, false, ap, sym, subst}
use Rattle.arc_core.specs.Key.{IsKey}
use Rattle.arc_core.specs.CollectionSize.{pair_size, pairs_size}
use Rattle.map_coll.specs.MapContents.{MapContents}
use Rattle.arc_core.proofs.MappedLists.{remove_seen}
use Rattle.map_coll.proofs.EntryLemmas.{All-remove}
use Rattle.map_coll.proofs.SizeLemmas.{size_removed}
use Rattle.map_coll.proofs.pairs.MapColl.remove.Goals as goal

pub invariant_of-self : goal.invariant_of-self
invariant_of-self c =
    let all = All-remove (λ e. IsKey e.0.items × (e.1.marked ≡ false)) c.self.inside.table.entries c.args.place c.self.invariant.1 in
    let seen = ap (λ (s : MapContents). s.pairs) c.self.view_is in
    let removed = remove_seen (λ e. (e.0.items, e.1.value)) _ _ seen _ _ c.shift_remove_index.ensures.entries in
    let size = c.self.invariant.2 ∙ ap (λ pairs. pairs_size pairs % 2 ^ 64) seen in
    let gone = c.pair_size-gone.ensures ∙ ap (λ field. pair_size (field, c.at-field.result.1.now) % 2 ^ 64) c.bytes.ensures.bytes in (
      omega (arith, c.shift_remove_index.ensures.len, c.self.invariant.0),
      subst (All (λ e. IsKey e.0.items × (e.1.marked ≡ false))) (sym c.shift_remove_index.ensures.entries) all,
      size_removed _ _ c.args.place (c.at-field.result.0, c.at-field.result.1.now) _ _ removed c.at-field.ensures size gone,
    )

pub returns-clause-pairs : goal.returns-clause-pairs
returns-clause-pairs c =
    let seen = ap (λ (s : MapContents). s.pairs) c.self.view_is in
    remove_seen (λ e. (e.0.items, e.1.value)) _ _ seen _ _ c.shift_remove_index.ensures.entries
