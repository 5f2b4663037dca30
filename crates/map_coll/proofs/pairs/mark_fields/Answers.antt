use Rattle.std.proofs.Common.{refl, sym, ap, ◌%◌, ◌^◌, ◌∙◌}
use Rattle.map_coll.proofs.EntryLemmas.{same_shown}
use Rattle.map_coll.proofs.MarkedEntries.{mark_found, mark_absent}
use Rattle.map_coll.proofs.MarkedSizes.{none_counted, size_found}
use Rattle.map_coll.proofs.pairs.mark_fields.Goals as goal

pub loop-field-init : goal.loop-field-init
loop-field-init c = (
  c.requires,
  refl,
  refl,
  ap (λ n. n % 2 ^ 64) (sym (none_counted (λ k. k.items) (λ held. held.marked) (λ held. held.value) c.args.table.now.entries c.requires)),
)

pub loop-field-preserved-in-Some-get_index_of : goal.loop-field-preserved-in-Some-get_index_of
loop-field-preserved-in-Some-get_index_of c =
    let es = c.loop-field.table.entries in
    let place = c.in-Some-get_index_of.place in
    let at = sym c.get_index_of.ensures.index ∙ c.in-Some-get_index_of.is in
    let marks = c.mark-size.ensures in
    let same = same_shown (λ k. k.items) (λ held. held.value) es place c.index_mut.result.now _ c.index_mut.ensures.value marks.held.0 in (
      mark_found (λ k. k.items) (λ held. held.marked) c.loop-field.yielded _ _ c.bytes-name.ensures.bytes es c.loop-field.invariant.0 place _
          at c.get_index_of.ensures.unique marks.held.1,
      same ∙ c.loop-field.invariant.1,
      c.loop-field.invariant.2,
      size_found (λ k. k.items) (λ held. held.marked) (λ held. held.value) c.bytes-name.result.now es place c.index_mut.result.now _ _ _
          at c.index_mut.ensures.value marks.held.0 marks.held.1 marks.size c.loop-field.invariant.3,
    )

pub loop-field-preserved : goal.loop-field-preserved
loop-field-preserved c = (
  mark_absent (λ k. k.items) (λ held. held.marked) c.loop-field.yielded _ _ c.bytes-name.ensures.bytes c.loop-field.table.entries
      c.loop-field.invariant.0 (sym c.get_index_of.ensures.index ∙ c.in_default.is),
  c.loop-field.invariant.1,
  c.loop-field.invariant.2,
  c.loop-field.invariant.3,
)
