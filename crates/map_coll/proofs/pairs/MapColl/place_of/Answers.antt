use Rattle.std.proofs.Common.{ap}
use Rattle.std.specs.Str.{bytes_eq}
use Rattle.map_coll.specs.MapContents.{MapContents}
use Rattle.arc_core.proofs.MappedLists.{position_seen}
use Rattle.map_coll.proofs.EntryLemmas.{fields_seen}
use Rattle.map_coll.proofs.pairs.MapColl.place_of.Goals as goal

pub returns-in_err-place-clause-place : goal.returns-in_err-place-clause-place
returns-in_err-place-clause-place c =
    let pairs = ap (λ (s : MapContents). s.pairs) c.self.view_is in
    let fields = fields_seen (λ k. k.items) (λ held. held.value) c.self.inside.table.entries _ pairs in
    let places = position_seen (λ k. k.items) _ _ fields (bytes_eq c.args.field.now) in
    cc (c.in_err-place.was, c.get_index_of.ensures.index)

pub returns-clause-place : goal.returns-clause-place
returns-clause-place c =
    let pairs = ap (λ (s : MapContents). s.pairs) c.self.view_is in
    let fields = fields_seen (λ k. k.items) (λ held. held.value) c.self.inside.table.entries _ pairs in
    let places = position_seen (λ k. k.items) _ _ fields (bytes_eq c.args.field.now) in
    cc (c.in_ok-place.was, c.get_index_of.ensures.index)
