use Rattle.std.proofs.Common.{ap}
use Rattle.std.specs.Str.{bytes_eq}
use Rattle.std.proofs.lemmas.Map.Made.{AllPairs-from_IsDistinct}
use Rattle.std.proofs.lemmas.Slice.Eq.{bytes_eq-Decides}
use Rattle.map_coll.specs.MapContents.{MapContents}
use Rattle.arc_core.proofs.MappedLists.{distinct_seen}
use Rattle.map_coll.proofs.EntryLemmas.{fields_seen}
use Rattle.map_coll.proofs.pairs.MapColl.count.Goals as goal

pub returns-clause-distinct : goal.returns-clause-distinct
returns-clause-distinct c =
    let pairs = ap (λ (s : MapContents). s.pairs) c.self.view_is in
    let fields = fields_seen (λ k. k.items) (λ held. held.value) c.self.inside.table.entries _ pairs in
    AllPairs-from_IsDistinct bytes_eq-Decides _ (distinct_seen (λ k. k.items) _ _ fields bytes_eq c.len.ensures.unique)
