use Rattle.std.proofs.Common.{ap}
use Rattle.std.specs.Str.{bytes_eq}
use Rattle.std.proofs.lemmas.Map.Made.{AllPairs-from_IsDistinct}
use Rattle.std.proofs.lemmas.Slice.Eq.{bytes_eq-Decides}
use Rattle.set_coll.specs.SetContents.{SetContents}
use Rattle.arc_core.proofs.MappedLists.{distinct_seen}
use Rattle.set_coll.proofs.values.SetColl.count.Goals as goal

pub returns-clause-distinct : goal.returns-clause-distinct
returns-clause-distinct c =
    let seen = ap (λ (s : SetContents). s.values) c.self.view_is in
    AllPairs-from_IsDistinct bytes_eq-Decides _ (distinct_seen (λ v. v.items) _ _ seen bytes_eq c.len.ensures.unique)
