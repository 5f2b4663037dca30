use Rattle.std.proofs.Common.{ap}
use Rattle.std.specs.Str.{bytes_eq}
use Rattle.set_coll.specs.SetContents.{SetContents}
use Rattle.arc_core.proofs.MappedLists.{position_seen}
use Rattle.set_coll.proofs.values.SetColl.place_of.Goals as goal

pub returns-in_err-place-clause-place : goal.returns-in_err-place-clause-place
returns-in_err-place-clause-place c =
    let seen = ap (λ (s : SetContents). s.values) c.self.view_is in
    let places = position_seen (λ v. v.items) _ _ seen (bytes_eq c.args.value.now) in
    cc (c.in_err-place.was, c.get_index_of.ensures.index)

pub returns-clause-place : goal.returns-clause-place
returns-clause-place c =
    let seen = ap (λ (s : SetContents). s.values) c.self.view_is in
    let places = position_seen (λ v. v.items) _ _ seen (bytes_eq c.args.value.now) in
    cc (c.in_ok-place.was, c.get_index_of.ensures.index)
