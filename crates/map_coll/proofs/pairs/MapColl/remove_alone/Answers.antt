use Rattle.std.proofs.Common.{sym, ◌∙◌}
use Rattle.map_coll.proofs.OneField.{without_only}
use Rattle.map_coll.proofs.pairs.MapColl.remove_alone.Goals as goal

pub returns-in-Some-place_of-clause-pairs : goal.returns-in-Some-place_of-clause-pairs
returns-in-Some-place_of-clause-pairs c =
    let first = sym c.iter.ensures ∙ c.in-Some.ensures.steps in
    let at = sym c.place_of.ensures.place ∙ c.in-Some-place_of.is in
    c.remove.ensures.pairs
    ∙ sym (without_only c.args.fields.now _ _ _ c.requires first c.bytes.ensures.bytes c.args.self.now.pairs
    c.count-count.ensures.distinct _ at)

pub returns-in_default-place_of-clause-pairs : goal.returns-in_default-place_of-clause-pairs
returns-in_default-place_of-clause-pairs c =
    let first = sym c.iter.ensures ∙ c.in-Some.ensures.steps in
    let at = sym c.place_of.ensures.place ∙ c.in_default-place_of.is in
    sym (without_only c.args.fields.now _ _ _ c.requires first c.bytes.ensures.bytes c.args.self.now.pairs
    c.count-count.ensures.distinct _ at)
