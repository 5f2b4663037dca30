use Rattle.std.proofs.Common.{◌≡◌, ◌∙◌, [], ◌∷◌, ◌++◌, length, arith, refl, ap}
use Rattle.std.specs.Str.{bytes_eq}
use Rattle.std.proofs.lemmas.List.{length-append}
use Rattle.set_coll.specs.SetContents.{SetContents}
use Rattle.arc_core.proofs.MappedLists.{absent_seen, inserted_last, push_seen}
use Rattle.set_coll.proofs.SizeLemmas.{size_pushed}
use Rattle.set_coll.proofs.values.SetColl.insert_spare.Goals as goal

inserted : (c : goal.After-unwrap) → c.insert.new.self.keys ≡ c.self.inside.table.keys ++ c.args.value ∷ []
inserted c =
    let seen = ap (λ (s : SetContents). s.values) c.self.view_is in
    let absent = absent_seen (λ v. v.items) _ _ seen (bytes_eq c.args.value.items) c.requires.absent in
    inserted_last (λ a b. bytes_eq a.items b.items) _ _ _ _ _ c.unwrap.ensures c.insert.ensures.keys absent

pub invariant_of-self : goal.invariant_of-self
invariant_of-self c =
    let room = ap (λ (s : SetContents). s.spare) c.self.view_is in
    let longer = ap length (inserted c) ∙ length-append c.self.inside.table.keys _ in
    let pushed = push_seen (λ v. v.items) _ _ refl _ c.args.value (inserted c) in (
      grind (arith, room, longer, c.requires.spare),
      size_pushed _ _ c.args.value.items _ _ pushed c.self.invariant.1 (omega (arith, c.value_size.ensures, ap length c.deref.ensures.value)),
    )

pub returns-clause-values : goal.returns-clause-values
returns-clause-values c =
    let seen = ap (λ (s : SetContents). s.values) c.self.view_is in
    push_seen (λ v. v.items) _ _ seen _ c.args.value (inserted c)
