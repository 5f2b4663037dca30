use Rattle.std.proofs.Common.{◌%◌, ◌^◌, arith, ◌≡◌, ◌∙◌, All, false, refl, length, ℕ, List, [], ◌∷◌, ◌++◌, None, ap, sym, subst}
use Rattle.std.specs.Str.{bytes_eq}
use Rattle.std.proofs.lemmas.List.{length-append}
use Rattle.std.proofs.lemmas.List.Elements.{All-push}
use Rattle.arc_core.specs.Key.{IsKey}
use Rattle.arc_core.specs.CollectionSize.{pair_size}
use Rattle.arc_core.specs.MapReading.{place_of}
use Rattle.map_coll.specs.MapContents.{MapContents}
use Rattle.arc_core.proofs.MappedLists.{absent_seen}
use Rattle.map_coll.proofs.EntryLemmas.{fields_seen, inserted_last, pair_pushed}
use Rattle.map_coll.proofs.SizeLemmas.{size_pushed}
use Rattle.map_coll.proofs.pairs.MapColl.insert_spare.Goals as goal

inserted : (c : goal.Joined-unwrap) → c.insert.new.self.entries ≡ c.self.inside.table.entries ++ (c.into_bytes.result, record { value = c.args.value; marked = false }) ∷ []
inserted c =
    let pairs = ap (λ (s : MapContents). s.pairs) c.self.view_is in
    let fields = fields_seen (λ k. k.items) (λ held. held.value) c.self.inside.table.entries _ pairs in
    let P : List ℕ → Type 0 = λ field. place_of field c.args.self.now.pairs ≡ None in
    let absent = absent_seen (λ k. k.items) _ _ fields (bytes_eq c.into_bytes.result.items) (subst P (sym c.into_bytes.ensures.bytes) c.requires.absent) in
    inserted_last (λ a b. bytes_eq a.items b.items) c.self.inside.table _ _ _ _ _ c.unwrap.ensures c.insert.ensures.entries absent

pub invariant_of-self : goal.invariant_of-self
invariant_of-self c =
    let room = ap (λ (s : MapContents). s.spare) c.self.view_is in
    let longer = ap length (inserted c) ∙ length-append c.self.inside.table.entries _ in
    let all = All-push (λ e. IsKey e.0.items × (e.1.marked ≡ false)) c.self.inside.table.entries _ c.self.invariant.1 (c.into_bytes.ensures.key, refl) in
    let pushed = pair_pushed (λ k. k.items) (λ held. held.value) _ _ refl _ c.into_bytes.result _ c.args.field c.into_bytes.ensures.bytes (inserted c) in
    let gained = c.pair_size.ensures ∙ ap (λ field. pair_size (field, c.args.value) % 2 ^ 64) c.bytes.ensures.bytes in (
      grind (arith, room, longer, c.requires.spare),
      subst (All (λ e. IsKey e.0.items × (e.1.marked ≡ false))) (sym (inserted c)) all,
      size_pushed _ _ (c.args.field, c.args.value) _ _ pushed c.self.invariant.2 gained,
    )

pub returns-clause-pairs : goal.returns-clause-pairs
returns-clause-pairs c =
    let pairs = ap (λ (s : MapContents). s.pairs) c.self.view_is in
    pair_pushed (λ k. k.items) (λ held. held.value) _ _ pairs _ c.into_bytes.result _ c.args.field c.into_bytes.ensures.bytes (inserted c)
