use Rattle.std.proofs.Common.{◌≡◌, ap, sym, ◌∙◌, arith, get_or, inl, inr}
use Rattle.std.proofs.lemmas.List.{get_or_default}
use Rattle.std.specs.Ordering.{is_eq}
use Rattle.arc_core.specs.declared.trees.Elem.{Elem}
use Rattle.arc_core.specs.BkeyOrder.{bkey_cmp}
use Rattle.btree_nodes.proofs.SearchLemmas.{bool_cases}
use Rattle.btree_scan.proofs.FoundLemmas.{found_at, absent_at}
use Rattle.btree_scan.proofs.positions.is_at.Goals as goal

pub returns-then-place-elements : goal.returns-then-place-elements
returns-then-place-elements c = sym (absent_at c.args.bkey.now c.args.elements.now c.args.place c.requires.rising c.requires.place (λ d within. absurd (omega arith)))

pub returns : goal.returns
returns c =
    let x = c.index-elements-place.result in
    let elements = c.args.elements.now in
    let answer : c.is_eq.result ≡ is_eq (bkey_cmp c.args.bkey.now (get_or elements c.args.place x).bkey) = c.is_eq.ensures ∙ ap is_eq c.cmp.ensures in
    elim (bool_cases c.is_eq.result) [
      | inl found ↦ found ∙ sym (found_at c.args.bkey.now elements c.args.place x c.if-place-elements.false (sym answer ∙ found))
      | inr other ↦ other ∙ sym (absent_at c.args.bkey.now elements c.args.place c.requires.rising c.requires.place
          (λ d within. ap (λ (e : Elem). is_eq (bkey_cmp c.args.bkey.now e.bkey)) (get_or_default elements c.args.place d x within) ∙ (sym answer ∙ other)))
    ]
