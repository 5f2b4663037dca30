use Rattle.std.proofs.Common.{◌≡◌, ◌+◌, ◌<◌, ◌++◌, arith, ap, sym, ◌∙◌, subst, refl, length, get_or, take, drop}
use Rattle.std.proofs.lemmas.Option.{slice_get_read}
use Rattle.btree_nodes.specs.Subtree.{Subtree, all_elements}
use Rattle.btree_nodes.specs.PartRules.{elements_of, height_of}
use Rattle.btree_nodes.proofs.ChildrenLemmas.{all_split}
use Rattle.btree_nodes.proofs.MiddleLemmas.{get_middle}
use Rattle.btree_scan.proofs.positions.at_position.Goals as goal

pub loop-part-preserved : goal.loop-part-preserved
loop-part-preserved g c =
    let children = c.in-Branch.children.now in
    let index = c.child_at-index.result.0 in
    let o = c.child_at-index.result.1 in
    let child = c.index-children-index.result in
    let found = c.child_at-index.ensures in
    let i = c.loop-part.invariant in
    let shown = c.part-part-in-Branch.ensures in
    let all = ap elements_of c.in-Branch.is in
    let there : child ≡ get_or children index child = c.index-children-index.is in
    let below : o < length child.elements = subst (λ (x : Subtree). o < length x.elements) (sym there) (found.inside child (omega (arith, i.within, i.total, ap length all))) in
    let A = all_elements (take index children) in
    let R = all_elements (drop (index + 1) children) in
    let whole : all_elements children ≡ A ++ (child.elements ++ R) = all_split children index child found.within ∙ ap (λ (x : Subtree). A ++ (x.elements ++ R)) (sym there) in
    let are = rw c.in-Branch.is at i.part in
    let level = (are.balanced index child found.within).level in
    let high = ap height_of c.in-Branch.is in
    let same = ap (λ (x : Subtree). x.height) there in
    record {
      element = λ d. i.element d ∙ (ap (λ ys. get_or ys c.loop-part.offset d) (all ∙ whole) ∙ (ap (λ n. get_or (A ++ (child.elements ++ R)) n d) found.before ∙ (get_middle A child.elements R o d below ∙ ap (λ ys. get_or ys o d) (sym shown.elements))));
      total = c.count-total-in-Branch.ensures ∙ ap length (sym shown.elements);
      within = omega (arith, below, c.count-total-in-Branch.ensures);
      part = shown.part;
      steps = omega (arith, i.steps, shown.steps, shown.height, level, high, same);
    }

pub returns-clause-element : goal.returns-clause-element
returns-clause-element g c =
    let x = c.index-elements-offset.result in
    let i = c.loop-part.invariant in
    let here = ap elements_of c.in-Leaf.is in
    slice_get_read c.args.tree.now.elements (length c.args.tree.now.elements) c.args.place x refl c.requires (c.index-elements-offset.is ∙ (ap (λ ys. get_or ys c.loop-part.offset x) (sym here) ∙ sym (i.element x)))
