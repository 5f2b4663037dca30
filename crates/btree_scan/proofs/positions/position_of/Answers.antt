use Rattle.std.proofs.Common.{◌≡◌, ◌+◌, arith, ap, sym, ◌∙◌, subst, length, get_or}
use Rattle.arc_core.specs.TreeContents.{IsRising, place_of}
use Rattle.btree_nodes.specs.declared.child.Part.{Part}
use Rattle.btree_nodes.specs.Subtree.{Subtree}
use Rattle.btree_nodes.specs.PartRules.{elements_of, height_of}
use Rattle.btree_nodes.specs.Ways.{has_bkey}
use Rattle.btree_nodes.proofs.WayLemmas.{each_some, rising_child}
use Rattle.btree_nodes.proofs.ChildrenLemmas.{length_more, front_le}
use Rattle.btree_scan.proofs.positions.position_of.Goals as goal

pub child_with-index-requires-clause-each : goal.child_with-index-requires-clause-each
child_with-index-requires-clause-each g c =
    each_some c.in-Branch.children.now (rw c.in-Branch.is at c.loop-part.invariant.part)

pub overflow_add-before : goal.overflow_add-before
overflow_add-before g c =
    let all = ap (λ (part : Part). length (elements_of part)) c.in-Branch.is in
    omega (arith, c.loop-part.invariant.fits, c.loop-part.invariant.total, all, front_le c.in-Branch.children.now c.child_with-index.result, c.count-total.ensures, c.count-total.type_inv)

pub loop-part-preserved : goal.loop-part-preserved
loop-part-preserved g c =
    let children = c.in-Branch.children.now in
    let index = c.child_with-index.result in
    let child = c.index-children-index.result in
    let way = c.child_with-index.ensures in
    let i = c.loop-part.invariant in
    let bkey = c.args.bkey.now in
    let shown = c.part-part-in-Branch.ensures in
    let all = ap elements_of c.in-Branch.is in
    let there : child ≡ get_or children index child = c.index-children-index.is in
    let rising = subst (λ (x : Subtree). IsRising x.elements) (sym there) (rising_child children index child way.within (subst IsRising all i.rising)) in
    let more = length_more children index child way.within in
    let whole = ap length all in
    let below : place_of bkey (get_or children index child).elements ≡ place_of bkey (elements_of c.part-part-in-Branch.result) = ap (λ (x : Subtree). place_of bkey x.elements) (sym there) ∙ ap (place_of bkey) (sym shown.elements) in
    let are = rw c.in-Branch.is at i.part in
    let level = (are.balanced index child way.within).level in
    let high = ap height_of c.in-Branch.is in
    let same = ap (λ (x : Subtree). x.height) there in
    record {
      place = i.place ∙ (ap (λ ys. c.loop-part.before + place_of bkey ys) all ∙ (ap (λ n. c.loop-part.before + n) (way.place child) ∙ omega (arith, below, c.count_before-before.ensures)));
      found = i.found ∙ (ap (has_bkey bkey) all ∙ (way.found child ∙ (ap (λ (x : Subtree). has_bkey bkey x.elements) (sym there) ∙ ap (has_bkey bkey) (sym shown.elements))));
      total = c.count-total-in-Branch.ensures ∙ ap length (sym shown.elements);
      fits = omega (arith, i.fits, i.total, whole, more, front_le children (index + 1), ap (λ (x : Subtree). length x.elements) there, c.count_before-before.ensures, c.count-total-in-Branch.ensures);
      rising = subst IsRising (sym shown.elements) rising;
      part = shown.part;
      steps = omega (arith, i.steps, shown.steps, shown.height, level, high, same);
    }
