use Rattle.std.proofs.Common.{ap, sym, subst, arith, List}
use Rattle.std.specs.Borrow.{Bor}
use Rattle.arc_core.specs.TreeContents.{IsRising}
use Rattle.btree_nodes.specs.Subtree.{Subtree}
use Rattle.btree_nodes.specs.PartRules.{elements_of, height_of}
use Rattle.btree_nodes.proofs.WayLemmas.{each_some}
use Rattle.btree_scan.specs.Ways.{ahead}
use Rattle.btree_scan.proofs.DirectionLemmas.{rising_near}
use Rattle.btree_scan.proofs.LevelLemmas.{length_push}
use Rattle.btree_scan.proofs.DescentLemmas.{IsBegun, begun_more, branch_high}
use Rattle.btree_scan.proofs.leaves.leaf_of.Goals as goal

pub child_with-index-requires-clause-each : goal.child_with-index-requires-clause-each
child_with-index-requires-clause-each g c = each_some c.in-Branch.children.now (rw c.in-Branch.is at c.loop-part.invariant.part)

pub child_with-index-requires-clause-rising : goal.child_with-index-requires-clause-rising
child_with-index-requires-clause-rising g c =
    subst IsRising (ap elements_of c.in-Branch.is) (rising_near c.args.down (elements_of c.loop-part.part) (ahead c.args.down c.loop-part.way) c.loop-part.invariant.begun.rising)

pub push-requires : goal.push-requires
push-requires g c =
    omega (arith, c.loop-part.invariant.begun.depth, c.know_height.ensures, ap height_of c.in-Branch.is, branch_high c.in-Branch.children.now (rw c.in-Branch.is at c.loop-part.invariant.part))

pub loop-part-preserved : goal.loop-part-preserved
loop-part-preserved g c =
    let down = c.args.down in
    let near = c.args.near.now in
    let all = c.args.tree.now.elements in
    let top = c.args.tree.now.height in
    let child = c.index-children-index.result in
    let others = c.children_beyond.result in
    let i = c.loop-part.invariant in
    let shown = c.part-part-in-Branch.ensures in
    let are = rw c.in-Branch.is at i.part in
    let more = begun_more down near all top c.loop-part.way (elements_of c.loop-part.part) (height_of c.loop-part.part) c.in-Branch.children.now c.child_with-index.result child others i.begun are (ap elements_of c.in-Branch.is) (ap height_of c.in-Branch.is)
    c.child_with-index.ensures c.children_beyond.ensures c.index-children-index.is in
    let pushed : IsBegun down near all top c.push.new.self child.elements child.height = subst (λ (way : List (Bor (List Subtree))). IsBegun down near all top way child.elements child.height) (sym c.push.ensures) more in
    let shown_elements = subst (λ xs. IsBegun down near all top c.push.new.self xs child.height) (sym shown.elements) pushed in
    record {
      begun = subst (λ h. IsBegun down near all top c.push.new.self (elements_of c.part-part-in-Branch.result) h) (sym shown.height) shown_elements;
      part = shown.part;
      steps = omega (arith, i.steps, shown.steps, shown.height, i.begun.depth, more.depth, length_push c.loop-part.way others);
    }
