use Rattle.std.proofs.Common.{ap, sym, subst, arith, List}
use Rattle.std.specs.Borrow.{Bor}
use Rattle.btree_nodes.specs.Subtree.{Subtree}
use Rattle.btree_nodes.specs.PartRules.{elements_of, height_of}
use Rattle.btree_scan.proofs.LevelLemmas.{length_push}
use Rattle.btree_scan.proofs.DescentLemmas.{IsOnWay, on_way, on_way_more}
use Rattle.btree_scan.proofs.leaves.near_leaf.Goals as goal

pub loop-part-init : goal.loop-part-init
loop-part-init g c =
    let shown = c.part-part.ensures in
    record {
      on_way = on_way c.args.down c.args.way.now c.args.child.now (elements_of c.part-part.result) (height_of c.part-part.result) c.requires.child c.requires.levels shown.elements shown.height;
      part = shown.part;
      steps = omega (arith, shown.steps, shown.height);
    }

pub loop-part-preserved : goal.loop-part-preserved
loop-part-preserved g c =
    let down = c.args.down in
    let first = c.args.way.now in
    let child = c.args.child.now in
    let below = c.in-Some.below.now in
    let others = c.in-Some.others in
    let i = c.loop-part.invariant in
    let shown = c.part-part-in-Branch.ensures in
    let are = rw c.in-Branch.is at i.part in
    let more = on_way_more down first child c.loop-part.way (elements_of c.loop-part.part) (height_of c.loop-part.part) c.in-Branch.children.now below others i.on_way are (ap elements_of c.in-Branch.is) (ap height_of c.in-Branch.is) c.in-Some.ensures in
    let pushed : IsOnWay down first child c.push.new.self below.elements below.height = subst (λ (way : List (Bor (List Subtree))). IsOnWay down first child way below.elements below.height) (sym c.push.ensures) more in
    let shown_elements = subst (λ xs. IsOnWay down first child c.push.new.self xs below.height) (sym shown.elements) pushed in
    record {
      on_way = subst (λ h. IsOnWay down first child c.push.new.self (elements_of c.part-part-in-Branch.result) h) (sym shown.height) shown_elements;
      part = shown.part;
      steps = omega (arith, i.steps, shown.steps, shown.height, i.on_way.depth, more.depth, length_push c.loop-part.way others);
    }
