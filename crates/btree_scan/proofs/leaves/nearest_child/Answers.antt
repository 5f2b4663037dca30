use Rattle.std.proofs.Common.{◌≡◌, ◌+◌, ◌-◌, refl, ap, sym, subst, length, arith}
use Rattle.btree_scan.specs.Descents.{IsNearest}
use Rattle.btree_scan.specs.Ways.{AreLevels}
use Rattle.btree_scan.proofs.LevelLemmas.{length_push}
use Rattle.btree_scan.proofs.DescentLemmas.{passed_more, nearest_found}
use Rattle.btree_scan.proofs.leaves.nearest_child.Goals as goal

pub loop-children-init : goal.loop-children-init
loop-children-init c =
    let way = c.args.way.now in
    let low : 1 ≡ length way + 1 - length way = omega arith in
    record {
      elements = refl;
      popped = omega arith;
      levels = subst (λ n. AreLevels n way) low c.requires.levels;
      same = λ same. refl;
      passed = λ less. absurd (omega arith);
    }

pub push-requires : goal.push-requires
push-requires c = omega (arith, c.loop-children.invariant.popped, c.requires.fits, ap length c.in-Some.ensures, length_push c.pop.new.self c.in-Some.children)

pub returns-in-Some-split_near : goal.returns-in-Some-split_near
returns-in-Some-split_near c =
    subst (λ way. IsNearest c.args.down c.args.way.now c.in-Some-split_near.child.now way) (sym c.push.ensures)
    (nearest_found c.args.down c.args.way.now c.loop-children.way c.pop.new.self c.in-Some.children c.in-Some-split_near.child.now c.in-Some-split_near.others c.loop-children.invariant c.in-Some.ensures c.in-Some-split_near.ensures)

pub loop-children-preserved : goal.loop-children-preserved
loop-children-preserved c =
    passed_more c.args.down c.args.way.now c.loop-children.way c.pop.new.self c.in-Some.children c.loop-children.invariant c.in-Some.ensures c.in_default-split_near.ensures
