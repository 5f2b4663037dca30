use Rattle.std.proofs.Common.{sym, subst, arith}
use Rattle.smget_merge.specs.Hundreds.{IsTreeOfHundred}
use Rattle.smget_merge.proofs.SeenLemmas.{hundred_low}
use Rattle.smget_merge.proofs.tests.add_all.Goals as goal

pub loop-i-preserved : goal.loop-i-preserved
loop-i-preserved g c =
    let tree = c.index-trees-i.result in
    let is : IsTreeOfHundred tree = subst IsTreeOfHundred (sym c.index-trees-i.is) (c.requires.each c.loop-i.i tree (omega (arith, c.requires.count, c.loop-i-test.true))) in
    let low = hundred_low tree.height (λ two. omega (arith, c.add.ensures.high two, is.count)) in
    record {
      room = omega (arith, c.add.ensures.room, c.loop-i.invariant.room);
      steps = omega (arith, c.add.ensures.steps, c.loop-i.invariant.steps, low);
    }
