use Rattle.std.proofs.Common.{◌-◌, ap, ◌∙◌, arith, refl, Some}
use Rattle.arc_core.specs.TreeReading.{is_selected}
use Rattle.tree_coll.specs.TreeOutcomes.{TreeContents, holding}
use Rattle.tree_coll.specs.TreePlanning.{without_between}
use Rattle.tree_coll.proofs.WithoutLemmas.{one_before}
use Rattle.tree_coll.proofs.tree.TreeColl.remove_passing.Goals as goal

pub loop-place-preserved : goal.loop-place-preserved
loop-place-preserved g c =
    let p = is_selected (Some c.args.filter.now) in
    let old = c.args.self.now.contents in
    let ys = c.loop-place.self.contents.elements in
    let n = c.loop-place.place - 1 in
    let so_far = ap (λ (t : TreeContents). t.elements) c.loop-place.invariant.contents in
    record {
      low = omega (arith, c.loop-place-test.true);
      high = omega (arith, c.loop-place.invariant.high);
      contents = c.remove_passing_at.ensures.contents
          ∙ (ap (holding (without_between p n c.loop-place.place ys)) c.loop-place.invariant.contents
          ∙ ap (λ zs. holding zs old)
          (one_before p n c.loop-place.place c.args.high old.elements ys (without_between p n c.loop-place.place ys)
          (omega (arith, c.loop-place-test.true, c.loop-place.invariant.low)) c.loop-place.invariant.high c.requires.within so_far refl));
      spare = omega (arith, c.loop-place.invariant.spare, c.remove_passing_at.ensures.spare);
    }
