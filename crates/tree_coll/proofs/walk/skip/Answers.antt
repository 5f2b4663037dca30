use Rattle.tree_coll.proofs.WalkLemmas.{skip_end, skip_more}
use Rattle.tree_coll.proofs.walk.skip.Goals as goal

pub returns-in_default : goal.returns-in_default
returns-in_default g c = skip_end _ _ _ c.loop-number._number c.args.offset c.loop-number-test.true c.loop-number.invariant c.in_default.ensures

pub loop-number-preserved : goal.loop-number-preserved
loop-number-preserved g c = skip_more _ _ _ c.loop-number._number c.in-Some._element.now c.loop-number.invariant c.in-Some.ensures
