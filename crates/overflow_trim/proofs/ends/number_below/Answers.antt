use Rattle.btree_scan.specs.declared.positions.Position.TheVariants.{At, Before}
use Rattle.overflow_trim.proofs.AroundLemmas.{position_cuts}
use Rattle.overflow_trim.proofs.ends.number_below.Goals as goal

pub returns-in-At : goal.returns-in-At
returns-in-At g c = position_cuts c.args.bkey.now c.args.tree.now.elements (At c.in-At.place) c.in-At.ensures.rising c.in-At.ensures.position

pub returns-in-Before : goal.returns-in-Before
returns-in-Before g c = position_cuts c.args.bkey.now c.args.tree.now.elements (Before c.in-Before.place) c.in-Before.ensures.rising c.in-Before.ensures.position
