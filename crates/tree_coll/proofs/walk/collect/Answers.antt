use Rattle.tree_coll.specs.TreeOutcomes.{tree_row}
use Rattle.tree_coll.proofs.WalkLemmas.{rows_end, last_end, skip_more, row_more, last_more}
use Rattle.std.proofs.Common.{sym, ◌∙◌}
use Rattle.tree_coll.proofs.walk.collect.Goals as goal

pub returns-in_default-clause-rows : goal.returns-in_default-clause-rows
returns-in_default-clause-rows g c =
    rows_end _ _ _ c.loop-number.rows c.loop-number._number c.args.limit c.loop-number-test.true c.loop-number.invariant.left c.loop-number.invariant.rows c.in_default.ensures

pub returns-in_default-clause-last : goal.returns-in_default-clause-last
returns-in_default-clause-last g c =
    last_end _ _ _ c.loop-number._number c.args.limit c.loop-number-test.true c.loop-number.invariant.left c.in_default.ensures

pub loop-number-preserved : goal.loop-number-preserved
loop-number-preserved g c = record {
  left = skip_more _ _ _ c.loop-number._number c.in-Some.element.now c.loop-number.invariant.left c.in-Some.ensures;
  rows = row_more tree_row _ _ c.loop-number._number c.in-Some.element.now c.loop-number.rows c.put_row.new.rows (sym c.loop-number.invariant.left ∙ c.in-Some.ensures) c.loop-number.invariant.rows c.in_ok-put_row.ensures;
  last = last_more _ _ _ c.loop-number._number c.in-Some.element.now c.loop-number.invariant.left c.in-Some.ensures;
}
