use Rattle.std.proofs.Common.{ap, ◌∙◌, drop}
use Rattle.std.specs.List.{filter}
use Rattle.arc_core.specs.TreeReading.{is_selected}
use Rattle.tree_coll.specs.TreeHolding.{covered_to}
use Rattle.tree_coll.proofs.WalkLemmas.{chosen_rows, covered_is}
use Rattle.tree_coll.proofs.walk.walk.Goals as goal

pub returns-clause-rows : goal.returns-clause-rows
returns-clause-rows g c =
    chosen_rows c.args.read.now c.args.tree.now.elements _ c.count-count.result c.limit_of-limit.result c.in_ok-collected.collected.rows c.count-count.ensures c.limit_of-limit.ensures
    (c.skip.ensures ∙ ap (λ xs. drop c.args.read.now.offset (filter (is_selected c.args.read.now.filter) xs)) c.new-cursor.ensures.elements)
    c.in_ok-collected.ensures.rows

pub returns-clause-covered : goal.returns-clause-covered
returns-clause-covered g c =
    covered_is c.args.read.now c.args.tree.now.elements _ c.count-count.result c.limit_of-limit.result c.in_ok-collected.collected.last c.covered.result c.limit_of-limit.ensures
    (c.skip.ensures ∙ ap (λ xs. drop c.args.read.now.offset (filter (is_selected c.args.read.now.filter) xs)) c.new-cursor.ensures.elements)
    c.in_ok-collected.ensures.last
    (c.covered.ensures ∙ ap (covered_to c.args.read.now.range) c.completed-last.ensures)
