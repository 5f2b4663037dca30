use Rattle.std.proofs.Common.{ap, length, arith}
use Rattle.btree_scan.proofs.EndLemmas.{span_least}
use Rattle.btree_scan.proofs.SeenLemmas.{low_tree}
use Rattle.btree_scan.proofs.tests.sum_in_258.Goals as goal

pub returns : goal.returns
returns g c =
    let start = c.new-cursor.ensures in
    let tree = c.args.tree.now in
    let low = low_tree tree.height (λ two. omega (arith, start.high two, c.requires)) in
    omega (arith, start.steps, ap length start.elements, span_least c.args.range.now tree.elements, low, c.in_default.ensures.steps, c.requires)
