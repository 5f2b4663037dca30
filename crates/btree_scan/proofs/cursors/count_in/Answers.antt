use Rattle.std.proofs.Common.{◌∙◌, ap, sym, length, arith}
use Rattle.arc_core.specs.TreeReading.{selected}
use Rattle.btree_scan.proofs.EndLemmas.{span_least}
use Rattle.btree_scan.proofs.SpanLemmas.{none_selected}
use Rattle.btree_scan.proofs.cursors.count_in.Goals as goal

pub returns-in-None-clause-count : goal.returns-in-None-clause-count
returns-in-None-clause-count g c =
    none_selected c.args.range.now c.args.tree.now.elements c.places-low.result.0 c.places-low.result.1 c.places-low.ensures.places
    ∙ ap (λ asked. length (selected c.args.range.now asked c.args.tree.now.elements)) (sym c.in-None.is)

pub count_passing-requires : goal.count_passing-requires
count_passing-requires g c = omega (arith, c.know_count.ensures, ap length c.new.ensures.elements, span_least c.args.range.now c.args.tree.now.elements)
