use Rattle.std.proofs.Common.{arith, Some, ◌+◌, ◌-◌, ◌≤◌, ◌%◌, ◌^◌, ◌∙◌, ap, get_or}
use Rattle.std.proofs.lemmas.List.{get_or_default}
use Rattle.std.specs.List.{between}
use Rattle.arc_core.specs.declared.trees.Elem.{Elem}
use Rattle.arc_core.specs.TreeContents.{elem_sizes}
use Rattle.btree_nodes.proofs.runs.take_run.Goals as goal

pub returns-clause-run : goal.returns-clause-run
returns-clause-run c =
    let xs = c.args.elements.now.items in
    let low = c.args.place in
    let count = c.min-count.result in
    let some : 1 ≤ count = omega arith in
    record {
      some = some;
      most = omega arith;
      within = omega arith;
      elements = c.take_out.ensures.items;
      size = c.elem_sizes-run.ensures ∙ ap (λ ys. elem_sizes (between low (low + count) ys) % 2 ^ 64) c.deref.ensures.value;
      last = λ d. ap (λ (e : Elem). Some e) (c.take_out.ensures.last ∙ (get_or_default xs (low + count - 1) c.take_out.result d (omega (arith, some)) ∙ ap (λ k. get_or xs k d) (omega (arith, some))));
    }
