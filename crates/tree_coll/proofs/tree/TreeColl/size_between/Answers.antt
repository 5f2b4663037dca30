use Rattle.std.proofs.Common.{◌+◌, ◌%◌, ◌^◌, ap, sym, ◌∙◌, arith, slice_get}
use Rattle.std.proofs.lemmas.List.Edits.{between_none}
use Rattle.arc_core.specs.TreeContents.{elem_sizes}
use Rattle.tree_coll.proofs.StoreSizes.{size_more}
use Rattle.tree_coll.proofs.tree.TreeColl.size_between.Goals as goal

pub loop-place-init : goal.loop-place-init
loop-place-init g c = sym (ap (λ ys. elem_sizes ys % 2 ^ 64) (between_none c.args.self.now.contents.elements c.args.low))

pub loop-place-preserved : goal.loop-place-preserved
loop-place-preserved g c =
    let n = c.loop-place.place in
    size_more c.args.self.now.contents.elements c.args.low n (n + 1) c.loop-place.size c.elem_size-size.result c.at_position.result.now (omega arith) c.loop-place.auto.place
    (ap (λ ys. slice_get ys n) (sym c.tree.ensures) ∙ c.at_position.ensures.element) c.loop-place.invariant c.elem_size-size.ensures
