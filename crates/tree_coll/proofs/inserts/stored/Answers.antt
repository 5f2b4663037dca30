use Rattle.std.proofs.Common.{◌<◌, ◌-◌, ap, sym, ◌∙◌, slice_get, arith}
use Rattle.tree_coll.specs.TreePlanning.{moved_over}
use Rattle.tree_coll.specs.declared.inserts.Settlement.TheVariants as settlement
use Rattle.tree_coll.proofs.StoreLemmas.{edges_over}
use Rattle.tree_coll.proofs.inserts.stored.Goals as goal

pub returns : goal.returns
returns g c = λ kept bkey.
    let xs = c.args.held.now.contents.elements in
    let how = c.args.attrs.now.action in
    let x = c.at_position.result.now in
    let y = c.at_position-2.result.now in
    let some : c.args.low < c.args.high = omega (arith, c.requires.order, c.if-low-high.false) in
    ap (settlement.Stored c.args.low c.args.high)
    (edges_over how xs c.args.low c.args.high x y bkey c.args.held.now.contents.edges c.trimmed_edges.result kept c.requires.rising some c.requires.within
    (ap (λ ys. slice_get ys c.args.low) (sym c.tree.ensures) ∙ c.at_position.ensures.element)
    (ap (λ ys. slice_get ys (c.args.high - 1)) (sym c.tree-2.ensures) ∙ c.at_position-2.ensures.element)
    (c.trimmed_edges.ensures ∙ ap (moved_over how x.bkey y.bkey) c.edges-edges.ensures))
