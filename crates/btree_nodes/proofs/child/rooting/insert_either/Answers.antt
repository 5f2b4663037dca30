use Rattle.std.proofs.Common.{arith, ◌++◌, ◌∙◌, ap, sym, refl}
use Rattle.std.proofs.lemmas.List.Edits.{insert-append_right}
use Rattle.btree_nodes.proofs.child.rooting.insert_either.Goals as goal

pub returns-else-place-count : goal.returns-else-place-count
returns-else-place-count c =
    let first = c.args.first.now.elements in
    let second = c.args.second.now.elements in
    let grown = c.insert-else-place-count.ensures in
    record {
      elements = ap (λ ys. first ++ ys) grown.elements ∙ sym (insert-append_right first second c.count-count.result c.args.place c.args.elem (sym c.count-count.ensures) (omega arith));
      heights = (refl, grown.height);
      widths = (omega arith, grown.width);
      rooms = (omega arith, grown.room);
      dense = (c.requires.first.2, grown.dense);
    }
