use Rattle.std.proofs.Common.{arith, ap, sym, length, vec_capacity}
use Rattle.btree_nodes.specs.Subtree.{Subtree}
use Rattle.btree_nodes.proofs.MendLemmas.{left_out}
use Rattle.btree_nodes.proofs.child.pairing.mend.Goals as goal

pub returns-then-len-gt2-clause-mended : goal.returns-then-len-gt2-clause-mended
returns-then-len-gt2-clause-mended c =
    let x = c.index-2.result.now in
    let none = ap (λ (y : Subtree). length y.elements) (sym c.index-2.ensures) in
    left_out c.args.children.now.items c.remove.new.self.items (vec_capacity c.args.children.now) (vec_capacity c.remove.new.self) c.args.index x c.requires.loose (omega arith) (omega arith) c.remove.ensures.items
    (omega (arith, none, c.count.ensures, c.if-count-eq0.true))
