use Rattle.std.proofs.Common.{arith, ◌+◌, sym, subst, vec_capacity}
use Rattle.btree_nodes.specs.Subtree.{height_over}
use Rattle.btree_nodes.specs.Removal.{IsLooseAt, IsPaired}
use Rattle.btree_nodes.proofs.MendLemmas.{out, two_fit, mended}
use Rattle.btree_nodes.proofs.ReliefLemmas.{relieved}
use Rattle.btree_nodes.proofs.child.pairing.join_or_level.Goals as goal

pub pair-first-requires-clause-fits : goal.pair-first-requires-clause-fits
pair-first-requires-clause-fits c =
    let are_out = out c.args.children.now.items c.remove-left.new.self.items c.remove-right.new.self.items c.args.place c.remove-left.result c.remove-right.result
    c.requires.within c.remove-left.ensures.value c.remove-left.ensures.items c.remove-right.ensures.value c.remove-right.ensures.items in
    omega (arith, two_fit c.args.children.now.items c.remove-right.new.self.items c.args.place c.remove-left.result c.remove-right.result are_out)

pub returns-clause-mended : goal.returns-clause-mended
returns-clause-mended c =
    let children = c.args.children.now.items in
    let rest = c.remove-right.new.self.items in
    let p = c.args.place in
    let a = c.remove-left.result in
    let b = c.remove-right.result in
    let are_out = out children c.remove-left.new.self.items rest p a b
    c.requires.within c.remove-left.ensures.value c.remove-left.ensures.items c.remove-right.ensures.value c.remove-right.ensures.items in
    let loose = c.requires.loose in
    let level = (subst (IsLooseAt (height_over children)) (sym are_out.first) (loose.balanced p a (omega (arith, c.requires.within)))).level in
    let paired = subst (λ height. IsPaired height a b c.pair-first.result.0 c.pair-first.result.1) level c.pair-first.ensures.paired in
    mended children rest c.put_back.new.children.items (vec_capacity c.args.children.now) (vec_capacity c.put_back.new.children) c.args.index p a b c.pair-first.result.0 c.pair-first.result.1
    loose (omega arith) c.requires.within c.requires.one.0 c.requires.one.1 are_out paired c.put_back.ensures.items

pub returns-clause-relieved : goal.returns-clause-relieved
returns-clause-relieved c uneven =
    let children = c.args.children.now.items in
    let rest = c.remove-right.new.self.items in
    let p = c.args.place in
    let a = c.remove-left.result in
    let b = c.remove-right.result in
    let are_out = out children c.remove-left.new.self.items rest p a b c.requires.within c.remove-left.ensures.value c.remove-left.ensures.items c.remove-right.ensures.value c.remove-right.ensures.items in
    relieved children rest c.put_back.new.children.items (a.height + 1) p a b c.pair-first.result.0 c.pair-first.result.1 c.requires.within are_out c.pair-first.ensures.paired c.pair-first.ensures.free c.put_back.ensures.items uneven
