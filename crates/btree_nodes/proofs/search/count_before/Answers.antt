use Rattle.std.proofs.Common.{arith, ap, length}
use Rattle.std.proofs.lemmas.List.{take_rest}
use Rattle.btree_nodes.specs.Subtree.{all_elements}
use Rattle.btree_nodes.proofs.ChildrenLemmas.{front_and_rest}
use Rattle.btree_nodes.proofs.search.count_before.Goals as goal

pub count_below-requires : goal.count_below-requires
count_below-requires c = omega (arith, front_and_rest c.args.children.now c.args.index)

pub count_below-requires-2 : goal.count_below-requires-2
count_below-requires-2 c = omega (arith, front_and_rest c.args.children.now c.args.index, ap (λ ys. length (all_elements ys)) (take_rest c.args.children.now c.args.index))

pub overflow_sub-result : goal.overflow_sub-result
overflow_sub-result c = omega (arith, front_and_rest c.args.children.now c.args.index, ap (λ ys. length (all_elements ys)) (take_rest c.args.children.now c.args.index))

pub returns : goal.returns
returns c = omega (arith, front_and_rest c.args.children.now c.args.index, ap (λ ys. length (all_elements ys)) (take_rest c.args.children.now c.args.index))
