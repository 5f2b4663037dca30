use Rattle.std.proofs.Common.{arith}
use Rattle.btree_scan.proofs.SpanLemmas.{there, found_position}
use Rattle.btree_scan.proofs.cursors.number_up_to.Goals as goal

pub overflow_add-result : goal.overflow_add-result
overflow_add-result g c =
    let found = found_position c.args.bkey.now c.args.tree.now.elements c.in-At.place c.in-At.ensures.position in
    omega (arith, found.1, there c.args.bkey.now c.args.tree.now.elements c.in-At.ensures.rising found.0, c.count-count.ensures, c.count-count.type_inv)

pub returns-in-At-clause-within : goal.returns-in-At-clause-within
returns-in-At-clause-within g c =
    let found = found_position c.args.bkey.now c.args.tree.now.elements c.in-At.place c.in-At.ensures.position in
    omega (arith, found.1, there c.args.bkey.now c.args.tree.now.elements c.in-At.ensures.rising found.0)
