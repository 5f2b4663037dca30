use Rattle.std.proofs.Common.{arith}
use Rattle.btree_nodes.proofs.RunLemmas.{shifted}
use Rattle.btree_nodes.proofs.child.pairing.level.Goals as goal

pub returns-then-len-lt-MIN_WIDTH-2-clause-leveled : goal.returns-then-len-lt-MIN_WIDTH-2-clause-leveled
returns-then-len-lt-MIN_WIDTH-2-clause-leveled g c =
    let left = c.args.left.now.items in
    let right = c.args.right.now.items in
    let moved = shifted left right c.move_last.new.from.items c.move_last.new.to.items c.len-then-len-lt-MIN_WIDTH-2.result c.len-then-len-lt-MIN_WIDTH-2-2.result
    (omega arith) (omega arith) (omega arith) (omega arith) (omega arith) (omega arith) c.move_last.ensures.from c.move_last.ensures.to in
    record {
      items = moved.items;
      first_least = moved.first_least;
      first_most = moved.first_most;
      second_least = moved.second_least;
      second_most = moved.second_most;
      first_room = omega arith;
      second_room = omega arith;
    }
