use Rattle.std.proofs.Common.{◌≡◌, ◌-◌, ◌≤◌, ◌++◌, length, take, drop, reverse, vec_capacity}
use Rattle.btree_nodes.proofs.moving.pour.Given as goal

abbrev pub invariant-loop-moved : goal.invariant-loop-moved
invariant-loop-moved g l = record {
  from : l.from.items ≡ take (length l.fn.from.items - l._moved) l.fn.from.items;
  to : l.to.items ≡ l.fn.to.items ++ reverse (drop (length l.fn.from.items - l._moved) l.fn.from.items);
  from_room : vec_capacity l.from ≡ vec_capacity l.fn.from;
  to_room : vec_capacity l.fn.to ≤ vec_capacity l.to;
}
