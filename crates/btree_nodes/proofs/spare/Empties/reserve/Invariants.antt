use Rattle.std.proofs.Common.{◌≤◌, length}
use Rattle.std.specs.List.{All}
use Rattle.btree_nodes.specs.Empties.{IsEmptyRoom}
use Rattle.btree_nodes.proofs.spare.Empties.reserve.Given as goal

abbrev pub invariant-loop-made : goal.invariant-loop-made
invariant-loop-made g l = record {
  kept : l.fn.self ≤ length l.self-inside.vectors.items;
  made : l._made ≤ length l.self-inside.vectors.items;
  empty : All IsEmptyRoom l.self-inside.vectors.items;
}
