use Rattle.std.proofs.Common.{◌≡◌, ◌%◌, ◌^◌, take}
use Rattle.arc_core.specs.TreeContents.{elem_sizes}
use Rattle.btree_nodes.proofs.runs.elem_sizes.Given as goal

abbrev pub invariant-loop-elem : goal.invariant-loop-elem
invariant-loop-elem l = l.size ≡ elem_sizes (take l.elem-index l.elements) % 2 ^ 64
