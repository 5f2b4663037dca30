use Rattle.std.proofs.Common.{◌≡◌, ◌%◌, ◌^◌, slice_range}
use Rattle.arc_core.specs.TreeContents.{elem_sizes}
use Rattle.tree_coll.proofs.tree.TreeColl.size_between.Given as goal

abbrev pub invariant-loop-place : goal.invariant-loop-place
invariant-loop-place g l = l.size ≡ elem_sizes (slice_range l.self.contents.elements l.low l.place) % 2 ^ 64
