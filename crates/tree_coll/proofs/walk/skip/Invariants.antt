use Rattle.std.proofs.Common.{◌≡◌, drop}
use Rattle.std.specs.List.{filter}
use Rattle.arc_core.specs.TreeReading.{is_selected}
use Rattle.tree_coll.proofs.walk.skip.Given as goal

abbrev pub invariant-loop-number : goal.invariant-loop-number
invariant-loop-number g l = filter (is_selected l.filter) l.cursor.left ≡ drop l._number (filter (is_selected l.filter) l.initial.cursor.left)
