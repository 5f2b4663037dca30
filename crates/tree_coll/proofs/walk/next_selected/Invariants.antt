use Rattle.std.proofs.Common.{◌≡◌, length}
use Rattle.std.specs.List.{filter}
use Rattle.arc_core.specs.TreeReading.{is_selected}
use Rattle.tree_coll.proofs.walk.next_selected.Given as goal

-- none of those that were passed by is selected
abbrev pub invariant-loop-element : goal.invariant-loop-element
invariant-loop-element g l = filter (is_selected l.filter) l.cursor.left ≡ filter (is_selected l.filter) l.initial.cursor.left

abbrev pub decreases-loop-element : goal.decreases-loop-element
decreases-loop-element g l = length l.cursor.left
