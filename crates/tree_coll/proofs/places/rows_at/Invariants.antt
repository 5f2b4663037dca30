use Rattle.std.proofs.Common.{◌≡◌, map, take}
use Rattle.tree_coll.specs.TreeOutcomes.{tree_row}
use Rattle.tree_coll.specs.TreeRows.{at_positions, ordered}
use Rattle.tree_coll.proofs.places.rows_at.Given as goal

abbrev pub invariant-loop-number : goal.invariant-loop-number
invariant-loop-number g l = l.rows ≡ map tree_row (take l.number (at_positions l.first l.last (ordered l.desc l.held.contents.elements)))
