use Rattle.std.proofs.Common.{◌≡◌, map, take}
use Rattle.arc_core.specs.CollectionRows.{plain_row}
use Rattle.coll_items.proofs.sets.rows_of.Given as goal

-- the rows so far are those of the first values
abbrev pub invariant-loop-place : goal.invariant-loop-place
invariant-loop-place l = l.rows ≡ map plain_row (take l.place l.set.values)
