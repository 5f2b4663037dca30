use Rattle.std.proofs.Common.{◌≡◌, map, take}
use Rattle.arc_core.specs.CollectionRows.{field_row}
use Rattle.coll_items.proofs.maps.all_rows.Given as goal

-- the rows so far are those of the first pairs
abbrev pub invariant-loop-place : goal.invariant-loop-place
invariant-loop-place l = l.rows ≡ map field_row (take l.place l.held.pairs)
