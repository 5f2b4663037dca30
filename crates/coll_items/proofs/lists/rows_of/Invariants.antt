use Rattle.std.proofs.Common.{◌≡◌, map, take}
use Rattle.arc_core.specs.CollectionRows.{plain_row}
use Rattle.arc_core.specs.ListRows.{values_of}
use Rattle.coll_items.proofs.lists.rows_of.Given as goal

-- the rows so far are those of the first elements of the part
abbrev pub invariant-loop-offset : goal.invariant-loop-offset
invariant-loop-offset l = l.rows ≡ map plain_row (take l.offset (values_of l.part l.list.values))
