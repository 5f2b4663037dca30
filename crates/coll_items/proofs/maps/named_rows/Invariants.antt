use Rattle.std.proofs.Common.{◌≡◌, map, take, slice_get}
use Rattle.std.specs.List.{filter_map}
use Rattle.arc_core.specs.CollectionRows.{field_row}
use Rattle.coll_items.proofs.maps.named_rows.Given as goal

-- the rows so far are those of the first places
abbrev pub invariant-loop-index : goal.invariant-loop-index
invariant-loop-index l = l.rows ≡ map field_row (filter_map (slice_get l.held.pairs) (take l.index l.places))
