-- What the requests on a list do. (`lop` of the ARCUS protocol; that ranges are clipped, and what a full list does, is this
-- server's own.)
use Rattle.std.specs.Prelude.{ℕ, ◌+◌, ◌-◌, Bool, if◌then◌else◌, List, length, map, insert, take, drop, reverse, Option, Some, None, ℤ}
use Rattle.std.specs.List.{remove_range}
use Rattle.arc_core.specs.declared.attributes.Attrs.{Attrs}
use Rattle.arc_core.specs.declared.collections.IndexRange.{IndexRange}
use Rattle.arc_core.specs.declared.collections.Side.{Side}
use Rattle.arc_core.specs.declared.collections.Side.TheVariants.{Low, High}
use Rattle.arc_core.specs.declared.collections.Take.{Take}
use Rattle.arc_core.specs.declared.lists.ListPlan.{ListPlan}
use Rattle.arc_core.specs.declared.lists.ListPlan.TheVariants.{Store, StoreAndTrim, OutOfRange, Overflowed}
use Rattle.arc_core.specs.declared.lists.Part.{Part}
use Rattle.arc_core.specs.declared.replies.Reply.TheVariants as reply
use Rattle.arc_core.specs.declared.replies.Word.TheVariants as word
use Rattle.arc_core.specs.CollectionRows.{Outcome, stays, becomes, removed, read_and_taken, plain_row}
use Rattle.arc_core.specs.InsertPlan.{insert_plan}
use Rattle.arc_core.specs.Item.{list}
use Rattle.arc_core.specs.Span.{span}

-- the values without the one at this end
abbrev pub trimmed : Side → List (List ℕ) → List (List ℕ)
trimmed Low values = drop 1 values
trimmed High values = take (length values - 1) values

-- an insert as it was planned
abbrev pub inserted : List ℕ → List (List ℕ) → ListPlan → Outcome
inserted value values (Store place) = becomes (list (insert values place value)) (reply.Word word.Stored)
inserted value values (StoreAndTrim place side) = becomes (list (trimmed side (insert values place value))) (reply.Word word.Stored)
inserted value values (OutOfRange index count) = stays (reply.Word word.OutOfRange)
inserted value values Overflowed = stays (reply.Word word.Overflowed)

-- `lop insert`
abbrev pub list_insert : ℤ → List ℕ → Attrs → List (List ℕ) → Outcome
list_insert index value attrs values = inserted value values (insert_plan index (length values) attrs.maxcount attrs.action)

-- the values of a part, in its direction
abbrev pub values_of : Part → List (List ℕ) → List (List ℕ)
values_of part values =
    let up = take (part.high + 1 - part.low) (drop part.low values) in
    if part.down then reverse up else up

-- the values that are not in a part
abbrev pub without_part : Part → List (List ℕ) → List (List ℕ)
without_part part values = remove_range values part.low (part.high + 1)

-- `lop delete`, by the part that its range names
abbrev pub part_deleted : Bool → List (List ℕ) → Option Part → Outcome
part_deleted drop_empty values None = stays (reply.Word word.NotFoundElement)
part_deleted drop_empty values (Some part) = removed drop_empty (list (without_part part values))

abbrev pub list_delete : IndexRange → (drop_empty : Bool) → Attrs → List (List ℕ) → Outcome
list_delete range drop_empty attrs values = part_deleted drop_empty values (span range (length values))

-- `lop get`, by the part that its range names
abbrev pub part_read : Take → (flags : ℕ) → List (List ℕ) → Option Part → Outcome
part_read take flags values None = stays (reply.Word word.NotFoundElement)
part_read take flags values (Some part) = read_and_taken take flags (map plain_row (values_of part values)) (list (without_part part values))

abbrev pub list_get : IndexRange → Take → Attrs → List (List ℕ) → Outcome
list_get range take attrs values = part_read take attrs.flags values (span range (length values))
