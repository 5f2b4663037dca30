-- What a read of a tree selects, and whether what was trimmed from the tree lies within it. (Ranges, filters, offset and
-- count are the ARCUS protocol's; the trimmed zone is this server's own.)
use Rattle.std.specs.Prelude.{ℕ, zero, suc, ◌+◌, ◌-◌, Bool, true, false, not, ◌||◌, List, length, take, drop, filter, slice_get, Option, None, is_some}
use Rattle.std.specs.Option.{option_map_or}
use Rattle.std.specs.Ordering.{is_lt, is_gt}
use Rattle.arc_core.specs.declared.bkeys.Bkey.{Bkey}
use Rattle.arc_core.specs.declared.bkeys.BkeyRange.{BkeyRange}
use Rattle.arc_core.specs.declared.filters.Filter.{Filter}
use Rattle.arc_core.specs.declared.trees.Elem.{Elem}
use Rattle.arc_core.specs.declared.trees.Edges.{Edges}
use Rattle.arc_core.specs.declared.trees.TreeRead.{TreeRead}
use Rattle.arc_core.specs.BkeyOrder.{bkey_cmp, span, lesser_end, greater_end}
use Rattle.arc_core.specs.Filter.{passes}

-- SELECTED ELEMENTS

-- whether an element passes the filter, where there is one
abbrev pub is_selected : Option Filter → Elem → Bool
is_selected filter element = option_map_or (λ asked. passes asked element.eflag) filter true

-- the elements of the range that pass the filter, in the range's direction
abbrev pub selected : BkeyRange → Option Filter → List Elem → List Elem
selected range asked elements = filter (is_selected asked) (span (λ element. element.bkey) range elements)

-- so many of a list, where 0 is all
abbrev pub take_count : {E : Type 0} → ℕ → List E → List E
take_count zero list = list
take_count (suc n) list = take (suc n) list

-- the elements that a read answers: the selected ones without the first `offset`, and `count` of them
abbrev pub chosen : TreeRead → List Elem → List Elem
chosen read elements = take_count read.count (drop read.offset (selected read.range read.filter elements))

-- COVERED RANGE

-- the selected element with which a read has its count: the one behind offset + count - 1 others, if there are so many
abbrev pub completing : (offset count : ℕ) → List Elem → Option Elem
completing offset zero selected = None
completing offset (suc n) selected = slice_get selected (offset + n)

-- the range that a read covers: up to the element with which it has its count, or else the whole range
abbrev pub covered_range : TreeRead → List Elem → BkeyRange
covered_range read elements =
    option_map_or (λ element. record { first = read.range.first; last = element.bkey })
    (completing read.offset read.count (selected read.range read.filter elements))
    read.range

-- TRIMMED ZONE

-- whether a bkey is below all elements, which a list tells by its first one
abbrev pub is_below_all : Bkey → List Elem → Bool
is_below_all bkey elements = option_map_or (λ least. is_lt (bkey_cmp bkey least.bkey)) (slice_get elements 0) true

-- whether a bkey is above all elements, which a list tells by its last one
abbrev pub is_above_all : Bkey → List Elem → Bool
is_above_all bkey elements = option_map_or (λ greatest. is_gt (bkey_cmp bkey greatest.bkey)) (slice_get elements (length elements - 1)) true

-- whether a bkey is in the low part of the zone: at or below the low edge, where one is kept, or below all elements
abbrev pub is_in_low_zone : Edges → List Elem → Bkey → Bool
is_in_low_zone edges elements bkey = option_map_or (λ edge. not (is_gt (bkey_cmp bkey edge)) || is_below_all bkey elements) edges.low false

-- whether a bkey is in the high part of the zone: at or above the high edge, where one is kept, or above all elements
abbrev pub is_in_high_zone : Edges → List Elem → Bkey → Bool
is_in_high_zone edges elements bkey = option_map_or (λ edge. not (is_lt (bkey_cmp bkey edge)) || is_above_all bkey elements) edges.high false

-- whether a range meets the zone: by its lesser end the low part, or by its greater end the high one. An empty tree with
-- an edge is met by every range.
abbrev pub meets_zone : Edges → List Elem → BkeyRange → Bool
meets_zone edges elements range = is_in_low_zone edges elements (lesser_end range) || is_in_high_zone edges elements (greater_end range)

-- whether a tree keeps an edge of what was trimmed (the attribute `trimmed`)
abbrev pub keeps_edge : Edges → Bool
keeps_edge edges = is_some edges.low || is_some edges.high
