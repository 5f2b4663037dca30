-- The order of bkeys, and the span of a range over a sorted list. (The ARCUS protocol: a bkey is an unsigned number of 64
-- bits or a byte string; how the two compare is this server's own.)
use Rattle.std.specs.Prelude.{Bool, true, false, not, ◌&&◌, List, filter, reverse, if◌then◌else◌}
use Rattle.std.specs.Ordering.{nat_cmp, is_gt}
use Rattle.std.specs.Cmp.Lexicographic.{slice_cmp}
use Rattle.std.specs.declared.cmp.Ordering.{Ordering}
use Rattle.std.specs.declared.cmp.Ordering.TheVariants.{Less, Greater}
use Rattle.arc_core.specs.declared.bkeys.Bkey.{Bkey}
use Rattle.arc_core.specs.declared.bkeys.Bkey.TheVariants.{Number, Bytes}
use Rattle.arc_core.specs.declared.bkeys.BkeyRange.{BkeyRange}

-- numbers by value, below every byte bkey; byte bkeys by the first byte in which they differ, a proper prefix below
abbrev pub bkey_cmp : Bkey → Bkey → Ordering
bkey_cmp (Number a) (Number b) = nat_cmp a b
bkey_cmp (Number a) (Bytes b) = Less
bkey_cmp (Bytes a) (Number b) = Greater
bkey_cmp (Bytes a) (Bytes b) = slice_cmp nat_cmp a b

-- whether two bkeys are of one kind
abbrev pub are_of_one_kind : Bkey → Bkey → Bool
are_of_one_kind (Number a) (Number b) = true
are_of_one_kind (Number a) (Bytes b) = false
are_of_one_kind (Bytes a) (Number b) = false
are_of_one_kind (Bytes a) (Bytes b) = true

-- a range goes down where its first end is the greater
abbrev pub is_down : BkeyRange → Bool
is_down range = is_gt (bkey_cmp range.first range.last)

-- the lesser end of a range
abbrev pub lesser_end : BkeyRange → Bkey
lesser_end range = if is_down range then range.last else range.first

-- the greater end of a range
abbrev pub greater_end : BkeyRange → Bkey
greater_end range = if is_down range then range.first else range.last

-- from the lesser to the greater end, both of them in the range
abbrev pub is_in_range : BkeyRange → Bkey → Bool
is_in_range range bkey = not (is_gt (bkey_cmp (lesser_end range) bkey)) && not (is_gt (bkey_cmp bkey (greater_end range)))

-- the elements in the range, in the list's order or, where the range goes down, the other way round
abbrev pub span : {E : Type 0} → (E → Bkey) → BkeyRange → List E → List E
span key range list =
    if is_down range then reverse (filter (λ element. is_in_range range (key element)) list)
    else filter (λ element. is_in_range range (key element)) list
