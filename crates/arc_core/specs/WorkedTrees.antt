-- Worked examples of inserts into trees, and of reads beside what was trimmed, that compute.
use Rattle.std.specs.Prelude.{◌≡◌, ℕ, true, false, List, [], ◌∷◌, codes, Some, None, refl}
use Rattle.arc_core.specs.declared.bkeys.Bkey.TheVariants.{Number, Bytes}
use Rattle.arc_core.specs.declared.bkeys.BkeyRange.{BkeyRange}
use Rattle.arc_core.specs.declared.filters.CompOp.TheVariants as comp
use Rattle.arc_core.specs.declared.collections.Action.TheVariants as action
use Rattle.arc_core.specs.declared.collections.Side.TheVariants.{Low, High}
use Rattle.arc_core.specs.declared.trees.Elem.{Elem}
use Rattle.arc_core.specs.declared.trees.Edges.{Edges}
use Rattle.arc_core.specs.declared.trees.TreeRead.{TreeRead}
use Rattle.arc_core.specs.TreeContents.{place_of, elem_sizes}
use Rattle.arc_core.specs.TreeReading.{selected, chosen, covered_range, meets_zone, keeps_edge}
use Rattle.arc_core.specs.Settling.{stored, out_of_range, overflowed, settled, settled_edges}

-- an element with a number as bkey, no flag and a text as value
abbrev elem : ℕ → List ℕ → Elem
elem number value = record { bkey = Number number; eflag = None; value = value }

abbrev no_edges : Edges
no_edges = record { low = None; high = None }

abbrev from_to : ℕ → ℕ → BkeyRange
from_to first last = record { first = Number first; last = Number last }

-- the read of a range without a filter
abbrev read_of : BkeyRange → ℕ → ℕ → TreeRead
read_of range offset count = record { range = range; filter = None; offset = offset; count = count }

-- the elements 2, 3 and 4, as a tree of three at most keeps them of 1 to 4
abbrev two_to_four : List Elem
two_to_four = elem 2 (codes "b") ∷ elem 3 (codes "c") ∷ elem 4 (codes "d") ∷ []

abbrev one_to_three : List Elem
one_to_three = elem 1 (codes "a") ∷ elem 2 (codes "b") ∷ elem 3 (codes "c") ∷ []

-- the fourth of three at most, under each action
fourth_trims_first : settled 3 0 action.SmallestTrim (elem 4 (codes "d")) one_to_three ≡ stored two_to_four (elem 1 (codes "a") ∷ [])
fourth_trims_first = refl

fourth_is_out_of_range : settled 3 0 action.LargestSilentTrim (elem 4 (codes "d")) one_to_three ≡ out_of_range High
fourth_is_out_of_range = refl

fourth_overflows : settled 3 0 action.Error (elem 4 (codes "d")) one_to_three ≡ overflowed
fourth_overflows = refl

fourth_has_room : settled 4 0 action.Error (elem 4 (codes "d")) one_to_three ≡ stored (elem 1 (codes "a") ∷ two_to_four) []
fourth_has_room = refl

-- the trim moves the low edge to 1, so that the range 1..4 meets the zone and 2..4 does not
low_edge : Edges
low_edge = record { low = Some (Number 1); high = None }

trim_is_announced : settled_edges action.SmallestTrim (Number 4) (settled 3 0 action.SmallestTrim (elem 4 (codes "d")) one_to_three) no_edges ≡ low_edge
unfolding low_edge
trim_is_announced = refl

silent_trim_is_not : settled_edges action.SmallestSilentTrim (Number 4) (settled 3 0 action.SmallestSilentTrim (elem 4 (codes "d")) one_to_three) no_edges ≡ no_edges
silent_trim_is_not = refl

one_to_four_is_trimmed : meets_zone low_edge two_to_four (from_to 1 4) ≡ true
unfolding low_edge
one_to_four_is_trimmed = refl

nothing_to_one_is_trimmed : meets_zone low_edge two_to_four (from_to 0 1) ≡ true
unfolding low_edge
nothing_to_one_is_trimmed = refl

two_to_four_is_whole : meets_zone low_edge two_to_four (from_to 2 4) ≡ false
unfolding low_edge
two_to_four_is_whole = refl

-- below the smallest element lies the zone too, where an edge is kept, and in an empty tree everywhere
below_smallest_is_trimmed : meets_zone low_edge (elem 5 [] ∷ []) (from_to 9 4) ≡ true
unfolding low_edge
below_smallest_is_trimmed = refl

without_edge_nothing_is_trimmed : meets_zone no_edges (elem 5 [] ∷ []) (from_to 9 4) ≡ false
without_edge_nothing_is_trimmed = refl

empty_tree_is_trimmed : meets_zone low_edge [] (from_to 7 9) ≡ true
unfolding low_edge
empty_tree_is_trimmed = refl

edge_is_told : keeps_edge low_edge ≡ true
unfolding low_edge
edge_is_told = refl

-- 4 deleted and 1 stored again: 1..3 meets the edge, and two of 3..1 are covered by 3..2, which does not
first_two_downwards : chosen (read_of (from_to 3 1) 0 2) one_to_three ≡ elem 3 (codes "c") ∷ elem 2 (codes "b") ∷ []
first_two_downwards = refl

first_two_are_covered : covered_range (read_of (from_to 3 1) 0 2) one_to_three ≡ from_to 3 2
first_two_are_covered = refl

first_two_are_whole : meets_zone low_edge one_to_three (covered_range (read_of (from_to 3 1) 0 2) one_to_three) ≡ false
unfolding low_edge
first_two_are_whole = refl

-- a read whose count is not reached, and one without a count, cover the whole range
count_is_not_reached : covered_range (read_of (from_to 0 9) 1 3) one_to_three ≡ from_to 0 9
count_is_not_reached = refl

all_are_covered : covered_range (read_of (from_to 0 9) 0 0) one_to_three ≡ from_to 0 9
all_are_covered = refl

offset_is_left_out : chosen (read_of (from_to 0 9) 1 0) one_to_three ≡ elem 2 (codes "b") ∷ elem 3 (codes "c") ∷ []
offset_is_left_out = refl

-- a filter selects by flags
flagged_is_selected : selected (from_to 0 9) (Some (record { fwhere = 0; bits = None; comp = comp.Eq; values = (17 ∷ []) ∷ [] })) (record { bkey = Number 1; eflag = Some (17 ∷ []); value = [] } ∷ elem 2 [] ∷ []) ≡ record { bkey = Number 1; eflag = Some (17 ∷ []); value = [] } ∷ []
flagged_is_selected = refl

-- bkeys 0, 5 and 10 with maxbkeyrange 10: 16 trims what is below 6, and is refused where nothing may be trimmed at that side
abbrev to_ten : List Elem
to_ten = elem 0 (codes "a") ∷ elem 5 (codes "b") ∷ elem 10 (codes "c") ∷ []

sixteen_trims_two : settled 4000 10 action.SmallestTrim (elem 16 (codes "d")) to_ten ≡ stored (elem 10 (codes "c") ∷ elem 16 (codes "d") ∷ []) (elem 0 (codes "a") ∷ elem 5 (codes "b") ∷ [])
sixteen_trims_two = refl

sixteen_moves_edge : settled_edges action.SmallestTrim (Number 16) (settled 4000 10 action.SmallestTrim (elem 16 (codes "d")) to_ten) no_edges ≡ record { low = Some (Number 5); high = None }
sixteen_moves_edge = refl

sixteen_is_refused : settled 4000 10 action.LargestTrim (elem 16 (codes "d")) to_ten ≡ out_of_range High
sixteen_is_refused = refl

ten_is_not_too_far : settled 4000 10 action.Error (elem 10 (codes "c")) (elem 0 (codes "a") ∷ []) ≡ stored (elem 0 (codes "a") ∷ elem 10 (codes "c") ∷ []) []
ten_is_not_too_far = refl

-- then 3 lies too far below 16: it is refused and passes the edge at 5 by no means
three_is_refused : settled 4000 10 action.SmallestTrim (elem 3 (codes "e")) (elem 10 (codes "c") ∷ elem 16 (codes "d") ∷ []) ≡ out_of_range Low
three_is_refused = refl

three_leaves_edge : settled_edges action.SmallestTrim (Number 3) (out_of_range Low) (record { low = Some (Number 5); high = None }) ≡ record { low = Some (Number 5); high = None }
three_leaves_edge = refl

seven_moves_edge : settled_edges action.SmallestTrim (Number 7) (out_of_range Low) (record { low = Some (Number 5); high = None }) ≡ record { low = Some (Number 7); high = None }
seven_moves_edge = refl

-- one element at most: the lesser stays under `largest_trim`, and what is refused lowers the high edge
three_trims_five : settled 1 0 action.LargestTrim (elem 3 (codes "b")) (elem 5 (codes "a") ∷ []) ≡ stored (elem 3 (codes "b") ∷ []) (elem 5 (codes "a") ∷ [])
three_trims_five = refl

four_is_refused : settled_edges action.LargestTrim (Number 4) (settled 1 0 action.LargestTrim (elem 4 (codes "c")) (elem 3 (codes "b") ∷ [])) (record { low = None; high = Some (Number 5) }) ≡ record { low = None; high = Some (Number 4) }
four_is_refused = refl

up_to_nine_is_trimmed : meets_zone (record { low = None; high = Some (Number 4) }) (elem 3 (codes "b") ∷ []) (from_to 3 9) ≡ true
up_to_nine_is_trimmed = refl

down_to_two_is_whole : meets_zone (record { low = None; high = Some (Number 4) }) (elem 3 (codes "b") ∷ []) (from_to 3 2) ≡ false
down_to_two_is_whole = refl

-- byte bkeys: a proper prefix stands before
place_of_prefix : place_of (Bytes (0 ∷ 0 ∷ [])) (record { bkey = Bytes (0 ∷ []); eflag = None; value = [] } ∷ record { bkey = Bytes (1 ∷ []); eflag = None; value = [] } ∷ []) ≡ 1
place_of_prefix = refl

-- stated sizes: a number counts 8 bytes, byte bkeys and flags their own
sizes_of_two : elem_sizes (elem 1 (codes "abc") ∷ record { bkey = Bytes (0 ∷ 0 ∷ []); eflag = Some (17 ∷ []); value = codes "x" } ∷ []) ≡ 111
sizes_of_two = refl
