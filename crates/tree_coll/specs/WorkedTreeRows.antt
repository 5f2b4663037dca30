-- Worked examples of the rows on trees that compute.
use Rattle.std.specs.Prelude.{◌≡◌, ℕ, true, false, List, [], ◌∷◌, codes, decimal, Some, None, refl}
use Rattle.arc_core.specs.declared.attributes.Attrs.{Attrs}
use Rattle.arc_core.specs.declared.bkeys.Bkey.TheVariants.{Number, Bytes}
use Rattle.arc_core.specs.declared.bkeys.BkeyRange.{BkeyRange}
use Rattle.arc_core.specs.declared.collections.Action.{Action}
use Rattle.arc_core.specs.declared.collections.Action.TheVariants as action
use Rattle.arc_core.specs.declared.collections.Take.TheVariants as taking
use Rattle.arc_core.specs.declared.filters.BitOp.TheVariants as bit
use Rattle.arc_core.specs.declared.filters.CompOp.{CompOp}
use Rattle.arc_core.specs.declared.filters.CompOp.TheVariants as comp
use Rattle.arc_core.specs.declared.filters.EflagChange.TheVariants as change
use Rattle.arc_core.specs.declared.filters.Filter.{Filter}
use Rattle.arc_core.specs.declared.items.Expiry.TheVariants as expiry
use Rattle.arc_core.specs.declared.rows.Tail.TheVariants as tail
use Rattle.arc_core.specs.declared.trees.Edges.{Edges}
use Rattle.arc_core.specs.declared.trees.Elem.{Elem}
use Rattle.arc_core.specs.declared.trees.TreeRead.{TreeRead}
use Rattle.arc_core.specs.Words as words
use Rattle.tree_coll.specs.declared.replies.TreeReply.TheVariants as reply
use Rattle.tree_coll.specs.declared.replies.TreeWord.TheVariants as word
use Rattle.tree_coll.specs.TreeOutcomes.{TreeContents, empty_tree, stays, becomes, goes, refused, tree_row}
use Rattle.tree_coll.specs.TreeRows.{tree_get, tree_delete, tree_count, tree_insert, tree_upsert, tree_update, tree_arith, tree_position, tree_by_position, tree_around}

-- attributes with this maxcount, maxbkeyrange and action
abbrev limited : (maxcount maxbkeyrange : ℕ) → Action → Attrs
limited maxcount maxbkeyrange action = record { flags = 0; expiry = expiry.Never; maxcount = maxcount; action = action; readable = true; maxbkeyrange = maxbkeyrange }

abbrev plain : Attrs
plain = limited 4000 0 action.SmallestTrim

-- an element with a number as bkey, no flag and a text as value; and one with byte bkeys
abbrev elem : ℕ → List ℕ → Elem
elem number value = record { bkey = Number number; eflag = None; value = value }

abbrev bytes_elem : List ℕ → List ℕ → Elem
bytes_elem bytes value = record { bkey = Bytes bytes; eflag = None; value = value }

abbrev flagged : ℕ → ℕ → List ℕ → Elem
flagged number flag value = record { bkey = Number number; eflag = Some (flag ∷ []); value = value }

abbrev no_edges : Edges
no_edges = record { low = None; high = None }

abbrev low_at : ℕ → Edges
low_at n = record { low = Some (Number n); high = None }

abbrev high_at : ℕ → Edges
high_at n = record { low = None; high = Some (Number n) }

abbrev tree : Edges → List Elem → TreeContents
tree edges elements = record { elements = elements; edges = edges }

abbrev from_to : ℕ → ℕ → BkeyRange
from_to first last = record { first = Number first; last = Number last }

-- the read of a range without a filter
abbrev read_of : BkeyRange → (offset count : ℕ) → TreeRead
read_of range offset count = record { range = range; filter = None; offset = offset; count = count }

-- THREE AT MOST

abbrev one_to_three : TreeContents
one_to_three = tree no_edges (elem 1 (codes "a") ∷ elem 2 (codes "b") ∷ elem 3 (codes "c") ∷ [])

-- the elements 2, 3 and 4 of a tree that has trimmed 1
abbrev two_to_four : TreeContents
two_to_four = tree (low_at 1) (elem 2 (codes "b") ∷ elem 3 (codes "c") ∷ elem 4 (codes "d") ∷ [])

abbrev three : Attrs
three = limited 3 0 action.SmallestTrim

first_is_stored : tree_insert (elem 1 (codes "a")) false three empty_tree ≡ becomes (tree no_edges (elem 1 (codes "a") ∷ [])) (reply.Word word.Stored)
first_is_stored = refl

fourth_trims : tree_insert (elem 4 (codes "d")) false three one_to_three ≡ becomes two_to_four (reply.Word word.Stored)
fourth_trims = refl

trim_is_answered : tree_insert (elem 4 (codes "d")) true three one_to_three ≡ becomes two_to_four (reply.Rows 0 (tree_row (elem 1 (codes "a")) ∷ []) tail.Trimmed)
trim_is_answered = refl

trim_is_told : tree_get (read_of (from_to 1 4) 0 0) taking.Keep three two_to_four
    ≡ stays (reply.Rows 0 (tree_row (elem 2 (codes "b")) ∷ tree_row (elem 3 (codes "c")) ∷ tree_row (elem 4 (codes "d")) ∷ []) tail.Trimmed)
trim_is_told = refl

trimmed_is_out_of_range : tree_get (read_of (from_to 0 1) 0 0) taking.Keep three two_to_four ≡ refused word.OutOfRange
trimmed_is_out_of_range = refl

rest_is_whole : tree_get (read_of (from_to 2 4) 0 0) taking.Keep three two_to_four
    ≡ stays (reply.Rows 0 (tree_row (elem 2 (codes "b")) ∷ tree_row (elem 3 (codes "c")) ∷ tree_row (elem 4 (codes "d")) ∷ []) tail.End)
rest_is_whole = refl

-- 4 is deleted and 1 put in again: the edge stays, and a read that stops short of it is whole
abbrev with_new_one : TreeContents
with_new_one = tree (low_at 1) (elem 1 (codes "e") ∷ elem 2 (codes "b") ∷ elem 3 (codes "c") ∷ [])

fourth_is_deleted : tree_delete (read_of (from_to 4 4) 0 0) false three two_to_four
    ≡ becomes (tree (low_at 1) (elem 2 (codes "b") ∷ elem 3 (codes "c") ∷ [])) (reply.Word word.Deleted)
fourth_is_deleted = refl

one_comes_again : tree_insert (elem 1 (codes "e")) false three (tree (low_at 1) (elem 2 (codes "b") ∷ elem 3 (codes "c") ∷ [])) ≡ becomes with_new_one (reply.Word word.Stored)
one_comes_again = refl

edge_is_met : tree_get (read_of (from_to 1 3) 0 0) taking.Keep three with_new_one
    ≡ stays (reply.Rows 0 (tree_row (elem 1 (codes "e")) ∷ tree_row (elem 2 (codes "b")) ∷ tree_row (elem 3 (codes "c")) ∷ []) tail.Trimmed)
edge_is_met = refl

stops_short : tree_get (read_of (from_to 3 1) 0 2) taking.Keep three with_new_one ≡ stays (reply.Rows 0 (tree_row (elem 3 (codes "c")) ∷ tree_row (elem 2 (codes "b")) ∷ []) tail.End)
stops_short = refl

-- BYTE BKEYS

abbrev byte_tree : TreeContents
byte_tree = tree no_edges (bytes_elem (0 ∷ []) (codes "b") ∷ bytes_elem (0 ∷ 0 ∷ []) (codes "c") ∷ bytes_elem (1 ∷ []) (codes "a") ∷ [])

prefix_is_smaller : tree_insert (bytes_elem (0 ∷ 0 ∷ []) (codes "c")) false plain (tree no_edges (bytes_elem (0 ∷ []) (codes "b") ∷ bytes_elem (1 ∷ []) (codes "a") ∷ []))
    ≡ becomes byte_tree (reply.Word word.Stored)
prefix_is_smaller = refl

bytes_are_read : tree_get (record { range = record { first = Bytes (0 ∷ []); last = Bytes (255 ∷ []) }; filter = None; offset = 0; count = 0 }) taking.Keep plain byte_tree
    ≡ stays (reply.Rows 0 (tree_row (bytes_elem (0 ∷ []) (codes "b")) ∷ tree_row (bytes_elem (0 ∷ 0 ∷ []) (codes "c")) ∷ tree_row (bytes_elem (1 ∷ []) (codes "a")) ∷ []) tail.End)
bytes_are_read = refl

number_is_another_kind : tree_insert (elem 5 (codes "d")) false plain byte_tree ≡ refused word.BkeyMismatch
number_is_another_kind = refl

-- an empty tree with an edge has the edge's kind, and one without has none
edge_tells_the_kind : tree_get (read_of (from_to 1 2) 0 0) taking.Keep plain (tree (record { low = Some (Bytes (1 ∷ [])); high = None }) []) ≡ refused word.BkeyMismatch
edge_tells_the_kind = refl

bytes_have_no_range : tree_insert (bytes_elem (1 ∷ []) (codes "a")) false (limited 4000 10 action.SmallestTrim) empty_tree ≡ refused word.BkeyMismatch
bytes_have_no_range = refl

-- FILTERS

abbrev four_flags : TreeContents
four_flags = tree no_edges (flagged 1 17 (codes "a") ∷ flagged 2 34 (codes "b") ∷ flagged 3 51 (codes "c") ∷ elem 4 (codes "d") ∷ [])

-- `0 & 0x0f EQ 0x01,0x02`, or NE
abbrev low_bits : CompOp → Filter
low_bits op = record { fwhere = 0; bits = Some (bit.And, 15 ∷ []); comp = op; values = (1 ∷ []) ∷ (2 ∷ []) ∷ [] }

abbrev filtered : CompOp → TreeRead
filtered op = record { range = from_to 1 4; filter = Some (low_bits op); offset = 0; count = 0 }

equal_flags_are_read : tree_get (filtered comp.Eq) taking.Keep plain four_flags ≡ stays (reply.Rows 0 (tree_row (flagged 1 17 (codes "a")) ∷ tree_row (flagged 2 34 (codes "b")) ∷ []) tail.End)
equal_flags_are_read = refl

other_flags_are_read : tree_get (filtered comp.Ne) taking.Keep plain four_flags ≡ stays (reply.Rows 0 (tree_row (flagged 3 51 (codes "c")) ∷ tree_row (elem 4 (codes "d")) ∷ []) tail.End)
other_flags_are_read = refl

equal_flags_are_counted : tree_count (from_to 1 4) (Some (low_bits comp.Eq)) plain four_flags ≡ stays (reply.Count 2)
equal_flags_are_counted = refl

equal_flags_are_deleted : tree_delete (filtered comp.Eq) true plain four_flags ≡ becomes (tree no_edges (flagged 3 51 (codes "c") ∷ elem 4 (codes "d") ∷ [])) (reply.Word word.Deleted)
equal_flags_are_deleted = refl

last_other_flag_is_taken : tree_get (record { range = from_to 4 1; filter = Some (low_bits comp.Ne); offset = 0; count = 1 }) taking.Delete plain four_flags
    ≡ becomes (tree no_edges (flagged 1 17 (codes "a") ∷ flagged 2 34 (codes "b") ∷ flagged 3 51 (codes "c") ∷ [])) (reply.Rows 0 (tree_row (elem 4 (codes "d")) ∷ []) tail.Deleted)
last_other_flag_is_taken = refl

-- OFFSET AND COUNT, AND TAKING

abbrev digits : TreeContents
digits = tree no_edges (elem 7 (codes "v") ∷ elem 8 (codes "v") ∷ elem 9 (codes "v") ∷ [])

two_behind_one : tree_get (read_of (from_to 9 0) 1 2) taking.Keep plain digits ≡ stays (reply.Rows 0 (tree_row (elem 8 (codes "v")) ∷ tree_row (elem 7 (codes "v")) ∷ []) tail.End)
two_behind_one = refl

two_are_taken : tree_get (read_of (from_to 9 0) 1 2) taking.Drop plain digits
    ≡ becomes (tree no_edges (elem 9 (codes "v") ∷ [])) (reply.Rows 0 (tree_row (elem 8 (codes "v")) ∷ tree_row (elem 7 (codes "v")) ∷ []) tail.Deleted)
two_are_taken = refl

last_is_dropped : tree_get (read_of (from_to 0 9) 0 1) taking.Drop plain (tree no_edges (elem 9 (codes "v") ∷ [])) ≡ goes (reply.Rows 0 (tree_row (elem 9 (codes "v")) ∷ []) tail.DeletedDropped)
last_is_dropped = refl

last_leaves_edge : tree_delete (read_of (from_to 0 9) 0 0) false plain (tree (low_at 3) (elem 9 (codes "v") ∷ [])) ≡ becomes (tree (low_at 3) []) (reply.Word word.Deleted)
last_leaves_edge = refl

nothing_is_taken : tree_get (read_of (from_to 0 6) 0 0) taking.Drop plain digits ≡ refused word.NotFoundElement
nothing_is_taken = refl

offset_passes_all : tree_get (read_of (from_to 0 9) 3 0) taking.Keep plain (tree (low_at 6) (elem 7 (codes "v") ∷ [])) ≡ refused word.OutOfRange
offset_passes_all = refl

-- SILENT TRIMS, AND TRIMS OF THE GREATEST

silent_keeps_no_edge : tree_insert (elem 2 (codes "b")) false (limited 1 0 action.SmallestSilentTrim) (tree no_edges (elem 1 (codes "a") ∷ []))
    ≡ becomes (tree no_edges (elem 2 (codes "b") ∷ [])) (reply.Word word.Stored)
silent_keeps_no_edge = refl

silent_is_not_told : tree_get (read_of (from_to 0 5) 0 0) taking.Keep (limited 1 0 action.SmallestSilentTrim) (tree no_edges (elem 2 (codes "b") ∷ []))
    ≡ stays (reply.Rows 0 (tree_row (elem 2 (codes "b")) ∷ []) tail.End)
silent_is_not_told = refl

greatest_is_trimmed : tree_insert (elem 3 (codes "b")) false (limited 1 0 action.LargestTrim) (tree no_edges (elem 5 (codes "a") ∷ []))
    ≡ becomes (tree (high_at 5) (elem 3 (codes "b") ∷ [])) (reply.Word word.Stored)
greatest_is_trimmed = refl

-- a refusal moves the edge, and nothing else
refusal_lowers_edge : tree_insert (elem 4 (codes "c")) false (limited 1 0 action.LargestTrim) (tree (high_at 5) (elem 3 (codes "b") ∷ []))
    ≡ becomes (tree (high_at 4) (elem 3 (codes "b") ∷ [])) (reply.Word word.OutOfRange)
refusal_lowers_edge = refl

up_to_nine_is_trimmed : tree_get (read_of (from_to 3 9) 0 0) taking.Keep plain (tree (high_at 4) (elem 3 (codes "b") ∷ [])) ≡ stays (reply.Rows 0 (tree_row (elem 3 (codes "b")) ∷ []) tail.Trimmed)
up_to_nine_is_trimmed = refl

down_to_two_is_whole : tree_get (read_of (from_to 3 2) 0 0) taking.Keep plain (tree (high_at 4) (elem 3 (codes "b") ∷ [])) ≡ stays (reply.Rows 0 (tree_row (elem 3 (codes "b")) ∷ []) tail.End)
down_to_two_is_whole = refl

full_tree_overflows : tree_insert (elem 2 (codes "b")) false (limited 1 0 action.Error) (tree no_edges (elem 1 (codes "a") ∷ [])) ≡ refused word.Overflowed
full_tree_overflows = refl

-- A RANGE OF BKEYS

abbrev to_ten : TreeContents
to_ten = tree no_edges (elem 0 (codes "a") ∷ elem 5 (codes "b") ∷ elem 10 (codes "c") ∷ [])

abbrev ten_wide : Attrs
ten_wide = limited 4000 10 action.SmallestTrim

sixteen_trims_two : tree_insert (elem 16 (codes "d")) true ten_wide to_ten
    ≡ becomes (tree (low_at 5) (elem 10 (codes "c") ∷ elem 16 (codes "d") ∷ [])) (reply.Rows 0 (tree_row (elem 0 (codes "a")) ∷ tree_row (elem 5 (codes "b")) ∷ []) tail.Trimmed)
sixteen_trims_two = refl

three_is_refused : tree_insert (elem 3 (codes "e")) false ten_wide (tree (low_at 5) (elem 10 (codes "c") ∷ elem 16 (codes "d") ∷ []))
    ≡ becomes (tree (low_at 5) (elem 10 (codes "c") ∷ elem 16 (codes "d") ∷ [])) (reply.Word word.OutOfRange)
three_is_refused = refl

-- the greatest go, all beyond the range, and the edge is the least of them
zero_trims_two : tree_insert (elem 0 (codes "z")) true (limited 4000 4 action.LargestTrim) (tree no_edges (elem 5 (codes "b") ∷ elem 10 (codes "c") ∷ []))
    ≡ becomes (tree (high_at 5) (elem 0 (codes "z") ∷ [])) (reply.Rows 0 (tree_row (elem 5 (codes "b")) ∷ tree_row (elem 10 (codes "c")) ∷ []) tail.Trimmed)
zero_trims_two = refl

-- UPSERTS

upsert_trims_nothing : tree_upsert (flagged 2 7 (codes "x")) true three one_to_three
    ≡ becomes (tree no_edges (elem 1 (codes "a") ∷ flagged 2 7 (codes "x") ∷ elem 3 (codes "c") ∷ [])) (reply.Word word.Replaced)
upsert_trims_nothing = refl

insert_is_refused : tree_insert (elem 2 (codes "x")) false three one_to_three ≡ refused word.ElementExists
insert_is_refused = refl

upsert_of_new_trims : tree_upsert (elem 4 (codes "d")) false three one_to_three ≡ becomes two_to_four (reply.Word word.Stored)
upsert_of_new_trims = refl

-- UPDATES

abbrev one_flag : ℕ → TreeContents
one_flag flag = tree no_edges (flagged 1 flag (codes "a") ∷ [])

bits_are_set : tree_update (Number 1) (change.Combine 0 bit.Or (240 ∷ [])) None plain (one_flag 15) ≡ becomes (one_flag 255) (reply.Word word.Updated)
bits_are_set = refl

flag_is_removed : tree_update (Number 1) change.Remove None plain (one_flag 255) ≡ becomes (tree no_edges (elem 1 (codes "a") ∷ [])) (reply.Word word.Updated)
flag_is_removed = refl

no_flag_to_combine : tree_update (Number 1) (change.Combine 0 bit.And (1 ∷ [])) None plain (tree no_edges (elem 1 (codes "a") ∷ [])) ≡ refused word.EflagMismatch
no_flag_to_combine = refl

nothing_to_update : tree_update (Number 1) change.Keep None plain (tree no_edges (elem 1 (codes "a") ∷ [])) ≡ refused word.NothingToUpdate
nothing_to_update = refl

value_keeps_flag : tree_update (Number 1) change.Keep (Some (codes "b")) plain (one_flag 15) ≡ becomes (tree no_edges (flagged 1 15 (codes "b") ∷ [])) (reply.Word word.Updated)
value_keeps_flag = refl

nothing_at_two : tree_update (Number 2) change.Keep None plain (one_flag 15) ≡ refused word.NotFoundElement
nothing_at_two = refl

-- COUNTING

counts_round : tree_arith true (Number 1) 18446744073709551615 None None plain (tree no_edges (elem 1 (codes "5") ∷ [])) ≡ becomes (tree no_edges (elem 1 (decimal 4) ∷ [])) (reply.Number 4)
unfolding words.number_below
counts_round = refl

initial_is_put : tree_arith false (Number 2) 1 (Some 7) None plain (tree no_edges (elem 1 (codes "4") ∷ []))
    ≡ becomes (tree no_edges (elem 1 (codes "4") ∷ elem 2 (decimal 7) ∷ [])) (reply.Number 7)
initial_is_put = refl

both_are_read : tree_get (read_of (from_to 2 1) 0 0) taking.Keep plain (tree no_edges (elem 1 (codes "4") ∷ elem 2 (codes "7") ∷ []))
    ≡ stays (reply.Rows 0 (tree_row (elem 2 (codes "7")) ∷ tree_row (elem 1 (codes "4")) ∷ []) tail.End)
both_are_read = refl

without_initial_nothing : tree_arith true (Number 9) 1 None None plain one_to_three ≡ refused word.NotFoundElement
without_initial_nothing = refl

text_is_no_number : tree_arith true (Number 2) 1 (Some 7) None plain one_to_three ≡ refused word.NotNumeric
unfolding words.number_below
text_is_no_number = refl

-- a first number is an insert: it is refused at an end, and by its kind where a range is a bound
first_number_is_refused : tree_arith true (Number 4) 1 (Some 7) None (limited 1 0 action.LargestTrim) (tree (high_at 5) (elem 3 (codes "b") ∷ []))
    ≡ becomes (tree (high_at 4) (elem 3 (codes "b") ∷ [])) (reply.Word word.OutOfRange)
first_number_is_refused = refl

first_number_has_no_bytes : tree_arith true (Bytes (1 ∷ [])) 1 (Some 7) None (limited 4000 10 action.SmallestTrim) empty_tree ≡ refused word.BkeyMismatch
first_number_has_no_bytes = refl

bytes_are_looked_for : tree_arith true (Bytes (1 ∷ [])) 1 None None (limited 4000 10 action.SmallestTrim) empty_tree ≡ refused word.NotFoundElement
bytes_are_looked_for = refl

-- POSITIONS

abbrev one_to_five : TreeContents
one_to_five = tree no_edges (elem 1 (codes "a") ∷ elem 2 (codes "b") ∷ elem 3 (codes "c") ∷ elem 4 (codes "d") ∷ elem 5 (codes "e") ∷ [])

four_among_its_own : tree_around (Number 4) false 1 plain one_to_five ≡ stays (reply.Around 3 0 1 (tree_row (elem 3 (codes "c")) ∷ tree_row (elem 4 (codes "d")) ∷ tree_row (elem 5 (codes "e")) ∷ []))
four_among_its_own = refl

four_downwards : tree_around (Number 4) true 2 plain one_to_five
    ≡ stays (reply.Around 1 0 1 (tree_row (elem 5 (codes "e")) ∷ tree_row (elem 4 (codes "d")) ∷ tree_row (elem 3 (codes "c")) ∷ tree_row (elem 2 (codes "b")) ∷ []))
four_downwards = refl

last_two : tree_by_position true 0 1 plain one_to_five ≡ stays (reply.Rows 0 (tree_row (elem 5 (codes "e")) ∷ tree_row (elem 4 (codes "d")) ∷ []) tail.End)
last_two = refl

down_from_beyond : tree_by_position false 9 3 plain one_to_five ≡ stays (reply.Rows 0 (tree_row (elem 5 (codes "e")) ∷ tree_row (elem 4 (codes "d")) ∷ []) tail.End)
down_from_beyond = refl

no_tenth : tree_by_position false 9 9 plain one_to_five ≡ refused word.NotFoundElement
no_tenth = refl

greatest_is_first_downwards : tree_position (Number 5) true plain one_to_five ≡ stays (reply.Position 0)
greatest_is_first_downwards = refl

greatest_is_fifth : tree_position (Number 5) false plain one_to_five ≡ stays (reply.Position 4)
greatest_is_fifth = refl
