-- Worked examples of the rows on lists, sets and maps that compute.
use Rattle.std.specs.Prelude.{◌≡◌, [], ◌∷◌, codes, refl, true, false, None, Some, List, ℕ, ℤ, pos, negsuc}
use Rattle.arc_core.specs.declared.attributes.Attrs.{Attrs}
use Rattle.arc_core.specs.declared.attributes.CreateArgs.{CreateArgs}
use Rattle.arc_core.specs.declared.collections.Action.{Action}
use Rattle.arc_core.specs.declared.collections.Action.TheVariants as action
use Rattle.arc_core.specs.declared.collections.IndexRange.{IndexRange}
use Rattle.arc_core.specs.declared.collections.Take.TheVariants as take
use Rattle.arc_core.specs.declared.items.Expiry.TheVariants as expiry
use Rattle.arc_core.specs.declared.replies.Reply.TheVariants as reply
use Rattle.arc_core.specs.declared.replies.Word.TheVariants as word
use Rattle.arc_core.specs.declared.rows.Tail.TheVariants as tail
use Rattle.arc_core.specs.CollectionRows.{stays, becomes, goes, attrs_of, maxcount_of, plain_row, field_row}
use Rattle.arc_core.specs.CollectionStep.{Asked, on_list, plan_of_asked, plan_of_create}
use Rattle.arc_core.specs.Item.{key_value, collection, list, set, map, size_of}
use Rattle.arc_core.specs.ListRows.{list_insert, list_get, list_delete}
use Rattle.arc_core.specs.MapRows.{map_update, map_upsert, map_get, map_delete}
use Rattle.arc_core.specs.Plan.{answer_only, put}
use Rattle.arc_core.specs.SetRows.{set_insert, set_exist, set_get, set_delete}

-- attributes with this maxcount and action, and client flags 7
abbrev holding_at_most : ℕ → Action → Attrs
holding_at_most maxcount action = record { flags = 7; expiry = expiry.Never; maxcount = maxcount; action = action; readable = true; maxbkeyrange = 0 }

-- from this index to that
abbrev from_to : (first last : ℤ) → IndexRange
from_to first last = record { first = first; last = last; single = false }

-- `a` to `e`
abbrev five : List (List ℕ)
five = codes "a" ∷ codes "b" ∷ codes "c" ∷ codes "d" ∷ codes "e" ∷ []

-- the last three of five, from the tail on; and those from the fourth on, as far as there are any
reads_down : list_get (from_to (negsuc 0) (negsuc 2)) take.Keep (holding_at_most 5 action.TailTrim) five
    ≡ stays (reply.Rows 7 (plain_row (codes "e") ∷ plain_row (codes "d") ∷ plain_row (codes "c") ∷ []) tail.End)
reads_down = refl

reads_to_the_tail : list_get (from_to (pos 3) (pos 9)) take.Delete (holding_at_most 5 action.TailTrim) five
    ≡ becomes (list (codes "a" ∷ codes "b" ∷ codes "c" ∷ [])) (reply.Rows 7 (plain_row (codes "d") ∷ plain_row (codes "e") ∷ []) tail.Deleted)
reads_to_the_tail = refl

-- five elements are as many as there may be: no place is sixth, index 0 trims the tail, and place 5 would be the trimmed one
refuses_a_sixth_place : list_insert (pos 6) (codes "f") (holding_at_most 5 action.TailTrim) five ≡ stays (reply.Word word.OutOfRange)
refuses_a_sixth_place = refl

trims_the_tail : list_insert (pos 0) (codes "f") (holding_at_most 5 action.TailTrim) five
    ≡ becomes (list (codes "f" ∷ codes "a" ∷ codes "b" ∷ codes "c" ∷ codes "d" ∷ [])) (reply.Word word.Stored)
trims_the_tail = refl

refuses_the_trimmed : list_insert (pos 5) (codes "g") (holding_at_most 5 action.TailTrim) five ≡ stays (reply.Word word.OutOfRange)
refuses_the_trimmed = refl

-- at the tail the head goes
trims_the_head : list_insert (negsuc 0) (codes "f") (holding_at_most 5 action.TailTrim) five
    ≡ becomes (list (codes "b" ∷ codes "c" ∷ codes "d" ∷ codes "e" ∷ codes "f" ∷ [])) (reply.Word word.Stored)
trims_the_head = refl

-- `error` trims nothing
overflows : list_insert (pos 0) (codes "c") (holding_at_most 2 action.Error) (codes "a" ∷ codes "b" ∷ []) ≡ stays (reply.Word word.Overflowed)
overflows = refl

-- the last elements go, and the list with them where that was asked for
drops_the_empty : list_delete (from_to (pos 0) (negsuc 0)) true (holding_at_most 5 action.TailTrim) five ≡ goes (reply.Word word.DeletedDropped)
drops_the_empty = refl

keeps_the_empty : list_delete (from_to (pos 0) (negsuc 0)) false (holding_at_most 5 action.TailTrim) five ≡ becomes (list []) (reply.Word word.Deleted)
keeps_the_empty = refl

finds_no_element : list_delete (from_to (pos 5) (pos 9)) true (holding_at_most 5 action.TailTrim) five ≡ stays (reply.Word word.NotFoundElement)
finds_no_element = refl

-- sets of at most two values

stores_a_value : set_insert (codes "b") (holding_at_most 2 action.Error) (codes "a" ∷ []) ≡ becomes (set (codes "a" ∷ codes "b" ∷ [])) (reply.Word word.Stored)
stores_a_value = refl

knows_a_value : set_insert (codes "a") (holding_at_most 2 action.Error) (codes "a" ∷ codes "b" ∷ []) ≡ stays (reply.Word word.ElementExists)
knows_a_value = refl

overflows_a_set : set_insert (codes "c") (holding_at_most 2 action.Error) (codes "a" ∷ codes "b" ∷ []) ≡ stays (reply.Word word.Overflowed)
overflows_a_set = refl

has_a_value : set_exist (codes "b") (holding_at_most 2 action.Error) (codes "a" ∷ codes "b" ∷ []) ≡ stays (reply.Word word.Exist)
has_a_value = refl

takes_the_first : set_get 1 take.Delete (holding_at_most 2 action.Error) (codes "a" ∷ codes "b" ∷ [])
    ≡ becomes (set (codes "b" ∷ [])) (reply.Rows 7 (plain_row (codes "a") ∷ []) tail.Deleted)
takes_the_first = refl

takes_all_and_drops : set_get 0 take.Drop (holding_at_most 2 action.Error) (codes "b" ∷ []) ≡ goes (reply.Rows 7 (plain_row (codes "b") ∷ []) tail.DeletedDropped)
takes_all_and_drops = refl

finds_nothing_in_an_empty_set : set_get 0 take.Keep (holding_at_most 2 action.Error) [] ≡ stays (reply.Word word.NotFoundElement)
finds_nothing_in_an_empty_set = refl

deletes_a_value : set_delete (codes "a") false (holding_at_most 2 action.Error) (codes "a" ∷ codes "b" ∷ []) ≡ becomes (set (codes "b" ∷ [])) (reply.Word word.Deleted)
deletes_a_value = refl

-- fields in the order in which they are asked for, each once however often it is named, and one that is not there is passed over
reads_named_fields : map_get (codes "g" ∷ codes "x" ∷ codes "f" ∷ codes "g" ∷ []) take.Keep (holding_at_most 9 action.Error) ((codes "f", codes "a") ∷ (codes "g", codes "b") ∷ [])
    ≡ stays (reply.Rows 7 (field_row (codes "g", codes "b") ∷ field_row (codes "f", codes "a") ∷ []) tail.End)
reads_named_fields = refl

-- without fields all are read, in the order of insertion
reads_all_fields : map_get [] take.Drop (holding_at_most 9 action.Error) ((codes "f", codes "a") ∷ (codes "g", codes "b") ∷ [])
    ≡ goes (reply.Rows 7 (field_row (codes "f", codes "a") ∷ field_row (codes "g", codes "b") ∷ []) tail.DeletedDropped)
reads_all_fields = refl

deletes_named_fields : map_delete (codes "f" ∷ codes "f" ∷ []) true (holding_at_most 9 action.Error) ((codes "f", codes "a") ∷ (codes "g", codes "b") ∷ [])
    ≡ becomes (map ((codes "g", codes "b") ∷ [])) (reply.Word word.Deleted)
deletes_named_fields = refl

updates_a_field : map_update (codes "f") (codes "cc") (holding_at_most 9 action.Error) ((codes "f", codes "a") ∷ (codes "g", codes "b") ∷ [])
    ≡ becomes (map ((codes "f", codes "cc") ∷ (codes "g", codes "b") ∷ [])) (reply.Word word.Updated)
updates_a_field = refl

upserts_a_new_field : map_upsert (codes "h") (codes "c") (holding_at_most 9 action.Error) ((codes "f", codes "a") ∷ [])
    ≡ becomes (map ((codes "f", codes "a") ∷ (codes "h", codes "c") ∷ [])) (reply.Word word.Stored)
upserts_a_new_field = refl

replaces_by_upsert : map_upsert (codes "f") (codes "bb") (holding_at_most 1 action.Error) ((codes "f", codes "a") ∷ []) ≡ becomes (map ((codes "f", codes "bb") ∷ [])) (reply.Word word.Replaced)
replaces_by_upsert = refl

-- what is asked for a list that is made where none is held, with flags 3, for 10 seconds
abbrev making : CreateArgs
making = record { flags = 3; exptime = pos 10; maxcount = 0; action = action.TailTrim; readable = false }

abbrev inserting : Asked
inserting = record { reads = false; makes = Some (making, list []); row = on_list (list_insert (negsuc 0) (codes "a")) }

abbrev reading : Asked
reading = record { reads = true; makes = None; row = on_list (list_get (from_to (pos 0) (negsuc 0)) take.Keep) }

made_attrs : attrs_of 1000 making ≡ record { flags = 3; expiry = expiry.At 1010; maxcount = 4000; action = action.TailTrim; readable = false; maxbkeyrange = 0 }
made_attrs = refl

-- an insert makes the list, and one at an index that an empty list has not makes nothing
makes_a_list : plan_of_asked 1000 6 (codes "l") inserting None ≡ put (codes "l") (collection (attrs_of 1000 making) (list (codes "a" ∷ []))) 6 (reply.Word word.CreatedStored)
makes_a_list = refl

makes_none : plan_of_asked 1000 6 (codes "l") (record inserting { row = on_list (list_insert (pos 1) (codes "a")) }) None ≡ answer_only (reply.Word word.OutOfRange)
makes_none = refl

-- an item of another kind comes before one that cannot be read, and that before the row's own checks
is_no_list : plan_of_asked 1000 6 (codes "l") reading (Some (key_value 5 expiry.Never 3 (codes "x"))) ≡ answer_only (reply.Word word.TypeMismatch)
is_no_list = refl

is_another_collection : plan_of_asked 1000 6 (codes "l") reading (Some (collection (attrs_of 1000 making) (set []))) ≡ answer_only (reply.Word word.TypeMismatch)
is_another_collection = refl

is_not_readable : plan_of_asked 1000 6 (codes "l") reading (Some (collection (attrs_of 1000 making) (list []))) ≡ answer_only (reply.Word word.Unreadable)
is_not_readable = refl

is_not_found : plan_of_asked 1000 6 (codes "l") reading None ≡ answer_only (reply.Word word.NotFound)
is_not_found = refl

-- an insert into a list that cannot be read is stored
is_stored_unread : plan_of_asked 1000 6 (codes "l") inserting (Some (collection (attrs_of 1000 making) (list [])))
    ≡ put (codes "l") (collection (attrs_of 1000 making) (list (codes "a" ∷ []))) 6 (reply.Word word.Stored)
is_stored_unread = refl

-- `create` makes an empty one, and none where an item of any kind is held
creates : plan_of_create 1000 6 (codes "l") making (list []) None ≡ put (codes "l") (collection (attrs_of 1000 making) (list [])) 6 (reply.Word word.Created)
creates = refl

exists : plan_of_create 1000 6 (codes "l") making (list []) (Some (key_value 5 expiry.Never 3 (codes "x"))) ≡ answer_only (reply.Word word.Exists)
exists = refl

-- maxcount: 4,000 where 0 is written, and 1,000,000 where more is
default_maxcount : maxcount_of 0 ≡ 4000
default_maxcount = refl

greatest_maxcount : maxcount_of 2000000 ≡ 1000000
greatest_maxcount = refl

-- stated sizes: 128 and the key for the collection; 32 and its bytes for an element, 32, its field and its bytes for a pair
list_size : size_of (codes "l") (collection (attrs_of 1000 making) (list (codes "a" ∷ codes "bb" ∷ []))) ≡ 196
list_size = refl

map_size : size_of (codes "m") (collection (attrs_of 1000 making) (map ((codes "f1", codes "a") ∷ []))) ≡ 164
map_size = refl
