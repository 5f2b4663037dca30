-- Worked examples of the table's rows that compute: what a command wants done, by the item under its key.
use Rattle.std.specs.Prelude.{◌≡◌, ◌^◌, ◌-◌, [], ◌∷◌, sum, codes, refl, true, None, Some, pos, negsuc}
use Rattle.arc_core.specs.declared.items.Expiry.TheVariants as expiry
use Rattle.arc_core.specs.declared.requests.StoreVerb.TheVariants as verb
use Rattle.arc_core.specs.declared.replies.Reply.TheVariants as reply
use Rattle.arc_core.specs.declared.replies.Word.TheVariants as word
use Rattle.arc_core.specs.Item.{Item, key_value}
use Rattle.arc_core.specs.Places.{empty_places}
use Rattle.arc_core.specs.CacheState.{CacheState}
use Rattle.arc_core.specs.Step.{sticky_extra_of, plan_of_store, plan_of_count, plan_of_delete, plan_of_touch, next_unique}
use Rattle.arc_core.specs.Plan.{answer_only, put, take_away}
use Rattle.arc_core.specs.Words.{number_below}
use Rattle.arc_core.specs.Room.{shortest_suffix, fits}

-- a state at second 1,000 in which 6 values were stored
abbrev at : CacheState
at = record { latest = 1000; counter = 6; places = empty_places 1048576 1048576 }

-- an item with client flags 5, cas unique 3 and the value `x`
abbrev held : Item
held = key_value 5 expiry.Never 3 (codes "x")

-- a state that holds an item under `a`
abbrev holding : Item → CacheState
holding item = record at { places = record (empty_places 1048576 1048576) { shelf = (codes "a", item) ∷ [] } }

-- `set` puts a new item, whatever is held
set_stores : plan_of_store at verb.Set (codes "a") 9 (pos 10) (codes "y") (Some held) ≡ put (codes "a") (key_value 9 (expiry.At 1010) 7 (codes "y")) 7 (reply.Word word.Stored)
set_stores = refl

-- `add` puts one only where none is held, and `replace` only where one is
add_is_refused : plan_of_store at verb.Add (codes "a") 9 (pos 0) (codes "y") (Some held) ≡ answer_only (reply.Word word.NotStored)
add_is_refused = refl

replace_is_refused : plan_of_store at verb.Replace (codes "a") 9 (pos 0) (codes "y") None ≡ answer_only (reply.Word word.NotStored)
replace_is_refused = refl

-- `append` and `prepend` keep flags and expiry
append_joins : plan_of_store at verb.Append (codes "a") 9 (pos 10) (codes "y") (Some held) ≡ put (codes "a") (key_value 5 expiry.Never 7 (codes "xy")) 7 (reply.Word word.Stored)
append_joins = refl

prepend_joins : plan_of_store at verb.Prepend (codes "a") 9 (pos 10) (codes "y") (Some held) ≡ put (codes "a") (key_value 5 expiry.Never 7 (codes "yx")) 7 (reply.Word word.Stored)
prepend_joins = refl

-- `cas` asks for the item's unique
cas_stores : plan_of_store at (verb.Cas 3) (codes "a") 9 (negsuc 0) (codes "y") (Some held) ≡ put (codes "a") (key_value 9 expiry.Sticky 7 (codes "y")) 7 (reply.Word word.Stored)
cas_stores = refl

cas_is_refused : plan_of_store at (verb.Cas 2) (codes "a") 9 (pos 0) (codes "y") (Some held) ≡ answer_only (reply.Word word.Exists)
cas_is_refused = refl

cas_finds_none : plan_of_store at (verb.Cas 2) (codes "a") 9 (pos 0) (codes "y") None ≡ answer_only (reply.Word word.NotFound)
cas_finds_none = refl

-- a count of what is no number, and of nothing
count_is_refused : plan_of_count at true (codes "a") 1 None (Some held) ≡ answer_only (reply.Word word.NotNumeric)
unfolding number_below
count_is_refused = refl

count_finds_none : plan_of_count at true (codes "a") 1 None None ≡ answer_only (reply.Word word.NotFound)
count_finds_none = refl

-- `touch` gives another expiry, and the counter stays
touch_sets_expiry : plan_of_touch at (codes "a") (pos 10) (Some held) ≡ put (codes "a") (key_value 5 (expiry.At 1010) 3 (codes "x")) 6 (reply.Word word.Touched)
touch_sets_expiry = refl

delete_takes_away : plan_of_delete (codes "a") (Some held) ≡ take_away (codes "a") (reply.Word word.Deleted)
delete_takes_away = refl

-- the counter begins again at 1
counter_begins_again : next_unique (2 ^ 64 - 1) ≡ 1
counter_begins_again = refl

-- the shortest suffix that is enough: of 3, 4 and 5 bytes, the last two free 8 where 6 are wanted
two_go : shortest_suffix (λ list. fits 12 12 (pos 6) (sum list)) (3 ∷ 4 ∷ 5 ∷ []) ≡ Some (4 ∷ 5 ∷ [])
two_go = refl

-- none goes where there is room, and where all are not enough there is none
none_goes : shortest_suffix (λ list. fits 18 12 (pos 6) (sum list)) (3 ∷ 4 ∷ 5 ∷ []) ≡ Some []
none_goes = refl

all_are_not_enough : shortest_suffix (λ list. fits 12 12 (pos 13) (sum list)) (3 ∷ 4 ∷ 5 ∷ []) ≡ None
all_are_not_enough = refl

-- the extra bytes of a sticky item that takes the place of another: one of 66 bytes that was sticky, and one that was not
stays_sticky : sticky_extra_of (holding (key_value 0 expiry.Sticky 1 (codes "x"))) (codes "a") (key_value 0 expiry.Sticky 2 (codes "xyz")) ≡ pos 2
stays_sticky = refl

gets_sticky : sticky_extra_of (holding (key_value 0 expiry.Never 1 (codes "x"))) (codes "a") (key_value 0 expiry.Sticky 2 (codes "xyz")) ≡ pos 68
gets_sticky = refl

is_no_longer_sticky : sticky_extra_of (holding (key_value 0 expiry.Sticky 1 (codes "x"))) (codes "a") (key_value 0 expiry.Never 2 (codes "xyz")) ≡ negsuc 65
is_no_longer_sticky = refl
