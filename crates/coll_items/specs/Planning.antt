-- What a request wants done with a collection, as the code has it.
use Rattle.std.specs.Prelude.{◌≡◌, ◌<◌, ◌^◌, ◌&&◌, ℕ, Bool, true, false, if◌then◌else◌, List, length, is_some, Option}
use Rattle.std.specs.List.{list_any}
use Rattle.arc_core.specs.declared.attributes.Attrs.{Attrs}
use Rattle.arc_core.specs.declared.collections.Take.{Take}
use Rattle.arc_core.specs.declared.collections.Take.TheVariants as taking
use Rattle.arc_core.specs.declared.replies.Reply.{Reply}
use Rattle.arc_core.specs.declared.replies.Reply.TheVariants as reply
use Rattle.arc_core.specs.declared.replies.Word.TheVariants as word
use Rattle.arc_core.specs.declared.rows.Row.{Row}
use Rattle.arc_core.specs.declared.rows.Tail.TheVariants as tail
use Rattle.arc_core.specs.CollectionRows.{Outcome, is_empty}
use Rattle.arc_core.specs.CollectionStep.{plan_of_held}
use Rattle.arc_core.specs.Item.{Contents, collection}
use Rattle.arc_core.specs.MapReading.{place_of}
use Rattle.arc_core.specs.Plan.{Plan, answer_only, put, take_away}
use Rattle.arc_core.specs.ReplyText.{reply_text}
use Rattle.coll_items.specs.Changing.{inserted, taken_out, SuitsInsertion, FitsOut}
use Rattle.coll_items.specs.Holding.{Held}
use Rattle.coll_items.specs.declared.changes.Removal.{Removal}
use Rattle.coll_items.specs.declared.planned.Planned.{Planned}
use Rattle.coll_items.specs.declared.planned.Planned.TheVariants as planned
use Rattle.coll_items.specs.declared.planned.Removed.{Removed}
use Rattle.coll_items.specs.declared.planned.Removed.TheVariants as removed

-- what is answered to a removal with which the collection has gone, or not
abbrev pub reply_of : Removed → (dropped : Bool) → Reply
reply_of removed.Told false = reply.Word word.Deleted
reply_of removed.Told true = reply.Word word.DeletedDropped
reply_of (removed.Read flags rows) false = reply.Rows flags rows tail.Deleted
reply_of (removed.Read flags rows) true = reply.Rows flags rows tail.DeletedDropped

-- the plan for a collection that holds this after a removal
abbrev pub plan_of_removal : (counter : ℕ) → List ℕ → Attrs → (left : Contents) → (drop_empty : Bool) → Removed → Plan
plan_of_removal counter key attrs left drop_empty answer =
    if drop_empty && is_empty left then take_away key (reply_of answer true) else put key (collection attrs left) counter (reply_of answer false)

-- What is planned is this plan of the machine for the collection under a key, or memory was refused.
abbrev pub IsPlan : (counter : ℕ) → List ℕ → Held → Plan → Planned → Type 0
IsPlan counter key held plan (planned.Stays answer) = plan ≡ answer_only answer
IsPlan counter key held plan (planned.Puts element answer) = plan ≡ put key (collection held.attrs (inserted element held.contents)) counter answer
IsPlan counter key held plan (planned.Removes removal drop_empty answer) =
    plan ≡ plan_of_removal counter key held.attrs (taken_out removal held.contents) drop_empty answer
IsPlan counter key held plan planned.NoMemory = Unit {0}

-- What is planned is what the machine wants done with this collection, whatever its key, by a row that reads elements or not.
abbrev pub Plans : (reads : Bool) → (Attrs → Contents → Option Outcome) → Held → Planned → Type 0
Plans reads row held plan = (counter : ℕ) (key : List ℕ) → IsPlan counter key held (plan_of_held counter key reads held.attrs (row held.attrs held.contents)) plan

-- The insertion or removal that is planned suits the collection.
abbrev pub SuitsPlan : Held → Planned → Type 0
SuitsPlan held (planned.Puts element answer) = SuitsInsertion element held.attrs held.contents
SuitsPlan held (planned.Removes removal drop_empty answer) = FitsOut removal held.contents
SuitsPlan held _ = Unit {0}

-- The answer that is planned has fewer than 2^64 bytes.
abbrev pub IsShort : Planned → Type 0
IsShort (planned.Stays answer) = length (reply_text answer) < 2 ^ 64
IsShort (planned.Puts element answer) = length (reply_text answer) < 2 ^ 64
IsShort (planned.Removes removal drop_empty answer) = (dropped : Bool) → length (reply_text (reply_of answer dropped)) < 2 ^ 64
IsShort planned.NoMemory = Unit {0}

-- Nothing takes memory: none was refused, and no element is to be put in.
abbrev pub TakesNoMemory : Planned → Type 0
TakesNoMemory planned.NoMemory = ⊥
TakesNoMemory (planned.Puts element answer) = ⊥
TakesNoMemory _ = Unit {0}

-- Nothing is to be taken out.
abbrev pub TakesNothingOut : Planned → Type 0
TakesNothingOut (planned.Removes removal drop_empty answer) = ⊥
TakesNothingOut _ = Unit {0}

-- What is planned for a read of these elements, which may be taken out by a removal.
abbrev pub IsTaken : (flags : ℕ) → List Row → Take → Removal → Planned → Type 0
IsTaken flags rows taking.Keep removal plan = plan ≡ planned.Stays (reply.Rows flags rows tail.End)
IsTaken flags rows taking.Delete removal plan = plan ≡ planned.Removes removal false (removed.Read flags rows)
IsTaken flags rows taking.Drop removal plan = plan ≡ planned.Removes removal true (removed.Read flags rows)

-- whether some of these fields are there
abbrev pub are_some : List (List ℕ) → List (List ℕ × List ℕ) → Bool
are_some names pairs = list_any (λ name. is_some (place_of name pairs)) names
