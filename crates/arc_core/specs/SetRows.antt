-- What the requests on a set do. (`sop` of the ARCUS protocol; that values come in the order of insertion is this server's
-- own.)
use Rattle.std.specs.Prelude.{ℕ, ◌==◌, Bool, if◌then◌else◌, List, [], ◌∷◌, ◌++◌, length, map, take, drop, remove, is_some, Option, Some, None}
use Rattle.arc_core.specs.declared.attributes.Attrs.{Attrs}
use Rattle.arc_core.specs.declared.collections.Take.{Take}
use Rattle.arc_core.specs.declared.replies.Reply.TheVariants as reply
use Rattle.arc_core.specs.declared.replies.Word.TheVariants as word
use Rattle.arc_core.specs.CollectionRows.{Outcome, stays, becomes, removed, read_and_taken, plain_row}
use Rattle.arc_core.specs.Item.{set}
use Rattle.arc_core.specs.SetReading.{place_of}

-- `sop insert`
abbrev pub set_insert : List ℕ → Attrs → List (List ℕ) → Outcome
set_insert value attrs values =
    if is_some (place_of value values) then stays (reply.Word word.ElementExists)
    else if length values == attrs.maxcount then stays (reply.Word word.Overflowed)
    else becomes (set (values ++ value ∷ [])) (reply.Word word.Stored)

-- `sop delete`, by the place of its value
abbrev pub value_deleted : Bool → List (List ℕ) → Option ℕ → Outcome
value_deleted drop_empty values None = stays (reply.Word word.NotFoundElement)
value_deleted drop_empty values (Some place) = removed drop_empty (set (remove values place))

abbrev pub set_delete : List ℕ → (drop_empty : Bool) → Attrs → List (List ℕ) → Outcome
set_delete value drop_empty attrs values = value_deleted drop_empty values (place_of value values)

-- `sop exist`
abbrev pub set_exist : List ℕ → Attrs → List (List ℕ) → Outcome
set_exist value attrs values = stays (reply.Word (if is_some (place_of value values) then word.Exist else word.NotExist))

-- how many values a read of so many answers: for 0 it is all
abbrev pub number_read : (count : ℕ) → List (List ℕ) → ℕ
number_read count values = if count == 0 then length values else count

-- `sop get`
abbrev pub set_get : (count : ℕ) → Take → Attrs → List (List ℕ) → Outcome
set_get count taking attrs values =
    if length values == 0 then stays (reply.Word word.NotFoundElement)
    else read_and_taken taking attrs.flags (map plain_row (take (number_read count values) values)) (set (drop (number_read count values) values))
