-- What the requests on a map do. (`mop` of the ARCUS protocol; `mop upsert`, that pairs come in the order of insertion, and
-- that a field which is named twice counts once, is this server's own.)
use Rattle.std.specs.Prelude.{ℕ, ◌==◌, Bool, if◌then◌else◌, List, [], ◌∷◌, ◌++◌, length, map as map_list, Option, Some, None}
use Rattle.arc_core.specs.declared.attributes.Attrs.{Attrs}
use Rattle.arc_core.specs.declared.collections.Take.{Take}
use Rattle.arc_core.specs.declared.replies.Reply.TheVariants as reply
use Rattle.arc_core.specs.declared.replies.Word.{Word}
use Rattle.arc_core.specs.declared.replies.Word.TheVariants as word
use Rattle.arc_core.specs.CollectionRows.{Outcome, stays, becomes, removed, read_and_taken, field_row}
use Rattle.arc_core.specs.Item.{map}
use Rattle.arc_core.specs.MapReading.{place_of, named_pairs, with_value_at, without}

-- a new field with its value comes last, where the map is not full
abbrev pub put_last : (field value : List ℕ) → Attrs → List (List ℕ × List ℕ) → Outcome
put_last field value attrs pairs =
    if length pairs == attrs.maxcount then stays (reply.Word word.Overflowed)
    else becomes (map (pairs ++ (field, value) ∷ [])) (reply.Word word.Stored)

-- a field that is there keeps its place and gets another value, and this is answered
abbrev pub put_at : (place : ℕ) → (value : List ℕ) → List (List ℕ × List ℕ) → Word → Outcome
put_at place value pairs answer = becomes (map (with_value_at pairs place value)) (reply.Word answer)

-- `mop insert`, by the place of its field
abbrev pub new_inserted : (field value : List ℕ) → Attrs → List (List ℕ × List ℕ) → Option ℕ → Outcome
new_inserted field value attrs pairs None = put_last field value attrs pairs
new_inserted field value attrs pairs (Some place) = stays (reply.Word word.ElementExists)

abbrev pub map_insert : (field value : List ℕ) → Attrs → List (List ℕ × List ℕ) → Outcome
map_insert field value attrs pairs = new_inserted field value attrs pairs (place_of field pairs)

-- `mop update`, by the place of its field
abbrev pub held_updated : (value : List ℕ) → List (List ℕ × List ℕ) → Option ℕ → Outcome
held_updated value pairs None = stays (reply.Word word.NotFoundElement)
held_updated value pairs (Some place) = put_at place value pairs word.Updated

abbrev pub map_update : (field value : List ℕ) → Attrs → List (List ℕ × List ℕ) → Outcome
map_update field value attrs pairs = held_updated value pairs (place_of field pairs)

-- `mop upsert`, by the place of its field
abbrev pub upserted : (field value : List ℕ) → Attrs → List (List ℕ × List ℕ) → Option ℕ → Outcome
upserted field value attrs pairs None = put_last field value attrs pairs
upserted field value attrs pairs (Some place) = put_at place value pairs word.Replaced

abbrev pub map_upsert : (field value : List ℕ) → Attrs → List (List ℕ × List ℕ) → Outcome
map_upsert field value attrs pairs = upserted field value attrs pairs (place_of field pairs)

-- the pairs that a request names by their fields, in its order; without fields it names all
abbrev pub pairs_asked : List (List ℕ) → List (List ℕ × List ℕ) → List (List ℕ × List ℕ)
pairs_asked [] pairs = pairs
pairs_asked (field ∷ fields) pairs = named_pairs (field ∷ fields) pairs

-- the pairs that it does not name
abbrev pub pairs_left : List (List ℕ) → List (List ℕ × List ℕ) → List (List ℕ × List ℕ)
pairs_left [] pairs = []
pairs_left (field ∷ fields) pairs = without (field ∷ fields) pairs

-- `mop delete`
abbrev pub map_delete : (fields : List (List ℕ)) → (drop_empty : Bool) → Attrs → List (List ℕ × List ℕ) → Outcome
map_delete fields drop_empty attrs pairs =
    if length (pairs_asked fields pairs) == 0 then stays (reply.Word word.NotFoundElement)
    else removed drop_empty (map (pairs_left fields pairs))

-- `mop get`
abbrev pub map_get : (fields : List (List ℕ)) → Take → Attrs → List (List ℕ × List ℕ) → Outcome
map_get fields taking attrs pairs =
    if length (pairs_asked fields pairs) == 0 then stays (reply.Word word.NotFoundElement)
    else read_and_taken taking attrs.flags (map_list field_row (pairs_asked fields pairs)) (map (pairs_left fields pairs))
