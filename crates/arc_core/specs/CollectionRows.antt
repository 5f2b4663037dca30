-- What a request does with a collection, as far as all kinds have it in common. The rows of each kind are in `ListRows`,
-- `SetRows` and `MapRows`.
use Rattle.std.specs.Prelude.{ℕ, ◌==◌, min, Bool, ◌&&◌, if◌then◌else◌, List, None}
use Rattle.arc_core.specs.declared.attributes.Attrs.{Attrs}
use Rattle.arc_core.specs.declared.attributes.CreateArgs.{CreateArgs}
use Rattle.arc_core.specs.declared.collections.Take.{Take}
use Rattle.arc_core.specs.declared.collections.Take.TheVariants as take
use Rattle.arc_core.specs.declared.replies.Reply.{Reply}
use Rattle.arc_core.specs.declared.replies.Reply.TheVariants as reply
use Rattle.arc_core.specs.declared.replies.Word.TheVariants as word
use Rattle.arc_core.specs.declared.rows.Row.{Row}
use Rattle.arc_core.specs.declared.rows.RowName.TheVariants as row_name
use Rattle.arc_core.specs.declared.rows.Tail.TheVariants as tail
use Rattle.arc_core.specs.Item.{Contents, count_of, expiry_at}

-- What a request comes to with the collection that it finds.
pub data Outcome : Type 0 where
  -- the collection stays as it is, and this is answered
  stays : Reply → Outcome
  -- it holds this then
  becomes : Contents → Reply → Outcome
  -- it goes
  goes : Reply → Outcome

-- the most elements that a collection may be made to hold: 4,000 for 0, and 1,000,000 for what is above
abbrev pub maxcount_of : ℕ → ℕ
maxcount_of written = if written == 0 then 4000 else min written 1000000

-- the attributes of a collection that is made now
abbrev pub attrs_of : ℕ → CreateArgs → Attrs
attrs_of latest args = record {
  flags = args.flags;
  expiry = expiry_at latest args.exptime;
  maxcount = maxcount_of args.maxcount;
  action = args.action;
  readable = args.readable;
  maxbkeyrange = 0;
}

-- whether a collection has no element
abbrev pub is_empty : Contents → Bool
is_empty contents = count_of contents == 0

-- what a removal comes to that leaves this: `drop_empty` says that the collection goes too where that is empty
abbrev pub removed : (drop_empty : Bool) → (left : Contents) → Outcome
removed drop_empty left =
    if drop_empty && is_empty left then goes (reply.Word word.DeletedDropped) else becomes left (reply.Word word.Deleted)

-- what a read comes to that answers these elements, where `left` is the collection without them: they are taken out of it
-- where the request says so
abbrev pub read_and_taken : Take → (flags : ℕ) → List Row → (left : Contents) → Outcome
read_and_taken take.Keep flags rows left = stays (reply.Rows flags rows tail.End)
read_and_taken take.Delete flags rows left = becomes left (reply.Rows flags rows tail.Deleted)
read_and_taken take.Drop flags rows left =
    if is_empty left then goes (reply.Rows flags rows tail.DeletedDropped) else becomes left (reply.Rows flags rows tail.Deleted)

-- an element that is answered without a name
abbrev pub plain_row : List ℕ → Row
plain_row value = record { name = row_name.Plain; eflag = None; value = value }

-- a map's pair as it is answered
abbrev pub field_row : List ℕ × List ℕ → Row
field_row pair = record { name = row_name.Field pair.0; eflag = None; value = pair.1 }
