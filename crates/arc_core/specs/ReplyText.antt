-- The text of each reply. (memcached's text protocol; the texts of ARCUS.)
use Rattle.std.specs.Prelude.{ℕ, List, [], ◌∷◌, ◌++◌, length, codes, decimal}
use Rattle.std.specs.Option.{option_map_or}
use Rattle.std.specs.List.{flat_map}
use Rattle.arc_core.specs.BkeyText.{bkey_text, eflag_text}
use Rattle.arc_core.specs.declared.replies.Reply.{Reply}
use Rattle.arc_core.specs.declared.replies.Reply.TheVariants as reply
use Rattle.arc_core.specs.declared.replies.Word.{Word}
use Rattle.arc_core.specs.declared.replies.Word.TheVariants as word
use Rattle.arc_core.specs.declared.replies.ValueRow.{ValueRow}
use Rattle.arc_core.specs.declared.rows.Row.{Row}
use Rattle.arc_core.specs.declared.rows.RowName.{RowName}
use Rattle.arc_core.specs.declared.rows.RowName.TheVariants as row_name
use Rattle.arc_core.specs.declared.rows.Tail.{Tail}
use Rattle.arc_core.specs.declared.rows.Tail.TheVariants as tail

-- the line end, CR LF
abbrev pub line_end : List ℕ
line_end = 13 ∷ 10 ∷ []

-- the text of a word
abbrev pub word_text : Word → List ℕ
word_text word.Stored = codes "STORED"
word_text word.NotStored = codes "NOT_STORED"
word_text word.Exists = codes "EXISTS"
word_text word.NotFound = codes "NOT_FOUND"
word_text word.Deleted = codes "DELETED"
word_text word.Touched = codes "TOUCHED"
word_text word.Ok = codes "OK"
word_text word.Version = codes "VERSION arcus-profile-2"
word_text word.NotNumeric = codes "CLIENT_ERROR cannot increment or decrement non-numeric value"
word_text word.TooLarge = codes "CLIENT_ERROR too large value"
word_text word.OutOfMemory = codes "SERVER_ERROR out of memory"
word_text word.NoMemory = codes "SERVER_ERROR no memory from the system"
word_text word.Unknown = codes "ERROR unknown command"
word_text word.BadFormat = codes "CLIENT_ERROR bad command line format"
word_text word.BadChunk = codes "CLIENT_ERROR bad data chunk"
word_text word.LineTooLong = codes "CLIENT_ERROR line too long"
word_text word.Created = codes "CREATED"
word_text word.CreatedStored = codes "CREATED_STORED"
word_text word.TypeMismatch = codes "TYPE_MISMATCH"
word_text word.Unreadable = codes "UNREADABLE"
word_text word.Overflowed = codes "OVERFLOWED"
word_text word.OutOfRange = codes "OUT_OF_RANGE"
word_text word.NotFoundElement = codes "NOT_FOUND_ELEMENT"
word_text word.ElementExists = codes "ELEMENT_EXISTS"
word_text word.Exist = codes "EXIST"
word_text word.NotExist = codes "NOT_EXIST"
word_text word.Updated = codes "UPDATED"
word_text word.Replaced = codes "REPLACED"
word_text word.DeletedDropped = codes "DELETED_DROPPED"

-- a word as a line
abbrev pub word_line : Word → List ℕ
word_line w = word_text w ++ line_end

-- VALUE <key> <flags> <bytes>[ <unique>]
abbrev pub row_head : ValueRow → List ℕ
row_head row =
    codes "VALUE " ++ row.key ++ codes " " ++ decimal row.flags ++ codes " " ++ decimal (length row.value)
    ++ option_map_or (λ unique. codes " " ++ decimal unique) row.unique [] ++ line_end

-- a found item: its line, and its value as a line
abbrev pub row_text : ValueRow → List ℕ
row_text row = row_head row ++ row.value ++ line_end

-- how an answer of elements ends
abbrev pub tail_text : Tail → List ℕ
tail_text tail.End = codes "END"
tail_text tail.Trimmed = codes "TRIMMED"
tail_text tail.Deleted = codes "DELETED"
tail_text tail.DeletedDropped = codes "DELETED_DROPPED"

-- an element's field or bkey, and a space; nothing where it has no name
abbrev pub name_text : RowName → List ℕ
name_text row_name.Plain = []
name_text (row_name.Field field) = field ++ codes " "
name_text (row_name.At bkey) = bkey_text bkey ++ codes " "

-- [<field> |<bkey> ][<eflag> ]<bytes> <value>
abbrev pub element_text : Row → List ℕ
element_text row =
    name_text row.name ++ option_map_or (λ eflag. eflag_text eflag ++ codes " ") row.eflag []
    ++ decimal (length row.value) ++ codes " " ++ row.value ++ line_end

-- VALUE <flags> <count>, the elements, and how the answer ends
abbrev pub elements_text : ℕ → List Row → Tail → List ℕ
elements_text flags rows end =
    codes "VALUE " ++ decimal flags ++ codes " " ++ decimal (length rows) ++ line_end ++ flat_map element_text rows ++ tail_text end ++ line_end

-- the text of a reply
abbrev pub reply_text : Reply → List ℕ
reply_text (reply.Word w) = word_line w
reply_text (reply.Number n) = decimal n ++ line_end
reply_text (reply.Values rows) = flat_map row_text rows ++ codes "END" ++ line_end
reply_text (reply.Rows flags rows end) = elements_text flags rows end
