-- The parts of the texts of found items, of elements and of runs of piped commands.
use Rattle.std.specs.Prelude.{ℕ, List, [], ◌++◌, length, codes, decimal, Option}
use Rattle.std.specs.Option.{option_map_or}
use Rattle.arc_core.specs.declared.replies.ValueRow.{ValueRow}
use Rattle.arc_core.specs.declared.rows.Row.{Row}
use Rattle.arc_core.specs.declared.rows.RowName.{RowName}
use Rattle.arc_core.specs.declared.rows.RowName.TheVariants as row_name
use Rattle.arc_core.specs.BkeyText.{bkey_text, eflag_text}
use Rattle.arc_core.specs.ReplyText.{line_end}

-- what stands behind the key in its line
abbrev pub row_tail : ValueRow → List ℕ
row_tail row =
    codes " " ++ decimal row.flags ++ codes " " ++ decimal (length row.value)
    ++ option_map_or (λ unique. codes " " ++ decimal unique) row.unique [] ++ line_end

-- the line before so many elements
abbrev pub elements_line : ℕ → ℕ → List ℕ
elements_line flags count = codes "VALUE " ++ decimal flags ++ codes " " ++ decimal count ++ line_end

-- the line before so many statuses
abbrev pub run_line : ℕ → List ℕ
run_line count = codes "RESPONSE " ++ decimal count ++ line_end

-- an element's field, with which its line begins; nothing where it has none
abbrev pub field_text : RowName → List ℕ
field_text row_name.Plain = []
field_text (row_name.Field field) = field
field_text (row_name.At bkey) = []

-- what a name has behind its field
abbrev pub name_rest : RowName → List ℕ
name_rest row_name.Plain = []
name_rest (row_name.Field field) = codes " "
name_rest (row_name.At bkey) = bkey_text bkey ++ codes " "

-- a flag and a space, where there is one
abbrev pub flag_part : Option (List ℕ) → List ℕ
flag_part eflag = option_map_or (λ eflag. eflag_text eflag ++ codes " ") eflag []

-- what stands between an element's field and its value
abbrev pub element_front : Row → List ℕ
element_front row = name_rest row.name ++ (flag_part row.eflag ++ (decimal (length row.value) ++ codes " "))

-- an element's line, in pieces
abbrev pub element_pieces : (field front value : List ℕ) → List ℕ
element_pieces field front value = field ++ (front ++ (value ++ line_end))
