-- What every line is: a key-value command, a command on a collection, or none; and which request a line and its block
-- spell. A command on a collection is known by its first two words.
use Rattle.std.specs.Prelude.{◌≡◌, ◌⊎◌, ℕ, ◌==◌, Bool, true, false, if◌then◌else◌, List, [], ◌∷◌, bytes_eq, codes, Option, Some, None}
use Rattle.std.specs.Option.{option_and_then, option_map, option_map_or}
use Rattle.arc_core.specs.declared.coll_commands.CollCommand.{CollCommand}
use Rattle.arc_core.specs.declared.coll_commands.CollCommand.TheVariants as command
use Rattle.arc_core.specs.declared.coll_commands.CollHead.{CollHead}
use Rattle.arc_core.specs.declared.coll_commands.CollHead.TheVariants as coll_head
use Rattle.arc_core.specs.declared.coll_commands.CollName.{CollName}
use Rattle.arc_core.specs.declared.coll_commands.CollName.TheVariants as named
use Rattle.arc_core.specs.declared.collections.Kind.TheVariants as kind
use Rattle.arc_core.specs.declared.commands.CommandName.{CommandName}
use Rattle.arc_core.specs.declared.outside.Need.{Need}
use Rattle.arc_core.specs.declared.outside.Need.TheVariants as need
use Rattle.arc_core.specs.declared.requests.Answer.{Answer}
use Rattle.arc_core.specs.Grammar.{IsHead, IsBadFormat, Meets, command_of, row_of, need_of, is_quit, is_silent, is_pipe, block_limit, request_of}
use Rattle.arc_core.specs.ListGrammar.{create_row, list_insert_row, list_delete_row, list_get_row}
use Rattle.arc_core.specs.MapGrammar.{map_insert_row, map_update_row, map_upsert_row, map_delete_row, map_get_row}
use Rattle.arc_core.specs.PlainRequest.{PlainAct, PlainRequest}
use Rattle.arc_core.specs.PlainRequest as act
use Rattle.arc_core.specs.Rows.{Row, Spells, row_read}
use Rattle.arc_core.specs.SetGrammar.{set_insert_row, set_delete_row, set_exist_row, set_get_row}
use Rattle.arc_core.specs.Words.{words, fields_counted}

-- the command that a word names behind `lop`, `sop` and `mop`
abbrev pub list_name_of : List ℕ → Option CollName
list_name_of word =
    if bytes_eq word (codes "insert") then Some named.ListInsert
    else if bytes_eq word (codes "get") then Some named.ListGet
    else if bytes_eq word (codes "delete") then Some named.ListDelete
    else if bytes_eq word (codes "create") then Some named.ListCreate
    else None

abbrev pub set_name_of : List ℕ → Option CollName
set_name_of word =
    if bytes_eq word (codes "insert") then Some named.SetInsert
    else if bytes_eq word (codes "exist") then Some named.SetExist
    else if bytes_eq word (codes "get") then Some named.SetGet
    else if bytes_eq word (codes "delete") then Some named.SetDelete
    else if bytes_eq word (codes "create") then Some named.SetCreate
    else None

abbrev pub map_name_of : List ℕ → Option CollName
map_name_of word =
    if bytes_eq word (codes "insert") then Some named.MapInsert
    else if bytes_eq word (codes "update") then Some named.MapUpdate
    else if bytes_eq word (codes "upsert") then Some named.MapUpsert
    else if bytes_eq word (codes "get") then Some named.MapGet
    else if bytes_eq word (codes "delete") then Some named.MapDelete
    else if bytes_eq word (codes "create") then Some named.MapCreate
    else None

-- the command that a line's first two words name
unfoldable pub coll_name_of : (first second : List ℕ) → Option CollName
coll_name_of first second =
    if bytes_eq first (codes "lop") then list_name_of second
    else if bytes_eq first (codes "sop") then set_name_of second
    else if bytes_eq first (codes "mop") then map_name_of second
    else None

-- the table: how the words behind the two go on
abbrev pub coll_row_of : CollName → Row CollHead
coll_row_of named.ListCreate = create_row kind.List
coll_row_of named.ListInsert = list_insert_row
coll_row_of named.ListDelete = list_delete_row
coll_row_of named.ListGet = list_get_row
coll_row_of named.SetCreate = create_row kind.Set
coll_row_of named.SetInsert = set_insert_row
coll_row_of named.SetDelete = set_delete_row
coll_row_of named.SetExist = set_exist_row
coll_row_of named.SetGet = set_get_row
coll_row_of named.MapCreate = create_row kind.Map
coll_row_of named.MapInsert = map_insert_row
coll_row_of named.MapUpdate = map_update_row
coll_row_of named.MapUpsert = map_upsert_row
coll_row_of named.MapDelete = map_delete_row
coll_row_of named.MapGet = map_get_row

-- The line names this command on a collection by its first two words, and these words follow.
pub record IsCollLine (line : List ℕ) (name : CollName) (after : List (List ℕ)) : Type 0 where
  pub first : List ℕ
  pub second : List ℕ
  pub words_are : words line ≡ first ∷ second ∷ after
  pub is_command : coll_name_of first second ≡ Some name

-- The line spells this head.
abbrev pub IsCollHead : List ℕ → CollHead → Type 0
IsCollHead line (coll_head.KeyValue head) = IsHead line head
IsCollHead line (coll_head.Collection asked answer) =
    (name : CollName) × (after : List (List ℕ)) × IsCollLine line name after × Spells (coll_row_of name) after (coll_head.Collection asked answer)

-- the command on a collection that a line's words name, by the first and those behind it
abbrev pub coll_named : List ℕ → List (List ℕ) → Option CollName
coll_named first [] = None
coll_named first (second ∷ after) = coll_name_of first second

-- The line is no command by its first words: there is none, or they name no command.
abbrev pub IsCollUnknown : List ℕ → Type 0
IsCollUnknown line =
    (words line ≡ [])
    ⊎ ((first : List ℕ) × (after : List (List ℕ)) × (words line ≡ first ∷ after) × (command_of first ≡ None) × (coll_named first after ≡ None))

-- The line begins with a command, and its further words spell nothing.
abbrev pub IsCollBadFormat : List ℕ → Type 0
IsCollBadFormat line =
    IsBadFormat line
    ⊎ ((name : CollName) × (after : List (List ℕ)) × IsCollLine line name after × ((head : CollHead) → Spells (coll_row_of name) after head → ⊥))

-- the head that the words of a command on a collection spell, read from the left
abbrev pub coll_read : List ℕ → List (List ℕ) → Option CollHead
coll_read first [] = None
coll_read first (second ∷ after) = option_and_then (λ name. row_read (coll_row_of name) after) (coll_name_of first second)

-- the head that words spell behind a first one, by the key-value command that this names
abbrev pub head_read : Option CommandName → List ℕ → List (List ℕ) → Option CollHead
head_read (Some name) first after = option_map coll_head.KeyValue (row_read (row_of name) after)
head_read None first after = coll_read first after

-- the head that a line's words spell, read from the left
abbrev pub coll_head_of : List (List ℕ) → Option CollHead
coll_head_of [] = None
coll_head_of (first ∷ after) = head_read (command_of first) first after

-- the most bytes of an element
abbrev pub element_limit : ℕ
element_limit = 32768

-- the block of so many fields
abbrev pub fields_need : (len number : ℕ) → Need
fields_need len number = if number == 0 then need.Nothing else need.Block len block_limit

-- which block a command on a collection asks for
abbrev pub coll_command_needs : CollCommand → Need
coll_command_needs (command.ListInsert key index len create) = need.Block len element_limit
coll_command_needs (command.SetInsert key len create) = need.Block len element_limit
coll_command_needs (command.SetDelete key len drop_empty) = need.Block len element_limit
coll_command_needs (command.SetExist key len) = need.Block len element_limit
coll_command_needs (command.MapInsert key field len create) = need.Block len element_limit
coll_command_needs (command.MapUpdate key field len) = need.Block len element_limit
coll_command_needs (command.MapUpsert key field len create) = need.Block len element_limit
coll_command_needs (command.MapDelete key len number drop_empty) = fields_need len number
coll_command_needs (command.MapGet key len number taking) = fields_need len number
coll_command_needs _ = need.Nothing

-- which block a head asks for
abbrev pub coll_need_of : CollHead → Need
coll_need_of (coll_head.KeyValue head) = need_of head.command
coll_need_of (coll_head.Collection asked answer) = coll_command_needs asked

-- which block a line asks for: that of the head that it spells
abbrev pub coll_line_needs : List ℕ → Need
coll_line_needs line = option_map_or coll_need_of (coll_head_of (words line)) need.Nothing

-- whether the head ends the session
abbrev pub coll_is_quit : CollHead → Bool
coll_is_quit (coll_head.KeyValue head) = is_quit head.command
coll_is_quit (coll_head.Collection asked answer) = false

-- how a head's answer is sent
abbrev pub coll_answer : CollHead → Answer
coll_answer (coll_head.KeyValue head) = head.answer
coll_answer (coll_head.Collection asked answer) = answer

-- whether the head is a piped command: its line ends with `pipe`
abbrev pub coll_is_marked : CollHead → Bool
coll_is_marked head = is_pipe (coll_answer head)

-- whether the line asks that no answer be sent, whatever happens to it
abbrev pub coll_line_is_silent : List ℕ → Bool
coll_line_is_silent line = option_map_or (λ head. is_silent (coll_answer head)) (coll_head_of (words line)) false

-- what a command on a collection does, with its block. None where its block is not the fields that it names
abbrev pub coll_act_of : CollCommand → List ℕ → Option PlainAct
coll_act_of (command.Create kind key args) block = Some (act.make kind key args)
coll_act_of (command.ListInsert key index len create) block = Some (act.on_collection key (act.list_insert index block create))
coll_act_of (command.ListDelete key range drop_empty) block = Some (act.on_collection key (act.list_delete range drop_empty))
coll_act_of (command.ListGet key range taking) block = Some (act.on_collection key (act.list_get range taking))
coll_act_of (command.SetInsert key len create) block = Some (act.on_collection key (act.set_insert block create))
coll_act_of (command.SetDelete key len drop_empty) block = Some (act.on_collection key (act.set_delete block drop_empty))
coll_act_of (command.SetExist key len) block = Some (act.on_collection key (act.set_exist block))
coll_act_of (command.SetGet key count taking) block = Some (act.on_collection key (act.set_get count taking))
coll_act_of (command.MapInsert key field len create) block = Some (act.on_collection key (act.map_insert field block create))
coll_act_of (command.MapUpdate key field len) block = Some (act.on_collection key (act.map_update field block))
coll_act_of (command.MapUpsert key field len create) block = Some (act.on_collection key (act.map_upsert field block create))
coll_act_of (command.MapDelete key len number drop_empty) block =
    option_map (λ fields. act.on_collection key (act.map_delete fields drop_empty)) (fields_counted number (words block))
coll_act_of (command.MapGet key len number taking) block =
    option_map (λ fields. act.on_collection key (act.map_get fields taking)) (fields_counted number (words block))

-- the request of a head and its block. None where the head ends the session, or where its block is not the keys or fields
-- that it names
abbrev pub coll_request_of : CollHead → List ℕ → Option PlainRequest
coll_request_of (coll_head.KeyValue head) block = request_of head block
coll_request_of (coll_head.Collection asked answer) block = option_map (λ act. record { act = act; answer = answer }) (coll_act_of asked block)

-- The line and the block spell this request.
abbrev pub SpellsRequest : List ℕ → List ℕ → PlainRequest → Type 0
SpellsRequest line block request = (head : CollHead) × IsCollHead line head × Meets (coll_need_of head) block × (coll_request_of head block ≡ Some request)

-- The line asks for a block of keys or fields, and this one, of the right length, is not so many.
abbrev pub IsBadBlock : List ℕ → List ℕ → Type 0
IsBadBlock line block =
    (head : CollHead) × IsCollHead line head × (coll_is_quit head ≡ false) × Meets (coll_need_of head) block × (coll_request_of head block ≡ None)

-- The line ends the session.
abbrev pub IsQuit : List ℕ → Type 0
IsQuit line = (head : CollHead) × IsCollHead line head × (coll_is_quit head ≡ true)

-- Some line and some block spell the request.
abbrev pub CanBeSpelled : PlainRequest → Type 0
CanBeSpelled request = (line : List ℕ) × (block : List ℕ) × SpellsRequest line block request
