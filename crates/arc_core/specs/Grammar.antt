-- What a line is, and which request a line and its block spell.
use Rattle.std.specs.Prelude.{◌≡◌, ◌⊎◌, ℕ, ◌≤◌, Bool, true, false, List, [], ◌∷◌, length, bytes_eq, codes, if◌then◌else◌, Option, Some, None}
use Rattle.std.specs.Option.{option_and_then, option_map, option_map_or}
use Rattle.arc_core.specs.declared.commands.CommandName.{CommandName}
use Rattle.arc_core.specs.declared.commands.CommandName.TheVariants as named
use Rattle.arc_core.specs.declared.commands.Command.{Command}
use Rattle.arc_core.specs.declared.commands.Command.TheVariants as command
use Rattle.arc_core.specs.declared.commands.Head.{Head}
use Rattle.arc_core.specs.declared.outside.Need.{Need}
use Rattle.arc_core.specs.declared.outside.Need.TheVariants as need
use Rattle.arc_core.specs.declared.requests.Answer.{Answer}
use Rattle.arc_core.specs.declared.requests.Answer.TheVariants as answer
use Rattle.arc_core.specs.declared.requests.StoreVerb.TheVariants as verb
use Rattle.arc_core.specs.PlainRequest.{PlainAct, PlainRequest}
use Rattle.arc_core.specs.PlainRequest as act
use Rattle.arc_core.specs.Words.{words, keys_counted}
use Rattle.arc_core.specs.Rows.{Row, Spells, row_read}
use Rattle.arc_core.specs.KeyValueGrammar.{store_row, cas_row, get_row, mget_row, count_row, delete_row, touch_row, flush_all_row, version_row, quit_row}

-- the command that a line's first word names
unfoldable pub command_of : List ℕ → Option CommandName
command_of word =
    if bytes_eq word (codes "set") then Some named.Set
    else if bytes_eq word (codes "get") then Some named.Get
    else if bytes_eq word (codes "gets") then Some named.Gets
    else if bytes_eq word (codes "mget") then Some named.Mget
    else if bytes_eq word (codes "add") then Some named.Add
    else if bytes_eq word (codes "replace") then Some named.Replace
    else if bytes_eq word (codes "append") then Some named.Append
    else if bytes_eq word (codes "prepend") then Some named.Prepend
    else if bytes_eq word (codes "cas") then Some named.Cas
    else if bytes_eq word (codes "incr") then Some named.Incr
    else if bytes_eq word (codes "decr") then Some named.Decr
    else if bytes_eq word (codes "delete") then Some named.Delete
    else if bytes_eq word (codes "touch") then Some named.Touch
    else if bytes_eq word (codes "flush_all") then Some named.FlushAll
    else if bytes_eq word (codes "version") then Some named.Version
    else if bytes_eq word (codes "quit") then Some named.Quit
    else None

-- the table: how the words behind a command's name go on
abbrev pub row_of : CommandName → Row Head
row_of named.Set = store_row verb.Set
row_of named.Add = store_row verb.Add
row_of named.Replace = store_row verb.Replace
row_of named.Append = store_row verb.Append
row_of named.Prepend = store_row verb.Prepend
row_of named.Cas = cas_row
row_of named.Get = get_row false
row_of named.Gets = get_row true
row_of named.Mget = mget_row
row_of named.Incr = count_row true
row_of named.Decr = count_row false
row_of named.Delete = delete_row
row_of named.Touch = touch_row
row_of named.FlushAll = flush_all_row
row_of named.Version = version_row
row_of named.Quit = quit_row

-- The line names this command by its first word, and these words follow.
pub record IsCommandLine (line : List ℕ) (name : CommandName) (after : List (List ℕ)) : Type 0 where
  pub first : List ℕ
  pub words_are : words line ≡ first ∷ after
  pub is_command : command_of first ≡ Some name

-- The line spells this head.
abbrev pub IsHead : List ℕ → Head → Type 0
IsHead line head = (name : CommandName) × (after : List (List ℕ)) × IsCommandLine line name after × Spells (row_of name) after head

-- The line is no command by its first word: there is none, or it names no command.
abbrev pub IsUnknown : List ℕ → Type 0
IsUnknown line = (words line ≡ []) ⊎ ((first : List ℕ) × (after : List (List ℕ)) × (words line ≡ first ∷ after) × (command_of first ≡ None))

-- The line begins with a command, and its further words spell nothing.
abbrev pub IsBadFormat : List ℕ → Type 0
IsBadFormat line =
    (name : CommandName) × (after : List (List ℕ)) × IsCommandLine line name after × ((head : Head) → Spells (row_of name) after head → ⊥)

-- the head that a line's words spell, read from the left
abbrev pub head_of : List (List ℕ) → Option Head
head_of [] = None
head_of (first ∷ after) = option_and_then (λ name. row_read (row_of name) after) (command_of first)

-- the most bytes of the value of a storing command, and of a block of keys
abbrev pub block_limit : ℕ
block_limit = 1048576

-- which block a command asks for
abbrev pub need_of : Command → Need
need_of (command.Store verb key flags exptime len) = need.Block len block_limit
need_of (command.GetBlock len number) = need.Block len block_limit
need_of other = need.Nothing

-- which block a line asks for: that of the head that it spells
abbrev pub line_needs : List ℕ → Need
line_needs line = option_map_or (λ head. need_of head.command) (head_of (words line)) need.Nothing

-- whether the command ends the session
abbrev pub is_quit : Command → Bool
is_quit command.Quit = true
is_quit other = false

-- whether no answer is sent
abbrev pub is_silent : Answer → Bool
is_silent answer.NoReply = true
is_silent other = false

-- whether the answer is one of a run of piped commands
abbrev pub is_pipe : Answer → Bool
is_pipe answer.Pipe = true
is_pipe other = false

-- whether the line asks that no answer be sent, whatever happens to it
abbrev pub line_is_silent : List ℕ → Bool
line_is_silent line = option_map_or (λ head. is_silent head.answer) (head_of (words line)) false

-- what a command does, with its block. None where it ends the session, or where its block is not the keys that it names
abbrev pub act_of : Command → List ℕ → Option PlainAct
act_of (command.Store verb key flags exptime len) block = Some (act.store verb key flags exptime block)
act_of (command.Get keys unique) block = Some (act.get keys unique)
act_of (command.GetBlock len number) block = option_map (λ keys. act.get keys false) (keys_counted number (words block))
act_of (command.Count up key delta initial) block = Some (act.count up key delta initial)
act_of (command.Delete key) block = Some (act.delete key)
act_of (command.Touch key exptime) block = Some (act.touch key exptime)
act_of command.FlushAll block = Some act.flush_all
act_of command.Version block = Some act.version
act_of command.Quit block = None

-- the request of a head and its block
abbrev pub request_of : Head → List ℕ → Option PlainRequest
request_of head block = option_map (λ act. record { act = act; answer = head.answer }) (act_of head.command block)

-- The block meets the need: there is none, or it has the length that is named, within the limit.
abbrev pub Meets : Need → List ℕ → Type 0
Meets need.Nothing block = block ≡ []
Meets (need.Block len limit) block = (length block ≡ len) × (len ≤ limit)

-- The block is one that the command may have.
abbrev pub IsBlockFor : Command → List ℕ → Type 0
IsBlockFor asked block = Meets (need_of asked) block
