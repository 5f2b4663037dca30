-- Words and parts that the rows of the commands on collections have in common. (The ARCUS protocol; the limits are this
-- server's own.)
use Rattle.std.specs.Prelude.{ℕ, ◌+◌, ◌^◌, ◌==◌, ◌&&◌, Bool, true, false, nat_le, if◌then◌else◌, List, length, position, take, drop, slice_index, bytes_eq, codes, is_none, Option, Some, None, ℤ, pos, ◌-ℤ◌}
use Rattle.std.specs.Option.{option_map, option_map_or}
use Rattle.arc_core.specs.declared.attributes.CreateArgs.{CreateArgs}
use Rattle.arc_core.specs.declared.coll_commands.CollCommand.{CollCommand}
use Rattle.arc_core.specs.declared.coll_commands.CollHead.{CollHead}
use Rattle.arc_core.specs.declared.coll_commands.CollHead.TheVariants as coll_head
use Rattle.arc_core.specs.declared.collections.Action.{Action}
use Rattle.arc_core.specs.declared.collections.Action.TheVariants as action
use Rattle.arc_core.specs.declared.collections.IndexRange.{IndexRange}
use Rattle.arc_core.specs.declared.collections.Kind.{Kind}
use Rattle.arc_core.specs.declared.collections.Kind.TheVariants as kind
use Rattle.arc_core.specs.declared.collections.Take.{Take}
use Rattle.arc_core.specs.declared.collections.Take.TheVariants as taking
use Rattle.arc_core.specs.declared.requests.Answer.{Answer}
use Rattle.arc_core.specs.declared.requests.Answer.TheVariants as answer
use Rattle.arc_core.specs.Key.{key_fault}
use Rattle.arc_core.specs.KeyValueGrammar.{noreply}
use Rattle.arc_core.specs.Rows.{Row, one, perhaps, gives, ◌>>=◌}
use Rattle.arc_core.specs.Words.{number_below, number_from_1, exptime_word}

-- a map's field
unfoldable pub field_word : List ℕ → Option (List ℕ)
field_word word = if is_none (key_fault word) && nat_le (length word) 250 then Some word else None

-- an index: a number below 2^31, or a minus sign and a number to 2^31
unfoldable pub index_word : List ℕ → Option ℤ
index_word word =
    if slice_index word 0 == 45 then option_map (λ n. pos 0 -ℤ pos n) (number_below (2 ^ 31 + 1) (drop 1 word))
    else option_map pos (number_below (2 ^ 31) word)

-- one index as a range
abbrev pub single_index : ℤ → IndexRange
single_index index = record { first = index; last = index; single = true }

-- the range from one index to another
abbrev pub range_between : Option ℤ → Option ℤ → Option IndexRange
range_between (Some first) (Some last) = Some (record { first = first; last = last; single = false })
range_between _ _ = None

-- the byte `.`
abbrev pub is_dot : ℕ → Bool
is_dot b = b == 46

-- a range of indices by the place of its first dot, behind which another one stands
abbrev pub index_range_at : List ℕ → Option ℕ → Option IndexRange
index_range_at word None = option_map single_index (index_word word)
index_range_at word (Some place) =
    if is_dot (slice_index word (place + 1)) then range_between (index_word (take place word)) (index_word (drop (place + 2) word)) else None

-- an index, or two with `..` between them
unfoldable pub index_range_word : List ℕ → Option IndexRange
index_range_word word = index_range_at word (position is_dot word)

-- the action that a word names
abbrev pub list_action_word : List ℕ → Option Action
list_action_word word =
    if bytes_eq word (codes "error") then Some action.Error
    else if bytes_eq word (codes "head_trim") then Some action.HeadTrim
    else if bytes_eq word (codes "tail_trim") then Some action.TailTrim
    else None

abbrev pub plain_action_word : List ℕ → Option Action
plain_action_word word = if bytes_eq word (codes "error") then Some action.Error else None

-- an action that a collection of this kind may have
unfoldable pub action_word : Kind → List ℕ → Option Action
action_word kind.List word = list_action_word word
action_word kind.Set word = plain_action_word word
action_word kind.Map word = plain_action_word word
action_word _ word = None

-- the action of a collection whose line names none
abbrev pub default_action : Kind → Action
default_action kind.List = action.TailTrim
default_action _ = action.Error

-- the words `unreadable`, `create` and `drop`
unfoldable pub unreadable_word : List ℕ → Option Bool
unreadable_word word = if bytes_eq word (codes "unreadable") then Some true else None

unfoldable pub create_word : List ℕ → Option Bool
create_word word = if bytes_eq word (codes "create") then Some true else None

unfoldable pub drop_word : List ℕ → Option Bool
drop_word word = if bytes_eq word (codes "drop") then Some true else None

-- the word `delete` or `drop`
unfoldable pub take_word : List ℕ → Option Take
take_word word =
    if bytes_eq word (codes "delete") then Some taking.Delete
    else if bytes_eq word (codes "drop") then Some taking.Drop
    else None

-- what a read does with its elements, where its line may say so
abbrev pub taking_of : Option Take → Take
taking_of said = option_map_or (λ taking. taking) said taking.Keep

-- the length of an element's block
abbrev pub len_word : List ℕ → Option ℕ
len_word = number_below (2 ^ 31)

-- the number of fields that stand in a block of this length: 1 to 50,000, or 0 where it has no bytes
unfoldable pub number_of_fields : ℕ → List ℕ → Option ℕ
number_of_fields len word = if len == 0 then number_below 1 word else number_from_1 50001 word

-- a head of this command, whose answer is sent as the line says, or else as a text of its own
abbrev pub head : CollCommand → Option Answer → CollHead
head asked silent = coll_head.Collection asked (option_map_or (λ a. a) silent answer.Plain)

-- the line ends, or says `noreply`
abbrev pub ends : CollCommand → Row CollHead
ends asked = do
  silent ← noreply
  gives (head asked silent)

-- the word `pipe`
unfoldable pub pipe_word : List ℕ → Option Answer
pipe_word word = if bytes_eq word (codes "pipe") then Some answer.Pipe else None

-- the word `noreply` or `pipe`
unfoldable pub sent_word : List ℕ → Option Answer
sent_word word = if bytes_eq word (codes "noreply") then Some answer.NoReply else pipe_word word

-- the line ends, or says `noreply` or `pipe`
abbrev pub ends_or_pipes : CollCommand → Row CollHead
ends_or_pipes asked = do
  sent ← perhaps (one sent_word)
  gives (head asked sent)

-- the attributes that a line names
abbrev pub args_of : Kind → ℕ → ℤ → ℕ → Option Action → Option Bool → CreateArgs
args_of kind flags exptime maxcount action unreadable = record {
  flags = flags;
  exptime = exptime;
  maxcount = maxcount;
  action = option_map_or (λ a. a) action (default_action kind);
  readable = is_none unreadable;
}

-- <flags> <exptime> <maxcount> [<action>] [unreadable], and what follows
abbrev pub attributes : Kind → (CreateArgs → Row CollHead) → Row CollHead
attributes kind next = do
  flags ← one (number_below (2 ^ 32))
  exptime ← one exptime_word
  maxcount ← one (number_below (2 ^ 32))
  action ← perhaps (one (action_word kind))
  unreadable ← perhaps (one unreadable_word)
  next (args_of kind flags exptime maxcount action unreadable)

-- what follows the word `create`, where it is there
abbrev pub attributes_behind : Kind → (Option CreateArgs → Row CollHead) → Option Bool → Row CollHead
attributes_behind kind next None = next None
attributes_behind kind next (Some create) = attributes kind (λ args. next (Some args))

-- [create <flags> <exptime> <maxcount> [<action>] [unreadable]], and what follows
abbrev pub creation : Kind → (Option CreateArgs → Row CollHead) → Row CollHead
creation kind next = do
  create ← perhaps (one create_word)
  attributes_behind kind next create
