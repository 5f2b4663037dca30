-- The rows of the commands on trees. (`bop` of the ARCUS protocol; the limits are this server's own.)
use Rattle.std.specs.Prelude.{ℕ, ◌^◌, Bool, false, List, is_some, Option, None}
use Rattle.std.specs.Option.{option_map_or}
use Rattle.arc_core.specs.declared.bkeys.BkeyRange.{BkeyRange}
use Rattle.arc_core.specs.declared.coll_commands.CollCommand.TheVariants as coll_command
use Rattle.arc_core.specs.declared.coll_commands.CollHead.{CollHead}
use Rattle.arc_core.specs.declared.collections.Kind.TheVariants as kind
use Rattle.arc_core.specs.declared.filters.Filter.{Filter}
use Rattle.arc_core.specs.declared.requests.Answer.{Answer}
use Rattle.arc_core.specs.declared.requests.Answer.TheVariants as answer
use Rattle.arc_core.specs.BkeyText.{bkey_word}
use Rattle.arc_core.specs.CollectionGrammar.{drop_word, take_word, taking_of, len_word, sent_word, ends}
use Rattle.arc_core.specs.HexText.{eflag_word}
use Rattle.arc_core.specs.Rows.{Row, one, perhaps, gives, ◌>>=◌}
use Rattle.arc_core.specs.Words.{key_word, number_below}
use Rattle.tree_words.specs.declared.commands.TreeCommand.{TreeCommand}
use Rattle.tree_words.specs.declared.commands.TreeCommand.TheVariants as command
use Rattle.tree_words.specs.declared.commands.TreeHead.{TreeHead}
use Rattle.tree_words.specs.TreeGrammar.{bkey_range_word, filtered, numbers_part, counted_by, read_of, changed, initial_part, initial_of, flag_of, tree_attributes, tree_creation, sent_or_getrim_word}

-- a head of this command, whose answer is sent as the line says, or else as a text of its own
abbrev pub tree_head : TreeCommand → Option Answer → TreeHead
tree_head asked sent = record { command = asked; answer = option_map_or (λ a. a) sent answer.Plain }

-- the line ends, or says `noreply` or `pipe`
abbrev pub tree_ends_or_pipes : TreeCommand → Row TreeHead
tree_ends_or_pipes asked = do
  sent ← perhaps (one sent_word)
  gives (tree_head asked sent)

-- how an insert's answer is sent, and whether it has the elements that are trimmed: as the last word says, or else as a text
-- of its own, without them
abbrev pub said_or_plain : Option (Answer × Bool) → Answer × Bool
said_or_plain said = option_map_or (λ a. a) said (answer.Plain, false)

-- the head of an insert that is answered so
abbrev pub insert_head : (Bool → TreeCommand) → Answer × Bool → TreeHead
insert_head asked said = record { command = asked said.1; answer = said.0 }

-- the line ends, or says `noreply`, `pipe` or `getrim`
abbrev pub ends_or_trims : (Bool → TreeCommand) → Row TreeHead
ends_or_trims asked = do
  said ← perhaps (one sent_or_getrim_word)
  gives (insert_head asked (said_or_plain said))

-- bop create <key> <flags> <exptime> <maxcount> [<action>] [unreadable] [noreply]
unfoldable pub tree_create_row : Row CollHead
tree_create_row = do
  key ← one key_word
  tree_attributes (λ args. ends (coll_command.Create kind.Tree key args))

-- bop insert <key> <bkey> [<eflag>] <bytes> [create <flags> <exptime> <maxcount> [<action>] [unreadable]] [noreply|pipe|getrim]
unfoldable pub tree_insert_row : Row TreeHead
tree_insert_row = do
  key ← one key_word
  bkey ← one bkey_word
  eflag ← perhaps (one eflag_word)
  len ← one len_word
  tree_creation (λ create. ends_or_trims (command.TreeInsert key bkey eflag len create))

-- bop upsert <key> <bkey> [<eflag>] <bytes> [create <flags> <exptime> <maxcount> [<action>] [unreadable]] [noreply|pipe|getrim]
unfoldable pub tree_upsert_row : Row TreeHead
tree_upsert_row = do
  key ← one key_word
  bkey ← one bkey_word
  eflag ← perhaps (one eflag_word)
  len ← one len_word
  tree_creation (λ create. ends_or_trims (command.TreeUpsert key bkey eflag len create))

-- bop update <key> <bkey> [[<fwhere> <bitwop>] <fvalue>] <bytes> [noreply|pipe]
unfoldable pub tree_update_row : Row TreeHead
tree_update_row = do
  key ← one key_word
  bkey ← one bkey_word
  changed (λ change len. tree_ends_or_pipes (command.TreeUpdate key bkey change len))

-- [<count>] [drop] [noreply|pipe]
abbrev pub tree_delete_rest : List ℕ → BkeyRange → Option Filter → Row TreeHead
tree_delete_rest key range filter = do
  count ← perhaps (one (number_below (2 ^ 32)))
  drop ← perhaps (one drop_word)
  tree_ends_or_pipes (command.TreeDelete key (read_of range filter (0, option_map_or (λ n. n) count 0)) (is_some drop))

-- bop delete <key> <bkey or range> [<filter>] [<count>] [drop] [noreply|pipe]
unfoldable pub tree_delete_row : Row TreeHead
tree_delete_row = do
  key ← one key_word
  range ← one bkey_range_word
  filtered (tree_delete_rest key range)

-- [[<offset>] <count>] [delete|drop]
abbrev pub tree_get_rest : List ℕ → BkeyRange → Option Filter → Row TreeHead
tree_get_rest key range filter = do
  numbers ← perhaps numbers_part
  taking ← perhaps (one take_word)
  gives (tree_head (command.TreeGet key (read_of range filter (counted_by numbers)) (taking_of taking)) None)

-- bop get <key> <bkey or range> [<filter>] [[<offset>] <count>] [delete|drop]
unfoldable pub tree_get_row : Row TreeHead
tree_get_row = do
  key ← one key_word
  range ← one bkey_range_word
  filtered (tree_get_rest key range)

-- bop count <key> <bkey or range> [<filter>]
unfoldable pub tree_count_row : Row TreeHead
tree_count_row = do
  key ← one key_word
  range ← one bkey_range_word
  filtered (λ filter. gives (tree_head (command.TreeCount key range filter) None))

-- bop incr|decr <key> <bkey> <delta> [<initial> [<eflag>]] [noreply|pipe]
unfoldable pub tree_arith_row : Bool → Row TreeHead
tree_arith_row up = do
  key ← one key_word
  bkey ← one bkey_word
  delta ← one (number_below (2 ^ 64))
  initial ← perhaps initial_part
  tree_ends_or_pipes (command.TreeArith up key bkey delta (initial_of initial) (flag_of initial))
