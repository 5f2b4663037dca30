-- The rows of the commands on lists. (`lop` of the ARCUS protocol.)
use Rattle.std.specs.Prelude.{is_some}
use Rattle.arc_core.specs.declared.coll_commands.CollCommand.TheVariants as command
use Rattle.arc_core.specs.declared.coll_commands.CollHead.{CollHead}
use Rattle.arc_core.specs.declared.collections.Kind.{Kind}
use Rattle.arc_core.specs.declared.collections.Kind.TheVariants as kind
use Rattle.arc_core.specs.CollectionGrammar.{index_word, index_range_word, drop_word, take_word, taking_of, len_word, head, ends, ends_or_pipes, attributes, creation}
use Rattle.arc_core.specs.Rows.{Row, one, perhaps, gives, ◌>>=◌}
use Rattle.arc_core.specs.Words.{key_word}
use Rattle.std.specs.Prelude.{None}

-- lop|sop|mop create <key> <flags> <exptime> <maxcount> [<action>] [unreadable] [noreply]
unfoldable pub create_row : Kind → Row CollHead
create_row kind = do
  key ← one key_word
  attributes kind (λ args. ends (command.Create kind key args))

-- lop insert <key> <index> <bytes> [create <flags> <exptime> <maxcount> [<action>] [unreadable]] [noreply|pipe]
unfoldable pub list_insert_row : Row CollHead
list_insert_row = do
  key ← one key_word
  index ← one index_word
  len ← one len_word
  creation kind.List (λ create. ends_or_pipes (command.ListInsert key index len create))

-- lop delete <key> <index or range> [drop] [noreply|pipe]
unfoldable pub list_delete_row : Row CollHead
list_delete_row = do
  key ← one key_word
  range ← one index_range_word
  drop ← perhaps (one drop_word)
  ends_or_pipes (command.ListDelete key range (is_some drop))

-- lop get <key> <index or range> [delete|drop]
unfoldable pub list_get_row : Row CollHead
list_get_row = do
  key ← one key_word
  range ← one index_range_word
  taking ← perhaps (one take_word)
  gives (head (command.ListGet key range (taking_of taking)) None)
