-- The rows of the commands on sets. (`sop` of the ARCUS protocol.)
use Rattle.std.specs.Prelude.{◌^◌, is_some, None}
use Rattle.arc_core.specs.declared.coll_commands.CollCommand.TheVariants as command
use Rattle.arc_core.specs.declared.coll_commands.CollHead.{CollHead}
use Rattle.arc_core.specs.declared.collections.Kind.TheVariants as kind
use Rattle.arc_core.specs.CollectionGrammar.{pipe_word, drop_word, take_word, taking_of, len_word, head, ends_or_pipes, creation}
use Rattle.arc_core.specs.Rows.{Row, one, perhaps, gives, ◌>>=◌}
use Rattle.arc_core.specs.Words.{key_word, number_below}

-- sop insert <key> <bytes> [create <flags> <exptime> <maxcount> [<action>] [unreadable]] [noreply|pipe]
unfoldable pub set_insert_row : Row CollHead
set_insert_row = do
  key ← one key_word
  len ← one len_word
  creation kind.Set (λ create. ends_or_pipes (command.SetInsert key len create))

-- sop delete <key> <bytes> [drop] [noreply|pipe]
unfoldable pub set_delete_row : Row CollHead
set_delete_row = do
  key ← one key_word
  len ← one len_word
  drop ← perhaps (one drop_word)
  ends_or_pipes (command.SetDelete key len (is_some drop))

-- sop exist <key> <bytes> [pipe]
unfoldable pub set_exist_row : Row CollHead
set_exist_row = do
  key ← one key_word
  len ← one len_word
  sent ← perhaps (one pipe_word)
  gives (head (command.SetExist key len) sent)

-- sop get <key> <count> [delete|drop]
unfoldable pub set_get_row : Row CollHead
set_get_row = do
  key ← one key_word
  count ← one (number_below (2 ^ 32))
  taking ← perhaps (one take_word)
  gives (head (command.SetGet key count (taking_of taking)) None)
