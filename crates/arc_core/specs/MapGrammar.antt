-- The rows of the commands on maps. (`mop` of the ARCUS protocol; `mop upsert` is this server's own.)
use Rattle.std.specs.Prelude.{is_some, None}
use Rattle.arc_core.specs.declared.coll_commands.CollCommand.TheVariants as command
use Rattle.arc_core.specs.declared.coll_commands.CollHead.{CollHead}
use Rattle.arc_core.specs.declared.collections.Kind.TheVariants as kind
use Rattle.arc_core.specs.CollectionGrammar.{field_word, drop_word, take_word, taking_of, len_word, number_of_fields, head, ends_or_pipes, creation}
use Rattle.arc_core.specs.Rows.{Row, one, perhaps, gives, ◌>>=◌}
use Rattle.arc_core.specs.Words.{key_word}

-- mop insert <key> <field> <bytes> [create <flags> <exptime> <maxcount> [<action>] [unreadable]] [noreply|pipe]
unfoldable pub map_insert_row : Row CollHead
map_insert_row = do
  key ← one key_word
  field ← one field_word
  len ← one len_word
  creation kind.Map (λ create. ends_or_pipes (command.MapInsert key field len create))

-- mop update <key> <field> <bytes> [noreply|pipe]
unfoldable pub map_update_row : Row CollHead
map_update_row = do
  key ← one key_word
  field ← one field_word
  len ← one len_word
  ends_or_pipes (command.MapUpdate key field len)

-- mop upsert <key> <field> <bytes> [create <flags> <exptime> <maxcount> [<action>] [unreadable]] [noreply|pipe]
unfoldable pub map_upsert_row : Row CollHead
map_upsert_row = do
  key ← one key_word
  field ← one field_word
  len ← one len_word
  creation kind.Map (λ create. ends_or_pipes (command.MapUpsert key field len create))

-- mop delete <key> <lenfields> <numfields> [drop] [noreply|pipe]
unfoldable pub map_delete_row : Row CollHead
map_delete_row = do
  key ← one key_word
  len ← one len_word
  number ← one (number_of_fields len)
  drop ← perhaps (one drop_word)
  ends_or_pipes (command.MapDelete key len number (is_some drop))

-- mop get <key> <lenfields> <numfields> [delete|drop]
unfoldable pub map_get_row : Row CollHead
map_get_row = do
  key ← one key_word
  len ← one len_word
  number ← one (number_of_fields len)
  taking ← perhaps (one take_word)
  gives (head (command.MapGet key len number (taking_of taking)) None)
