-- The rows of `getattr` and `setattr`. (The ARCUS protocol; the limits are this server's own.)
use Rattle.arc_core.specs.Rows.{Row, one, all_left, gives, ◌>>=◌}
use Rattle.arc_core.specs.Words.{key_word}
use Rattle.tree_words.specs.declared.attr_commands.AttrCommand.{AttrCommand}
use Rattle.tree_words.specs.declared.attr_commands.AttrCommand.TheVariants as command
use Rattle.tree_words.specs.AttrTexts.{words_up_to, pairs_up_to}

-- getattr <key> [<name> ..], with 16 names at most
unfoldable pub getattr_row : Row AttrCommand
getattr_row = do
  key ← one key_word
  names ← all_left (words_up_to 16)
  gives (command.GetAttr key names)

-- setattr <key> <name>=<value> [<name>=<value> ..], with 16 pairs at most
unfoldable pub setattr_row : Row AttrCommand
setattr_row = do
  key ← one key_word
  pairs ← all_left (pairs_up_to 16)
  gives (command.SetAttr key pairs)
