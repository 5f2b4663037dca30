-- The rows of the key-value commands (memcached's text protocol, "Storage commands" to "Touch", and ARCUS's key-value
-- commands).
use Rattle.std.specs.Prelude.{ℕ, ◌^◌, Bool, List, bytes_eq, codes, if◌then◌else◌, Option, Some, None}
use Rattle.std.specs.Option.{option_map, option_map_or}
use Rattle.arc_core.specs.declared.commands.Command.{Command}
use Rattle.arc_core.specs.declared.commands.Command.TheVariants as command
use Rattle.arc_core.specs.declared.commands.Head.{Head}
use Rattle.arc_core.specs.declared.requests.Answer.{Answer}
use Rattle.arc_core.specs.declared.requests.Answer.TheVariants as answer
use Rattle.arc_core.specs.declared.requests.StoreVerb.{StoreVerb}
use Rattle.arc_core.specs.declared.requests.StoreVerb.TheVariants as verb
use Rattle.arc_core.specs.Rows.{Part, Row, one, both, perhaps, all_left, gives, ◌>>=◌}
use Rattle.arc_core.specs.Words.{key_word, keys_up_to, number_below, number_from_1, exptime_word, zero_word}

-- the word `noreply`
unfoldable pub noreply_word : List ℕ → Option Answer
noreply_word word = if bytes_eq word (codes "noreply") then Some answer.NoReply else None

-- [noreply]
abbrev pub noreply : Part (Option Answer)
noreply = perhaps (one noreply_word)

-- a head of this command, whose answer is sent where the line does not say `noreply`
abbrev pub head : Command → Option Answer → Head
head asked silent = record { command = asked; answer = option_map_or (λ a. a) silent answer.Plain }

-- set|add|replace|append|prepend <key> <flags> <exptime> <bytes> [noreply]
unfoldable pub store_row : StoreVerb → Row Head
store_row verb = do
  key ← one key_word
  flags ← one (number_below (2 ^ 32))
  exptime ← one exptime_word
  len ← one (number_below (2 ^ 31))
  silent ← noreply
  gives (head (command.Store verb key flags exptime len) silent)

-- cas <key> <flags> <exptime> <bytes> <unique> [noreply]
unfoldable pub cas_row : Row Head
cas_row = do
  key ← one key_word
  flags ← one (number_below (2 ^ 32))
  exptime ← one exptime_word
  len ← one (number_below (2 ^ 31))
  unique ← one (number_below (2 ^ 64))
  silent ← noreply
  gives (head (command.Store (verb.Cas unique) key flags exptime len) silent)

-- get|gets <key> [<key> ..], with 1,000 keys at most
unfoldable pub get_row : Bool → Row Head
get_row unique = do
  keys ← all_left (keys_up_to 1000)
  gives (head (command.Get keys unique) None)

-- mget <lenkeys> <numkeys>, with 1 to 1,000 keys
unfoldable pub mget_row : Row Head
mget_row = do
  len ← one (number_from_1 (2 ^ 31))
  number ← one (number_from_1 1001)
  gives (head (command.GetBlock len number) None)

-- incr|decr <key> <delta> [<flags> <exptime> <initial>] [noreply]
unfoldable pub count_row : Bool → Row Head
count_row up = do
  key ← one key_word
  delta ← one (number_below (2 ^ 64))
  initial ← perhaps (both (one (number_below (2 ^ 32))) (both (one exptime_word) (one (number_below (2 ^ 64)))))
  silent ← noreply
  gives (head (command.Count up key delta (option_map (λ i. (i.0, i.1.0, i.1.1)) initial)) silent)

-- delete <key> [0] [noreply]
unfoldable pub delete_row : Row Head
delete_row = do
  key ← one key_word
  zero ← perhaps (one zero_word)
  silent ← noreply
  gives (head (command.Delete key) silent)

-- touch <key> <exptime> [noreply]
unfoldable pub touch_row : Row Head
touch_row = do
  key ← one key_word
  exptime ← one exptime_word
  silent ← noreply
  gives (head (command.Touch key exptime) silent)

-- flush_all [noreply]
unfoldable pub flush_all_row : Row Head
flush_all_row = do
  silent ← noreply
  gives (head command.FlushAll silent)

-- version
abbrev pub version_row : Row Head
version_row = gives (head command.Version None)

-- quit
abbrev pub quit_row : Row Head
quit_row = gives (head command.Quit None)
