-- Names of attributes, and pairs of a name and a value, as words. (The ARCUS protocol; the limit is this server's own.)
use Rattle.std.specs.Prelude.{ℕ, ◌+◌, ◌==◌, ◌&&◌, Bool, nat_lt, nat_le, if◌then◌else◌, List, length, position, take, drop, is_some, Option, Some, None}
use Rattle.std.specs.List.{list_all}

-- the words, where there are at most so many
abbrev pub words_up_to : ℕ → List (List ℕ) → Option (List (List ℕ))
words_up_to most list = if nat_le (length list) most then Some list else None

-- the byte `=`
abbrev pub is_equals : ℕ → Bool
is_equals b = b == 61

-- what stands before this place of a word, and what stands behind it
abbrev pub pair_at : List ℕ → Option ℕ → Option (List ℕ × List ℕ)
pair_at word None = None
pair_at word (Some place) = Some (take place word, drop (place + 1) word)

-- the name and the value that a pair has: what stands before its first `=`, and what stands behind it
abbrev pub pair_word : List ℕ → Option (List ℕ × List ℕ)
pair_word word = pair_at word (position is_equals word)

-- whether a word is a pair
abbrev pub is_pair : List ℕ → Bool
is_pair word = is_some (position is_equals word)

-- whether there are 1 to so many words, each of them a pair
abbrev pub are_pairs : ℕ → List (List ℕ) → Bool
are_pairs most list = nat_lt 0 (length list) && nat_le (length list) most && list_all is_pair list

-- the words, where there are 1 to so many of them and each is a pair
abbrev pub pairs_up_to : ℕ → List (List ℕ) → Option (List (List ℕ))
pairs_up_to most list = if are_pairs most list then Some list else None
