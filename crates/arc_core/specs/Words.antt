-- Words of a line or block, and what single words spell. (The memcached protocol separates words by a space.)
use Rattle.std.specs.Prelude.{◌==◌, ◌∷◌, ◌&&◌, not, ℕ, ◌+◌, ◌-◌, ◌*◌, ◌^◌, nat_lt, nat_le, if◌then◌else◌, Bool, List, length, drop, filter, fold, slice_index, bytes_eq, codes, is_none, All, Option, Some, None, ℤ, pos, ◌-ℤ◌}
use Rattle.std.specs.Option.{option_and_then, option_map}
use Rattle.std.specs.Borrow.{Bor}
use Rattle.std.specs.List.{slice_split, list_all}
use Rattle.std.specs.Char.{is_ascii_digit}
use Rattle.arc_core.specs.Key.{key_fault, IsKey}

-- the byte that separates words
abbrev pub is_space : ℕ → Bool
is_space b = b == 32

-- a byte of a word
abbrev pub is_other : ℕ → Bool
is_other b = not (b == 32)

-- the longest runs of bytes other than the space
abbrev pub words : List ℕ → List (List ℕ)
words text = filter (λ word. nat_lt 0 (length word)) (slice_split is_space text)

-- words, and those behind a first one, where there is one
abbrev pub words_left : Option (Bor (List ℕ)) → List (List ℕ) → List (List ℕ)
words_left None list = list
words_left (Some first) list = first.now ∷ list

-- the words of a text, and of one that stands behind a first word, where there is one
abbrev pub words_from : Option (Bor (List ℕ)) → List ℕ → List (List ℕ)
words_from first text = words_left first (words text)

-- the number that decimal digits spell
abbrev pub number_of : List ℕ → ℕ
number_of digits = fold (λ n digit. 10 * n + (digit - 48)) 0 digits

-- 1 to 20 decimal digits
abbrev pub is_numeral : List ℕ → Bool
is_numeral word = nat_lt 0 (length word) && nat_le (length word) 20 && list_all is_ascii_digit word

-- a number below the bound; leading zeros are allowed, and only the value counts
unfoldable pub number_below : ℕ → List ℕ → Option ℕ
number_below bound word = if is_numeral word && nat_lt (number_of word) bound then Some (number_of word) else None

-- such a number that is not 0
unfoldable pub number_from_1 : ℕ → List ℕ → Option ℕ
number_from_1 bound word = if is_numeral word && nat_lt 0 (number_of word) && nat_lt (number_of word) bound then Some (number_of word) else None

-- an exptime: a number of 32 bits, or a minus sign and a number to 2,147,483,648
unfoldable pub exptime_word : List ℕ → Option ℤ
exptime_word word =
    if slice_index word 0 == 45 then option_map (λ n. pos 0 -ℤ pos n) (number_below (2 ^ 31 + 1) (drop 1 word))
    else option_map pos (number_below (2 ^ 32) word)

-- the word `0`, and no other spelling of the number
unfoldable pub zero_word : List ℕ → Option ℕ
zero_word word = if bytes_eq word (codes "0") then Some 0 else None

-- a key
unfoldable pub key_word : List ℕ → Option (List ℕ)
key_word word = if is_none (key_fault word) then Some word else None

-- keys and nothing else
abbrev pub AreKeys : List (List ℕ) → Type 0
AreKeys list = All IsKey list

-- whether each word is a key
abbrev pub are_keys : List (List ℕ) → Bool
are_keys list = list_all (λ word. is_none (key_fault word)) list

-- how many words there are, where there are at most so many of them and each is a key
unfoldable pub key_count : ℕ → List (List ℕ) → Option ℕ
key_count most list = if nat_le (length list) most && are_keys list then Some (length list) else None

-- the words, where there are at most so many of them and each is a key
unfoldable pub at_most_keys : ℕ → List (List ℕ) → Option (List (List ℕ))
at_most_keys most list = if nat_le (length list) most && are_keys list then Some list else None

-- the words, where there are exactly so many of them and each is a key
unfoldable pub keys_counted : ℕ → List (List ℕ) → Option (List (List ℕ))
keys_counted number list = if length list == number && are_keys list then Some list else None

-- the words, where each has 250 bytes at most, as a field of a map has
abbrev pub short_words : List (List ℕ) → Option (List (List ℕ))
short_words list = if list_all (λ word. nat_le (length word) 250) list then Some list else None

-- the words, where there are exactly so many of them and each is a field of a map: a key of 250 bytes at most
abbrev pub fields_counted : ℕ → List (List ℕ) → Option (List (List ℕ))
fields_counted number list = option_and_then short_words (keys_counted number list)

-- the words, where there are 1 to so many of them and each is a key
unfoldable pub keys_up_to : ℕ → List (List ℕ) → Option (List (List ℕ))
keys_up_to most list = if nat_lt 0 (length list) && nat_le (length list) most && are_keys list then Some list else None
