-- Short byte strings in hexadecimal digits, and lists of filter values. (The ARCUS protocol; the limits are this server's own.)
use Rattle.std.specs.Prelude.{◌==◌, ◌&&◌, ℕ, Bool, nat_lt, nat_le, if◌then◌else◌, List, [], ◌∷◌, length, take, drop, bytes_eq, codes, is_some, All, true, ◌≡◌, Option, Some, None}
use Rattle.std.specs.List.{slice_split, filter_map, list_all}
use Rattle.std.specs.Option.{option_and_then}
use Rattle.std.specs.Result.{result_ok}
use Rattle.std.specs.Borrow.{Bor}
use Rattle.hex.specs.Hex.{decode_of}

-- what stands behind `0x`, where a word begins with it
abbrev pub hex_digits_of : List ℕ → Option (List ℕ)
hex_digits_of word = if bytes_eq (take 2 word) (codes "0x") then Some (drop 2 word) else None

-- the 1 to 31 bytes that digits of either case spell, two digits a byte
unfoldable pub short_bytes : List ℕ → Option (List ℕ)
short_bytes digits = if nat_lt 0 (length digits) && nat_le (length digits) 62 then result_ok (decode_of digits) else None

-- an element flag
unfoldable pub eflag_word : List ℕ → Option (List ℕ)
eflag_word word = option_and_then short_bytes (hex_digits_of word)

-- the byte between filter values
abbrev pub is_comma : ℕ → Bool
is_comma b = b == 44

-- the parts of a word between its commas
abbrev pub comma_parts : List ℕ → List (List ℕ)
comma_parts word = slice_split is_comma word

-- the parts of what is left of a word
abbrev pub parts_left : Option (Bor (List ℕ)) → List (List ℕ)
parts_left None = []
parts_left (Some text) = comma_parts text.now

-- the first of a list, or nothing of an empty one
abbrev pub first_of : List (List ℕ) → List ℕ
first_of [] = []
first_of (first ∷ more) = first

-- a flag whose word has this length
abbrev pub is_flag_of : ℕ → List ℕ → Bool
is_flag_of len part = length part == len && is_some (eflag_word part)

-- 1 to 100 flags, all of one length
abbrev pub are_filter_values : List (List ℕ) → Bool
are_filter_values parts = nat_le (length parts) 100 && list_all (is_flag_of (length (first_of parts))) parts

-- Each word is a flag.
abbrev pub AreFlags : List (List ℕ) → Type 0
AreFlags parts = All (λ part. is_some (eflag_word part) ≡ true) parts

-- the flags among some words
abbrev pub flags_of : List (List ℕ) → List (List ℕ)
flags_of parts = filter_map eflag_word parts

-- a list of filter values: 1 to 100 flags of one length, with commas between them
unfoldable pub flag_words : List ℕ → Option (List (List ℕ))
flag_words word = if are_filter_values (comma_parts word) then Some (flags_of (comma_parts word)) else None
