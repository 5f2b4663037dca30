-- Bkeys and element flags as words of a line, and as texts. (The ARCUS protocol writes byte bkeys and flags in hexadecimal
-- digits behind `0x`; that they are printed in lower case is this server's own.)
use Rattle.std.specs.Prelude.{◌++◌, ◌^◌, ℕ, List, codes, decimal, Option, Some, None}
use Rattle.std.specs.Option.{option_map}
use Rattle.hex.specs.Hex.{encode_lower}
use Rattle.arc_core.specs.Words.{number_below}
use Rattle.arc_core.specs.declared.bkeys.Bkey.{Bkey}
use Rattle.arc_core.specs.declared.bkeys.Bkey.TheVariants.{Number, Bytes}
use Rattle.arc_core.specs.HexText.{hex_digits_of, short_bytes}

-- what a word that has digits behind `0x` spells, and else what it spells as a number of 64 bits
abbrev pub bkey_of : List ℕ → Option (List ℕ) → Option Bkey
bkey_of word (Some digits) = option_map Bytes (short_bytes digits)
bkey_of word None = option_map Number (number_below (2 ^ 64) word)

-- a bkey
unfoldable pub bkey_word : List ℕ → Option Bkey
bkey_word word = bkey_of word (hex_digits_of word)

-- bytes as a text: `0x` and two digits in lower case for each
abbrev pub hex_text : List ℕ → List ℕ
hex_text bytes = codes "0x" ++ encode_lower bytes

-- a bkey as a text: a number without leading zeros, or bytes
abbrev pub bkey_text : Bkey → List ℕ
bkey_text (Number n) = decimal n
bkey_text (Bytes bytes) = hex_text bytes

-- a flag as a text
abbrev pub eflag_text : List ℕ → List ℕ
eflag_text flag = hex_text flag
