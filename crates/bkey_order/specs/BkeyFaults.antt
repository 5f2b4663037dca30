-- What is wrong with a word that is no bkey, or no element flag. (This server's own.)
use Rattle.std.specs.Prelude.{◌==◌, ◌+◌, ◌%◌, ◌^◌, ℕ, not, nat_lt, nat_le, if◌then◌else◌, List, length, position, Option, Some, None}
use Rattle.std.specs.Option.{option_map, option_or}
use Rattle.std.specs.Char.{is_ascii_digit, is_ascii_hexdigit}
use Rattle.arc_core.specs.Words.{number_of}
use Rattle.arc_core.specs.HexText.{hex_digits_of}
use Rattle.bkey_order.specs.declared.faults.BkeyFault.{BkeyFault}
use Rattle.bkey_order.specs.declared.faults.BkeyFault.TheVariants.{Empty, BadDigit, OddDigits, TooLong, TooBig}

-- the first byte of a word that is no hexadecimal digit, where two bytes stand before the digits
abbrev pub bad_hex_digit : List ℕ → Option BkeyFault
bad_hex_digit digits = option_map (λ place. BadDigit (place + 2)) (position (λ b. not (is_ascii_hexdigit b)) digits)

-- what is wrong with the number of hexadecimal digits: it is odd, or above 62
abbrev pub hex_length_fault : List ℕ → Option BkeyFault
hex_length_fault digits =
    if length digits % 2 == 1 then Some OddDigits
    else if nat_lt 62 (length digits) then Some TooLong
    else None

-- what is wrong with what stands behind `0x`, the first of these: nothing stands there, a bad digit, the number of digits
abbrev pub hex_fault : List ℕ → Option BkeyFault
hex_fault digits = if length digits == 0 then Some Empty else option_or (bad_hex_digit digits) (hex_length_fault digits)

-- the first byte of a word that is no decimal digit
abbrev pub bad_digit : List ℕ → Option BkeyFault
bad_digit word = option_map BadDigit (position (λ b. not (is_ascii_digit b)) word)

-- what is wrong with decimal digits: there are more than 20 of them, or the number needs more than 64 bits
abbrev pub size_fault : List ℕ → Option BkeyFault
size_fault digits =
    if nat_lt 20 (length digits) then Some TooLong
    else if nat_le (2 ^ 64) (number_of digits) then Some TooBig
    else None

-- what is wrong with a number, the first of these: no digit, a bad digit, its size
abbrev pub number_fault : List ℕ → Option BkeyFault
number_fault word = if length word == 0 then Some Empty else option_or (bad_digit word) (size_fault word)

-- what is wrong with a bkey: with what stands behind its `0x`, and else with the number
abbrev pub bkey_fault_by : List ℕ → Option (List ℕ) → Option BkeyFault
bkey_fault_by word (Some digits) = hex_fault digits
bkey_fault_by word None = number_fault word

-- what is wrong with a bkey
unfoldable pub bkey_fault : List ℕ → Option BkeyFault
bkey_fault word = bkey_fault_by word (hex_digits_of word)

-- what is wrong with a flag: there is no word, or it does not begin with `0x`, or what stands behind that is wrong
abbrev pub eflag_fault_by : List ℕ → Option (List ℕ) → Option BkeyFault
eflag_fault_by word (Some digits) = hex_fault digits
eflag_fault_by word None = if length word == 0 then Some Empty else Some (BadDigit 0)

-- what is wrong with a flag
unfoldable pub eflag_fault : List ℕ → Option BkeyFault
eflag_fault word = eflag_fault_by word (hex_digits_of word)
