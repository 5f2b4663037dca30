-- The rule on the keys of items (this server's own; memcached allows 250 bytes).
use Rattle.std.specs.Prelude.{◌≡◌, ◌==◌, ◌&&◌, not, nat_lt, if◌then◌else◌, ℕ, Bool, List, length, position, Option, Some, None, Result, Ok, Err}
use Rattle.std.specs.Option.{option_map}
use Rattle.arc_core.specs.declared.keys.KeyFault.{KeyFault}
use Rattle.arc_core.specs.declared.keys.KeyFault.TheVariants.{Empty, TooLong, BadByte}

-- a byte that a key may have: 33 to 126, or 128 to 255
abbrev pub is_key_byte : ℕ → Bool
is_key_byte b = nat_lt 32 b && not (b == 127)

-- what is wrong with a key, the first of these: no byte, more than 16,000 bytes, a byte that no key has
abbrev pub key_fault : List ℕ → Option KeyFault
key_fault bytes =
    if length bytes == 0 then Some Empty
    else if nat_lt 16000 (length bytes) then Some (TooLong (length bytes))
    else option_map BadByte (position (λ b. not (is_key_byte b)) bytes)

-- the bytes of a key: nothing is wrong with them
abbrev pub IsKey : List ℕ → Type 0
IsKey bytes = key_fault bytes ≡ None

-- a key is read where nothing is wrong with it, and else the fault is told
abbrev pub key_read : List ℕ → Option KeyFault → Result (List ℕ) KeyFault
key_read bytes None = Ok bytes
key_read bytes (Some fault) = Err fault
