-- Which element flags pass a filter, and what a change makes of a flag. (The ARCUS protocol; the rules on missing and short
-- flags are this server's own.)
use Rattle.std.specs.Prelude.{◌+◌, ◌++◌, ℕ, Bool, true, false, not, nat_le, if◌then◌else◌, List, [], ◌∷◌, length, take, drop, bytes_eq, bit_and, bit_or, bit_xor, Option, Some, None}
use Rattle.std.specs.List.{list_any}
use Rattle.std.specs.Option.{option_map, option_map_or}
use Rattle.std.specs.Ordering.{nat_cmp, is_lt, is_le, is_gt, is_ge}
use Rattle.std.specs.Cmp.Lexicographic.{slice_cmp}
use Rattle.arc_core.specs.declared.filters.BitOp.{BitOp}
use Rattle.arc_core.specs.declared.filters.BitOp.TheVariants.{And, Or, Xor}
use Rattle.arc_core.specs.declared.filters.CompOp.{CompOp}
use Rattle.arc_core.specs.declared.filters.CompOp.TheVariants as comp
use Rattle.arc_core.specs.declared.filters.Filter.{Filter}
use Rattle.arc_core.specs.declared.filters.EflagChange.{EflagChange}
use Rattle.arc_core.specs.declared.filters.EflagChange.TheVariants.{Keep, Remove, Put, Combine}
use Rattle.arc_core.specs.HexText.{first_of}

-- so many of a flag's bytes from a place on; none where the flag is missing or too short
abbrev pub flag_part : ℕ → ℕ → Option (List ℕ) → Option (List ℕ)
flag_part place len None = None
flag_part place len (Some flag) = if nat_le (place + len) (length flag) then Some (take len (drop place flag)) else None

-- two bytes combined bit by bit
abbrev pub combined_byte : BitOp → ℕ → ℕ → ℕ
combined_byte And a b = bit_and a b
combined_byte Or a b = bit_or a b
combined_byte Xor a b = bit_xor a b

-- a part combined with an operand byte by byte, up to the end of the shorter
abbrev pub combination : BitOp → List ℕ → List ℕ → List ℕ
combination op [] operand = []
combination op (a ∷ part) [] = []
combination op (a ∷ part) (b ∷ operand) = combined_byte op a b ∷ combination op part operand

-- what is compared with the values: the part, combined with the operand where there is one
abbrev pub compared_bytes : Option (BitOp × List ℕ) → List ℕ → List ℕ
compared_bytes bits part = option_map_or (λ bit. combination bit.0 part bit.1) bits part

-- EQ where a value is equal, NE where none is; the others by the first byte in which the bytes and the first value differ
abbrev pub compares : CompOp → List (List ℕ) → List ℕ → Bool
compares comp.Eq values bytes = list_any (λ value. bytes_eq bytes value) values
compares comp.Ne values bytes = not (list_any (λ value. bytes_eq bytes value) values)
compares comp.Lt values bytes = is_lt (slice_cmp nat_cmp bytes (first_of values))
compares comp.Le values bytes = is_le (slice_cmp nat_cmp bytes (first_of values))
compares comp.Gt values bytes = is_gt (slice_cmp nat_cmp bytes (first_of values))
compares comp.Ge values bytes = is_ge (slice_cmp nat_cmp bytes (first_of values))

-- where there is no part, NE alone passes
abbrev pub passes_without_part : CompOp → Bool
passes_without_part comp.Ne = true
passes_without_part _ = false

-- a flag passes a filter: by its part at the filter's place, as long as a value
abbrev pub passes : Filter → Option (List ℕ) → Bool
passes filter flag =
    option_map_or (λ part. compares filter.comp filter.values (compared_bytes filter.bits part))
    (flag_part filter.fwhere (length (first_of filter.values)) flag)
    (passes_without_part filter.comp)

-- a flag with its bytes from a place on combined with an operand; none where it is missing or too short
abbrev pub combined_at : ℕ → BitOp → List ℕ → Option (List ℕ) → Option (List ℕ)
combined_at place op operand None = None
combined_at place op operand (Some flag) =
    if nat_le (place + length operand) (length flag)
    then Some (take place flag ++ combination op (drop place flag) operand ++ drop (place + length operand) flag)
    else None

-- the flag after a change; none where a bitwise change meets a missing or too short flag
abbrev pub flag_after : EflagChange → Option (List ℕ) → Option (Option (List ℕ))
flag_after Keep flag = Some flag
flag_after Remove flag = Some None
flag_after (Put new) flag = Some (Some new)
flag_after (Combine place op operand) flag = option_map Some (combined_at place op operand flag)
