-- Worked examples of bkeys, element flags and filters that compute.
use Rattle.std.specs.Prelude.{◌≡◌, ℕ, true, false, List, [], ◌∷◌, map, codes, Option, Some, None, refl}
use Rattle.std.specs.declared.cmp.Ordering.TheVariants.{Less, Greater}
use Rattle.hex.proofs.OnLiterals.{hex_on_literals}
use Rattle.arc_core.specs.declared.bkeys.Bkey.{Bkey}
use Rattle.arc_core.specs.declared.bkeys.Bkey.TheVariants.{Number, Bytes}
use Rattle.arc_core.specs.declared.bkeys.BkeyRange.{BkeyRange}
use Rattle.arc_core.specs.declared.filters.BitOp.TheVariants.{And, Or, Xor}
use Rattle.arc_core.specs.declared.filters.CompOp.{CompOp}
use Rattle.arc_core.specs.declared.filters.CompOp.TheVariants as comp
use Rattle.arc_core.specs.declared.filters.Filter.{Filter}
use Rattle.arc_core.specs.declared.filters.EflagChange.TheVariants.{Remove, Combine}
use Rattle.arc_core.specs.Words.{number_below}
use Rattle.arc_core.specs.BkeyOrder.{bkey_cmp, span}
use Rattle.arc_core.specs.HexText.{short_bytes, eflag_word, flag_words}
use Rattle.arc_core.specs.BkeyText.{bkey_word}
use Rattle.arc_core.specs.Filter.{passes, flag_after}

-- a proper prefix is smaller, and the first byte that differs decides before any length
prefix_is_smaller : bkey_cmp (Bytes (0 ∷ [])) (Bytes (0 ∷ 0 ∷ [])) ≡ Less
prefix_is_smaller = refl

first_difference_decides : bkey_cmp (Bytes (1 ∷ [])) (Bytes (0 ∷ 0 ∷ [])) ≡ Greater
first_difference_decides = refl

-- the greatest number is below the least byte bkey
numbers_are_below_bytes : bkey_cmp (Number 18446744073709551615) (Bytes (0 ∷ [])) ≡ Less
numbers_are_below_bytes = refl

-- one to four
abbrev some_bkeys : List Bkey
some_bkeys = Number 1 ∷ Number 2 ∷ Number 3 ∷ Number 4 ∷ []

abbrev from_to : Bkey → Bkey → BkeyRange
from_to first last = record { first = first; last = last }

span_upwards : span (λ bkey. bkey) (from_to (Number 2) (Number 9)) some_bkeys ≡ Number 2 ∷ Number 3 ∷ Number 4 ∷ []
span_upwards = refl

span_downwards : span (λ bkey. bkey) (from_to (Number 3) (Number 0)) some_bkeys ≡ Number 3 ∷ Number 2 ∷ Number 1 ∷ []
span_downwards = refl

span_of_one : span (λ bkey. bkey) (from_to (Number 3) (Number 3)) some_bkeys ≡ Number 3 ∷ []
span_of_one = refl

-- leading zeros count for nothing
reads_number : bkey_word (codes "007") ≡ Some (Number 7)
unfolding bkey_word number_below
reads_number = refl

reads_greatest_number : bkey_word (codes "18446744073709551615") ≡ Some (Number 18446744073709551615)
unfolding bkey_word number_below
reads_greatest_number = refl

refuses_number_above : bkey_word (codes "18446744073709551616") ≡ None
unfolding bkey_word number_below
refuses_number_above = refl

-- digits of either case
reads_bytes : bkey_word (codes "0x00fF") ≡ Some (Bytes (0 ∷ 255 ∷ []))
unfolding bkey_word short_bytes hex_on_literals
reads_bytes = refl

refuses_odd_digits : bkey_word (codes "0x001") ≡ None
unfolding bkey_word short_bytes hex_on_literals
refuses_odd_digits = refl

-- `0X` is no prefix
refuses_upper_prefix : eflag_word (codes "0X11") ≡ None
unfolding eflag_word
refuses_upper_prefix = refl

reads_filter_values : flag_words (codes "0x01,0x02") ≡ Some ((1 ∷ []) ∷ (2 ∷ []) ∷ [])
unfolding flag_words eflag_word short_bytes hex_on_literals
reads_filter_values = refl

-- values of two lengths, and a comma with nothing behind it
refuses_two_lengths : flag_words (codes "0x01,0x0002") ≡ None
unfolding flag_words eflag_word short_bytes hex_on_literals
refuses_two_lengths = refl

refuses_comma_at_end : flag_words (codes "0x01,") ≡ None
unfolding flag_words eflag_word short_bytes hex_on_literals
refuses_comma_at_end = refl

-- the filter `0 & 0x0f EQ 0x01,0x02`, and its like with another comparison
abbrev low_four_bits : CompOp → Filter
low_four_bits comp = record { fwhere = 0; bits = Some (And, 15 ∷ []); comp = comp; values = (1 ∷ []) ∷ (2 ∷ []) ∷ [] }

-- elements with the flags 0x11, 0x22 and 0x33, and one without a flag
abbrev some_flags : List (Option (List ℕ))
some_flags = Some (17 ∷ []) ∷ Some (34 ∷ []) ∷ Some (51 ∷ []) ∷ None ∷ []

two_of_four_are_equal : map (passes (low_four_bits comp.Eq)) some_flags ≡ true ∷ true ∷ false ∷ false ∷ []
two_of_four_are_equal = refl

missing_flag_is_unequal : map (passes (low_four_bits comp.Ne)) some_flags ≡ false ∷ false ∷ true ∷ true ∷ []
missing_flag_is_unequal = refl

-- the part at byte 1, of two bytes, against 0x0203
abbrev second_and_third : CompOp → Filter
second_and_third comp = record { fwhere = 1; bits = None; comp = comp; values = (2 ∷ 3 ∷ []) ∷ [] }

part_and_not_whole_flag : passes (second_and_third comp.Eq) (Some (1 ∷ 2 ∷ 3 ∷ 4 ∷ [])) ≡ true
part_and_not_whole_flag = refl

bytes_compare_one_by_one : passes (second_and_third comp.Gt) (Some (0 ∷ 3 ∷ 0 ∷ [])) ≡ true
bytes_compare_one_by_one = refl

short_flag_passes_no_order : passes (second_and_third comp.Le) (Some (1 ∷ 2 ∷ [])) ≡ false
short_flag_passes_no_order = refl

short_flag_is_unequal : passes (second_and_third comp.Ne) (Some (1 ∷ 2 ∷ [])) ≡ true
short_flag_is_unequal = refl

-- `0 | 0xf0` on 0x0f
or_of_a_flag : flag_after (Combine 0 Or (240 ∷ [])) (Some (15 ∷ [])) ≡ Some (Some (255 ∷ []))
or_of_a_flag = refl

removes_a_flag : flag_after Remove (Some (255 ∷ [])) ≡ Some None
removes_a_flag = refl

-- `0 & 0x01` on an element without a flag, and on one byte too few
refuses_missing_flag : flag_after (Combine 0 And (1 ∷ [])) None ≡ None
refuses_missing_flag = refl

refuses_short_flag : flag_after (Combine 1 And (1 ∷ [])) (Some (15 ∷ [])) ≡ None
refuses_short_flag = refl

-- bytes before and behind the operand stay
xor_in_the_middle : flag_after (Combine 1 Xor (255 ∷ [])) (Some (1 ∷ 2 ∷ 3 ∷ [])) ≡ Some (Some (1 ∷ 253 ∷ 3 ∷ []))
xor_in_the_middle = refl
