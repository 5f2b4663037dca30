-- What the elements of a tree are: a list by rising bkeys of one kind, and places in it.
use Rattle.std.specs.Prelude.{ℕ, ◌+◌, Bool, ◌≡◌, true, List, ◌∷◌, ◌++◌, length, filter, count_by, sum_by}
use Rattle.std.specs.Option.{option_map_or}
use Rattle.std.specs.List.{AllPairs}
use Rattle.std.specs.declared.cmp.Ordering.TheVariants.{Less}
use Rattle.std.specs.Ordering.{is_lt}
use Rattle.arc_core.specs.declared.bkeys.Bkey.{Bkey}
use Rattle.arc_core.specs.declared.bkeys.Bkey.TheVariants.{Number, Bytes}
use Rattle.arc_core.specs.declared.trees.Elem.{Elem}
use Rattle.arc_core.specs.BkeyOrder.{bkey_cmp, are_of_one_kind}

-- An element may stand before another: its bkey is below the other's, and both are of one kind.
pub record MayPrecede (x y : Elem) : Type 0 where
  pub below : bkey_cmp x.bkey y.bkey ≡ Less
  pub of_one_kind : are_of_one_kind x.bkey y.bkey ≡ true

-- Each element may stand before all those behind it: the bkeys rise and are of one kind.
abbrev pub IsRising : List Elem → Type 0
IsRising elements = AllPairs MayPrecede elements

-- whether an element's bkey is below this one
abbrev pub is_below : Bkey → Elem → Bool
is_below bkey element = is_lt (bkey_cmp element.bkey bkey)

-- whether an element's bkey is above this one
abbrev pub is_above : Bkey → Elem → Bool
is_above bkey element = is_lt (bkey_cmp bkey element.bkey)

-- the number of elements with smaller bkeys: the place of the bkey, or of where it would stand
abbrev pub place_of : Bkey → List Elem → ℕ
place_of bkey elements = count_by (is_below bkey) elements

-- the elements with this one in its place: behind those with smaller bkeys and before those with greater ones
abbrev pub with_element : Elem → List Elem → List Elem
with_element element elements = filter (is_below element.bkey) elements ++ element ∷ filter (is_above element.bkey) elements

-- the bytes that a bkey counts: its own, or 8 for a number
abbrev pub bkey_size : Bkey → ℕ
bkey_size (Number n) = 8
bkey_size (Bytes bytes) = length bytes

-- the stated size of an element, in bytes: 48, its bkey, its flag and its value (this server's own)
abbrev pub elem_size : Elem → ℕ
elem_size element = 48 + bkey_size element.bkey + option_map_or length element.eflag 0 + length element.value

-- the stated sizes of these elements together
abbrev pub elem_sizes : List Elem → ℕ
elem_sizes elements = sum_by elem_size elements
