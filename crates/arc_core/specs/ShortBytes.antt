-- Byte strings of 1 to 31 bytes, and how they lie in place. (The ARCUS protocol's limit on byte bkeys and element flags.)
use Rattle.std.specs.Prelude.{◌≡◌, ℕ, ◌-◌, ◌≤◌, List, ◌++◌, length, take, replicate}

-- There are 1 to 31 bytes.
abbrev pub IsShort : List ℕ → Type 0
IsShort bytes = (1 ≤ length bytes) × (length bytes ≤ 31)

-- the bytes as they lie in place: with zeros behind them, 31 in all
abbrev pub in_place : List ℕ → List ℕ
in_place bytes = bytes ++ replicate (31 - length bytes) 0

-- The first bytes of this place, so many of them, are short, and zeros are behind them.
pub record IsInPlace (place : List ℕ) (len : ℕ) : Type 0 where
  pub short : IsShort (take len place)
  pub len_is : len ≡ length (take len place)
  pub padded : place ≡ in_place (take len place)
