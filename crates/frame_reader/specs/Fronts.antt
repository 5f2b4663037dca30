-- Whole units at the front of a piece of the stream.
use Rattle.std.specs.Prelude.{◌≡◌, ℕ, ◌+◌, ◌<◌, ◌≤◌, List, [], ◌∷◌, ◌++◌, length, take, drop}
use Rattle.arc_core.specs.Framing.{IsLine}

-- The first bytes of the piece, so many of them, are a line, which reads as this text.
pub record IsFrontLine (piece text : List ℕ) (count : ℕ) : Type 0 where
  pub some : 0 < count
  pub within : count ≤ length piece
  pub is_line : IsLine (take count piece) text

-- Behind the first bytes of the piece, so many as `at`, stand `len` bytes, which are this block, and CR LF, up to `end`.
pub record IsFrontBlock (piece : List ℕ) (at len : ℕ) (block : List ℕ) (end : ℕ) : Type 0 where
  pub within : end ≤ length piece
  pub end_is : end ≡ at + len + 2
  pub len_is : length block ≡ len
  pub chunk_is : drop at (take end piece) ≡ block ++ 13 ∷ 10 ∷ []
