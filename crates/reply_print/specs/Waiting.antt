-- What putting a text behind all that waits leaves.
use Rattle.std.specs.Prelude.{◌≡◌, ℕ, ◌+◌, ◌<◌, Bool, true, false, List, ◌++◌, length}

-- All of the text waits too; or nothing has changed, since it has no room, or fewer than 80 bytes to spare.
abbrev pub IsPut : (waiting waiting' text : List ℕ) → Bool → Type 0
IsPut waiting waiting' text true = waiting' ≡ waiting ++ text
IsPut waiting waiting' text false = (waiting' ≡ waiting) × (16384 < length waiting + length text + 80)

-- All of the text waits too; or a front of it does, since it has no room, or fewer than 80 bytes to spare.
abbrev pub IsPutInPart : (waiting waiting' text : List ℕ) → Bool → Type 0
IsPutInPart waiting waiting' text true = waiting' ≡ waiting ++ text
IsPutInPart waiting waiting' text false = (front : List ℕ) × (waiting' ≡ waiting ++ front) × (16384 < length waiting + length text + 80)
