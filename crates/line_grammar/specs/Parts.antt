-- The three words with which `incr` and `decr` make an item.
use Rattle.std.specs.Prelude.{ℕ, ◌^◌, ℤ}
use Rattle.arc_core.specs.Rows.{Part, one, both}
use Rattle.arc_core.specs.Words.{number_below, exptime_word}

-- <flags> <exptime> <initial>
abbrev pub initial_part : Part (ℕ × (ℤ × ℕ))
initial_part = both (one (number_below (2 ^ 32))) (both (one exptime_word) (one (number_below (2 ^ 64))))

-- flags, exptime and number as this part has them
abbrev pub nested : (ℕ × ℤ × ℕ) → ℕ × (ℤ × ℕ)
nested initial = (initial.0, (initial.1, initial.2))
