-- What counting answers.
use Rattle.std.specs.Prelude.{ℕ, Option, Some, None, Result, Ok, Err}
use Rattle.kv_items.specs.declared.counts.NotNumeric.{NotNumeric}

-- the number, or that there is none
abbrev pub or_not_numeric : Option ℕ → Result ℕ NotNumeric
or_not_numeric None = Err (record {})
or_not_numeric (Some n) = Ok n
