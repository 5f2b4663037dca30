-- How many bytes a call on a socket moved.
use Rattle.std.specs.Prelude.{ℕ, ◌<◌, ◌≤◌}
use Rattle.event_poll.specs.declared.link.Moved.{Moved}
use Rattle.event_poll.specs.declared.link.Moved.TheVariants as moved

-- at least one, and at most so many
abbrev pub IsWithin : Moved → ℕ → Type 0
IsWithin (moved.Some count) length = (0 < count) × (count ≤ length)
IsWithin moved.Nothing length = Unit {0}
IsWithin moved.Later length = Unit {0}
IsWithin moved.Failed length = Unit {0}
