-- What a legal history tells of each of its places.
use Rattle.std.specs.Prelude.{List, ◌++◌}
use Rattle.arc_core.specs.CacheState.{CacheState, IsState}
use Rattle.arc_core.specs.History.{Entry, Replays}
use Rattle.turn_lock.specs.Calls.{LeadsTo}

-- A history that leads from one state to another replays from the one to the other.
abbrev pub LegalIsReplayed : Type 0
LegalIsReplayed = (old : CacheState) (history : List Entry) (new : CacheState) → LeadsTo old history new → Replays old history new

-- At each place of it the state keeps the rules: its accounted bytes are within the limit, and those of the sticky items
-- within their share.
abbrev pub EachPlaceKeepsTheRules : Type 0
EachPlaceKeepsTheRules =
    (old : CacheState) (front rest : List Entry) (new : CacheState) → LeadsTo old (front ++ rest) new
    → (middle : CacheState) × LeadsTo old front middle × IsState middle × LeadsTo middle rest new
