-- Histories of calls: where one begins another, the calls of one seat, and which histories are legal.
use Rattle.std.specs.Prelude.{◌≡◌, ℕ, List, [], ◌∷◌, ◌++◌, filter, ◌==◌}
use Rattle.arc_core.specs.CacheState.{CacheState, IsState}
use Rattle.arc_core.specs.History.{Entry, Executes}

-- the first history is the beginning of the second
abbrev pub Begins : List Entry → List Entry → Type 0
Begins front whole = (rest : List Entry) × (whole ≡ front ++ rest)

-- the calls of the seat with this number, in order
abbrev pub calls_of : ℕ → List Entry → List Entry
calls_of number history = filter (λ entry. entry.seat == number) history

-- The history is legal from the old state and leads to the new one, and each state on the way keeps the rules of a
-- state: its accounted bytes are within the limit.
abbrev pub LeadsTo : CacheState → List Entry → CacheState → Type 0
LeadsTo old [] new = (new ≡ old) × IsState old
LeadsTo old (entry ∷ entries) new =
    IsState old × (middle : CacheState) × Executes old entry.second entry.request entry.reply middle × LeadsTo middle entries new

-- the history is legal from this state
abbrev pub IsLegal : CacheState → List Entry → Type 0
IsLegal opening history = (current : CacheState) × LeadsTo opening history current
