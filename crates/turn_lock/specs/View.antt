-- What a seat knows: its view. No code holds it.
use Rattle.std.specs.Prelude.{ℕ, ◌+◌, List, [], ◌∷◌, length, map, Some, None, Option, leb, if◌then◌else◌, ◌==◌}
use Rattle.arc_core.specs.CacheState.{CacheState, opening_state}
use Rattle.arc_core.specs.History.{Entry}

-- A seat of its own has a number. A copy has none: it carries what a seat has seen to another one. A spent view was
-- taken in by another seat, and knows nothing.
pub data Kind : Type 0 where
  numbered : Kind
  copy : Kind
  spent : Kind

-- Where a seat stands: it wants nothing, it has drawn a ticket and waits, or its ticket is served and it has the turn.
-- A ticket is the place that the call will have in the history.
pub data Turn : Type 0 where
  outside : Turn
  waits : ℕ → Turn
  served : ℕ → Turn

pub record View : Type 0 where
  pub kind : Kind
  pub number : ℕ
  -- the state that the executor stood for when the lock was made
  pub opening : CacheState
  -- the history as far as the seat has seen it
  pub seen : List Entry
  -- the shorter of two histories, where another seat's was taken in: `seen` is the longer one
  pub told : List Entry
  -- its own calls, in order
  pub mine : List Entry
  -- the numbers of the seats that were joined into it, each with that seat's calls
  pub ended : List (ℕ × List Entry)
  -- the register, which one seat has: the next number to give
  pub register : Option ℕ
  pub turn : Turn

-- the view of the first seat
abbrev pub first_view : CacheState → View
first_view state = record { kind = numbered; number = 0; opening = state; seen = []; told = []; mine = []; ended = []; register = Some 1; turn = outside }

-- the view that a join leaves behind
abbrev pub spent_view : View
spent_view = record { kind = spent; number = 0; opening = opening_state 0 0; seen = []; told = []; mine = []; ended = []; register = None; turn = outside }

-- the numbers that are with a seat: its own, and those of the seats that were joined into it
abbrev pub numbers_by : Kind → View → List ℕ
numbers_by numbered view = view.number ∷ map (λ kept. kept.0) view.ended
numbers_by copy view = []
numbers_by spent view = []

abbrev pub numbers_of : View → List ℕ
numbers_of view = numbers_by view.kind view

-- its ticket, if it has one
abbrev pub tickets_of : Turn → List ℕ
tickets_of outside = []
tickets_of (waits ticket) = ticket ∷ []
tickets_of (served ticket) = ticket ∷ []

-- 1 where it has the turn
abbrev pub turns_of : Turn → ℕ
turns_of outside = 0
turns_of (waits ticket) = 0
turns_of (served ticket) = 1

-- 1 where it has the register
abbrev pub registers_of : Option ℕ → ℕ
registers_of None = 0
registers_of (Some next) = 1

-- how often n stands in the list
abbrev pub times : ℕ → List ℕ → ℕ
times n [] = 0
times n (x ∷ xs) = (if x == n then 1 else 0) + times n xs

-- the sum over all views
abbrev pub total : (View → ℕ) → List View → ℕ
total f [] = 0
total f (view ∷ views) = f view + total f views

-- the longer and the shorter of two histories
abbrev pub longer : List Entry → List Entry → List Entry
longer one other = if leb (length one) (length other) then other else one

abbrev pub shorter : List Entry → List Entry → List Entry
shorter one other = if leb (length one) (length other) then one else other
