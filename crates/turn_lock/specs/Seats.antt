-- What contracts see of a seat, and what the calls of the lock do to it.
use Rattle.std.specs.Prelude.{◌≡◌, ℕ, ◌+◌, ◌≤◌, List, [], ◌∷◌, ◌++◌, length, map, Some, None, Option, IsSomeAnd}
use Rattle.std.specs.List.{AllByRecursion}
use Rattle.arc_core.specs.CacheState.{CacheState}
use Rattle.arc_core.specs.History.{Entry}
use Rattle.arc_core.specs.PlainRequest.{PlainRequest}
use Rattle.arc_core.specs.declared.replies.Reply.{Reply}
use Rattle.atomic_table.specs.Seated.{TableId}
use Rattle.atomic_table.specs.Table.{Me}
use Rattle.turn_lock.specs.Calls.{Begins, calls_of, LeadsTo, IsLegal}
use Rattle.turn_lock.specs.View.{numbered, outside, View, longer, times}
use Rattle.turn_lock.specs.Moves.{next_number, first_register}
use Rattle.turn_lock.specs.Rule.{once_within}

pub record SeatView : Type 0 where
  -- which lock it is a seat of
  pub lock : TableId
  pub number : ℕ
  -- the state that the executor stood for when the lock was made
  pub opening : CacheState
  -- the history as far as the seat has seen it
  pub seen : List Entry
  -- its own calls, in order
  pub mine : List Entry
  -- the numbers of the seats that were joined into it, each with that seat's calls
  pub ended : List (ℕ × List Entry)
  -- the register, which one seat of the lock has: the next number to give
  pub register : Option ℕ

abbrev pub seat_view : TableId → View → SeatView
seat_view lock view =
    record { lock = lock; number = view.number; opening = view.opening; seen = view.seen; mine = view.mine; ended = view.ended; register = view.register }

-- between two calls a seat has no ticket and holds nothing
abbrev pub IsAtRest : {E : Type 0} → Me E View → Type 0
IsAtRest me = (me.0.kind ≡ numbered) × (me.0.turn ≡ outside) × (me.1 ≡ [])

-- the first seat of a lock
abbrev pub first_seat : TableId → CacheState → SeatView
first_seat lock state = record { lock = lock; number = 0; opening = state; seen = []; mine = []; ended = []; register = Some 1 }

-- the entry of a call
abbrev pub entry_of : ℕ → ℕ → ℕ → PlainRequest → Reply → Entry
entry_of number session second request reply = record { seat = number; session = session; second = second; request = request; reply = reply }

abbrev pub entry_by : View → ℕ → ℕ → PlainRequest → Reply → Entry
entry_by view session second request reply = entry_of view.number session second request reply

-- a seat of this lock, whose table has two words and one slot
abbrev pub IsSeatOf : TableId → TableId → Type 0
IsSeatOf lock seat = (seat ≡ lock) × (lock.words ≡ 2) × (lock.slots ≡ 1)

-- One call was made. The history has grown by entries of other seats, and last by this entry, of which the own calls
-- have grown by it alone. It is legal, and what it has of this seat are the own calls.
pub record IsCalled (old : SeatView) (entry : Entry) (new : SeatView) : Type 0 where
  pub between : List Entry
  pub others : calls_of old.number between ≡ []
  pub seat : new ≡ record old { seen = (old.seen ++ between) ++ entry ∷ []; mine = old.mine ++ entry ∷ [] }
  pub legal : IsLegal old.opening ((old.seen ++ between) ++ entry ∷ [])
  pub own : calls_of old.number ((old.seen ++ between) ++ entry ∷ []) ≡ old.mine ++ entry ∷ []

-- it has the register, and a number is left
abbrev pub CanSplit : SeatView → Type 0
CanSplit seat = IsSomeAnd seat.register (λ next. next ≤ 4096)

abbrev pub after_split : SeatView → SeatView
after_split seat = record seat { register = Some (next_number seat.register + 1) }

-- the new seat has seen as much, and has made no calls
abbrev pub split_seat : SeatView → SeatView
split_seat seat =
    record { lock = seat.lock; number = next_number seat.register; opening = seat.opening; seen = seat.seen; mine = []; ended = []; register = None }

-- the other seat's calls are kept under its number, and what it kept goes along
abbrev pub joined_seat : SeatView → SeatView → SeatView
joined_seat seat other =
    record seat {
      seen = longer seat.seen other.seen;
      ended = seat.ended ++ (other.number, other.mine) ∷ other.ended;
      register = first_register seat.register other.register;
    }

-- The seat has seen a legal history, of which both histories are beginnings. Of the seat it has the seat's own calls.
pub record IsMet (old : SeatView) (met : SeatView) (new : SeatView) : Type 0 where
  pub seat : new ≡ record old { seen = new.seen }
  pub own : Begins old.seen new.seen
  pub other : Begins met.seen new.seen
  pub legal : IsLegal old.opening new.seen
  pub calls : calls_of old.number new.seen ≡ old.mine

-- the numbers that are with a seat
abbrev pub numbers_with : SeatView → List ℕ
numbers_with seat = seat.number ∷ map (λ kept. kept.0) seat.ended

-- It has the register, and as many numbers are with it as were given: so all, since none is given twice. That is, each
-- other seat was joined into it, directly or through others.
abbrev pub HasAll : SeatView → Type 0
HasAll seat = IsSomeAnd seat.register (λ next. length (numbers_with seat) ≡ next)

-- What the seat has seen is the whole history. It leads to the state, and each call in it is kept with its number.
pub record IsWhole (seat : SeatView) (state : CacheState) : Type 0 where
  pub legal : LeadsTo seat.opening seat.seen state
  pub own : calls_of seat.number seat.seen ≡ seat.mine
  pub ended : AllByRecursion (λ kept. calls_of kept.0 seat.seen ≡ kept.1) seat.ended
  pub numbers : (number : ℕ) → times number (numbers_with seat) ≡ once_within 0 (next_number seat.register) number
  pub others : (number : ℕ) → next_number seat.register ≤ number → calls_of number seat.seen ≡ []
