-- One session whose requests a lock executes, as calls of a seat.
use Rattle.std.specs.Prelude.{◌≡◌, ℕ, ◌<◌, ◌^◌, List, ◌++◌}
use Rattle.std.specs.List.{AllByRecursion}
use Rattle.arc_core.specs.declared.ends.End.{End}
use Rattle.arc_core.specs.History.{Entry}
use Rattle.pipe_session.specs.Outside.{Moment}
use Rattle.pipe_session.specs.Turns.{IsOver}
use Rattle.turn_lock.specs.Calls.{Begins, calls_of, IsLegal}
use Rattle.turn_lock.specs.Seats.{SeatView, IsCalled}

-- The entry is of this seat and this session, and came at a second of 32 bits.
pub record IsOf (seat session : ℕ) (entry : Entry) : Type 0 where
  pub seat_is : entry.seat ≡ seat
  pub session_is : entry.session ≡ session
  pub second : entry.second < 2 ^ 32

-- The entry is one call of this session at a seat, and leads from what the seat knew before to what it knows now.
pub record IsCallOf (session : ℕ) (from : SeatView) (entry : Entry) (to : SeatView) : Type 0 where
  pub own : IsOf from.number session entry
  pub called : IsCalled from entry to

-- What the seat has seen is legal, and what that has of the seat are the seat's own calls.
pub record IsSound (seat : SeatView) : Type 0 where
  pub legal : IsLegal seat.opening seat.seen
  pub own : calls_of seat.number seat.seen ≡ seat.mine

-- These are the calls that a seat has made between: its own calls have grown by them alone, in their order. It has seen
-- more of the history, and all else of it is as it was.
pub record HasCalled (old : SeatView) (entries : List Entry) (new : SeatView) : Type 0 where
  pub grown : new ≡ record old { seen = new.seen; mine = old.mine ++ entries }
  pub begins : Begins old.seen new.seen
  pub stays_sound : IsSound old → IsSound new

-- THE SESSION. Between the two moments a session with this number ran on a link and ended so. Its requests are calls of the
-- seat, and the seat has made no others.
pub record IsServed (session : ℕ) (before after : Moment SeatView) (ended : End) : Type 0 where
  -- the bytes that it took, its units, its entries, its text, what was sent of it, and the cause of its end
  pub over : IsOver (IsCallOf session) before after ended
  pub own : AllByRecursion (IsOf before.desk.number session) over.entries
  pub called : HasCalled before.desk over.entries after.desk
