-- The desk of a session that shares its seat with others.
use Rattle.std.specs.Prelude.{◌≡◌, ℕ, List, [], ◌∷◌}
use Rattle.arc_core.specs.History.{Entry}
use Rattle.turn_lock.specs.Seats.{SeatView}
use Rattle.worker_server.specs.Sessions.{IsCallOf}

-- A snapshot of such a desk: what its session was answered before this turn and is still to be told again, the number of the
-- session, the seat, and the name of the borrow of the seat.
pub record Behind : Type 0 where
  pub past : List Entry
  pub session : ℕ
  pub seat : SeatView
  pub name : ℕ

abbrev pub behind : List Entry → ℕ → SeatView → ℕ → Behind
behind past session seat name = record { past = past; session = session; seat = seat; name = name }

-- What comes next is the first of what was answered before, which changes nothing; behind all that it is a call of the seat.
abbrev pub AnswersBehind : (past : List Entry) → (session : ℕ) → SeatView → (name : ℕ) → Entry → Behind → Type 0
AnswersBehind [] session seat name entry to =
    IsCallOf session seat entry to.seat × (to.past ≡ []) × (to.session ≡ session) × (to.name ≡ name)
AnswersBehind (first ∷ rest) session seat name entry to = (entry ≡ first) × (to ≡ behind rest session seat name)

abbrev pub AnswersNext : Behind → Entry → Behind → Type 0
AnswersNext from entry to = AnswersBehind from.past from.session from.seat from.name entry to
