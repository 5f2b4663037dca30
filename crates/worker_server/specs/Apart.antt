-- Which of a worker's calls are those of one session.
use Rattle.std.specs.Prelude.{◌≡◌, ◌⊎◌, ℕ, ◌+◌, ◌<◌, ◌≤◌, List, [], ◌∷◌, ◌++◌, length, filter, ◌==◌, Option}
use Rattle.arc_core.specs.History.{Entry}
use Rattle.arc_core.specs.Outside.{Linked}
use Rattle.turn_lock.specs.Seats.{SeatView}
use Rattle.worker_server.specs.Sessions.{IsServed}
use Rattle.worker_server.specs.Workers.{Service, moment_of, ServesFrom}

-- the calls of the session with this number, in order
abbrev pub session_calls : ℕ → List Entry → List Entry
session_calls session calls = filter (λ entry. entry.session == session) calls

module _ {L : Type 0} (look : L → Linked) where
  -- The link was served by a session with this number, whose requests are those of these calls that have its number.
  pub record IsServedBy (session : ℕ) (calls : List Entry) (service : Service L) : Type 0 where
    pub seat : SeatView
    pub seat' : SeatView
    pub coming : Option (List ℕ)
    pub coming' : Option (List ℕ)
    pub served : IsServed session (moment_of look seat service.came coming) (moment_of look seat' service.went coming') service.ended
    pub entries : served.over.entries ≡ session_calls session calls

  -- so it is for each of these, which are numbered from `number` on
  abbrev pub AreServedBy : (number : ℕ) → List Entry → List (Service L) → Type 0
  AreServedBy number calls [] = Unit {0}
  AreServedBy number calls (service ∷ services) = IsServedBy number calls service × AreServedBy (number + 1) calls services

  -- EACH SESSION'S CALLS. Where these links were served, the seat has made these calls: each session's requests are those
  -- with its number, and no other number has any.
  pub record AreApart (number : ℕ) (seat : SeatView) (services : List (Service L)) (seat' : SeatView) : Type 0 where
    pub calls : List Entry
    pub grown : seat'.mine ≡ seat.mine ++ calls
    pub each : AreServedBy number calls services
    pub no_others : (session : ℕ) → (session < number) ⊎ (number + length services ≤ session) → session_calls session calls ≡ []

  abbrev pub SessionsAreApart : Type 0
  SessionsAreApart =
      (number : ℕ) (seat : SeatView) (coming : Option (List ℕ)) (services : List (Service L)) (seat' : SeatView) (coming' : Option (List ℕ))
      → ServesFrom look number seat coming services seat' coming' → AreApart number seat services seat'
