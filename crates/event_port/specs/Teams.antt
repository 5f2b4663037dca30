-- Event workers side by side, which share one lock.
use Rattle.std.specs.Prelude.{◌≡◌, ◌==◌, ◌-◌, ◌^◌, if◌then◌else◌, ℕ, List, [], ◌∷◌, map}
use Rattle.arc_core.specs.Outside.{Linked}
use Rattle.turn_lock.specs.Seats.{SeatView}
use Rattle.worker_server.specs.declared.worker.WorkerEnd.{WorkerEnd}
use Rattle.worker_server.specs.Workers.{HasMet}
use Rattle.event_port.specs.Moves.{EventState, HasRunEvents}

-- A snapshot of an event worker: what it works with, how many links it takes on at most (0 for 2^64 - 1), how many it has
-- served, and how it ended.
pub record MemberState (L : Type 0) : Type 0 where
  pub works : EventState L
  pub sessions : ℕ
  pub served : ℕ
  pub ended : WorkerEnd

abbrev pub member_state : {L : Type 0} → EventState L → ℕ → ℕ → WorkerEnd → MemberState L
member_state works sessions served ended = record { works = works; sessions = sessions; served = served; ended = ended }

-- how many links are taken on at most
abbrev pub limit_of : ℕ → ℕ
limit_of sessions = if sessions == 0 then 2 ^ 64 - 1 else sessions

module _ {L : Type 0} (look : L → Linked) where
  -- The worker has run, and says how many it has served, and how it ended.
  pub record HasRunAlone (before after : MemberState L) : Type 0 where
    pub ran : HasRunEvents look (limit_of before.sessions) before.works after.works after.ended after.served
    pub same_sessions : after.sessions ≡ before.sessions

  -- each of these workers has run
  abbrev pub AllRanEvents : List (MemberState L) → List (MemberState L) → Type 0
  AllRanEvents [] [] = Unit {0}
  AllRanEvents (before ∷ more) (after ∷ more') = HasRunAlone before after × AllRanEvents more more'
  AllRanEvents [] (after ∷ more') = ⊥
  AllRanEvents (before ∷ more) [] = ⊥

  -- ALL EVENT WORKERS. Each has run. Then the first one's seat has met each other's: what any of them has seen begins what
  -- it has seen.
  abbrev pub HaveServedEvents : List (MemberState L) → List (MemberState L) → Type 0
  HaveServedEvents before [] = before ≡ []
  HaveServedEvents before (first ∷ others) =
      (ran : SeatView) × AllRanEvents before (record first { works = record first.works { seat = ran } } ∷ others)
      × HasMet ran (map (λ w. w.works.seat) others) first.works.seat
