-- A team that has run: each worker's run, and what the closed lock tells of all of them.
use Rattle.std.proofs.Common.{◌≡◌, ◌∙◌, ◌⊎◌, ℕ, zero, suc, ◌+◌, ◌<◌, List, [], ◌∷◌, ◌++◌, length, map, take, drop, get_or, inl, inr, refl, sym, ap, subst, arith}
use Rattle.std.specs.List.{All, AllByRecursion}
use Rattle.std.proofs.Math.Seq.{take-append_seam}
use Rattle.arc_core.specs.CacheState.{CacheState}
use Rattle.arc_core.specs.History.{Entry}
use Rattle.atomic_table.specs.Seated.{TableId}
use Rattle.turn_lock.specs.Calls.{calls_of}
use Rattle.turn_lock.specs.Seats.{SeatView}
use Rattle.worker_server.specs.declared.worker.WorkerEnd.{WorkerEnd}
use Rattle.worker_server.specs.Workers.{HasMet}
use Rattle.worker_team.specs.declared.team.Member.{Member}
use Rattle.worker_team.specs.Team.{Hired, Left, left, HasNotRun, AllHaveWorked, TeamHasWorked}
use Rattle.worker_team.specs.Disbanding.{post, AreOut, AreFresh, AreKept, Closes}
use Rattle.worker_team.proofs.Hiring.{map_length, map_through}

-- the first so many, where all of them stand in front
pub front_is_all : {W : Type 0} (new more : List W) (len : ℕ) → len ≡ length new → take len (new ++ more) ≡ new
front_is_all new more len same = ap (λ n. take n (new ++ more)) same ∙ take-append_seam new more

-- workers that have not run have seats of the lock
pub own_seats : {W : Type 0} (seat_of : W → SeatView) (next_of : W → ℕ) (end_of : W → WorkerEnd) (lock : TableId) (opening : CacheState) (number : ℕ) (workers : List W)
    → AreFresh lock opening number (map (λ w. post (seat_of w) (next_of w) (end_of w)) workers) → All (λ w. (seat_of w).lock ≡ lock) workers
own_seats seat_of next_of end_of lock opening number [] fresh k d inside = absurd (omega (arith, inside))
own_seats seat_of next_of end_of lock opening number (w ∷ workers) fresh zero d inside = ap (λ p. p.seat.lock) fresh.0
own_seats seat_of next_of end_of lock opening number (w ∷ workers) fresh (suc k) d inside =
    own_seats seat_of next_of end_of lock opening (number + 1) workers fresh.1 k d (omega (arith, inside))

abbrev pub left_of : {P : Type 0} → Member P → Left P
left_of m = left m.port m.served m.end

-- the ports of what is left
pub left_ports : {P W : Type 0} (port_of : W → P) (next_of : W → ℕ) (end_of : W → WorkerEnd) (workers : List W) (members : List (Member P))
    → map left_of members ≡ map (λ w. left (port_of w) (next_of w) (end_of w)) workers → map (λ m. m.port) members ≡ map port_of workers
left_ports port_of next_of end_of workers members same =
    sym (map_through left_of (λ l. l.port) members) ∙ (ap (map (λ l. l.port)) same ∙ map_through (λ w. left (port_of w) (next_of w) (end_of w)) (λ l. l.port) workers)

-- what is left of workers that have not run
pub none_has_run : {P W : Type 0} (port_of : W → P) (seat_of : W → SeatView) (next_of : W → ℕ) (end_of : W → WorkerEnd) (lock : TableId) (opening : CacheState) (number : ℕ)
    (workers : List W) (members : List (Member P)) → AreFresh lock opening number (map (λ w. post (seat_of w) (next_of w) (end_of w)) workers)
    → map left_of members ≡ map (λ w. left (port_of w) (next_of w) (end_of w)) workers → AllByRecursion HasNotRun members
none_has_run port_of seat_of next_of end_of lock opening number workers [] fresh same = tt
none_has_run port_of seat_of next_of end_of lock opening number [] (m ∷ ms) fresh same = absurd (omega (arith, ap length same))
none_has_run port_of seat_of next_of end_of lock opening number (w ∷ workers) (m ∷ ms) (own, fresh) same =
    let first : left_of m ≡ left (port_of w) (next_of w) (end_of w) = ap (λ ls. get_or ls 0 (left_of m)) same in (
      (ap (λ l. l.served) first ∙ ap (λ p. p.next) own, ap (λ l. l.ended) first ∙ ap (λ p. p.ended) own),
      none_has_run port_of seat_of next_of end_of lock opening (number + 1) workers ms fresh (ap (λ ls. drop 1 ls) same),
    )

-- what a worker's run leaves of its seat as it was
pub record KeepsSeat (before after : SeatView) : Type 0 where
  pub same_lock : after.lock ≡ before.lock
  pub same_number : after.number ≡ before.number
  pub same_ended : after.ended ≡ before.ended
  pub same_register : after.register ≡ before.register

pub keeps_on : (first second third : SeatView) → KeepsSeat first second → KeepsSeat second third → KeepsSeat first third
keeps_on first second third one two = record {
  same_lock = two.same_lock ∙ one.same_lock;
  same_number = two.same_number ∙ one.same_number;
  same_ended = two.same_ended ∙ one.same_ended;
  same_register = two.same_register ∙ one.same_register;
}

pub keeps_met : (before after : SeatView) (others : List SeatView) → HasMet before others after → KeepsSeat before after
keeps_met before after others met = record {
  same_lock = ap (λ s. s.lock) met.seat;
  same_number = ap (λ s. s.number) met.seat;
  same_ended = ap (λ s. s.ended) met.seat;
  same_register = ap (λ s. s.register) met.seat;
}

-- What follows is of any kind of workers, and reads one by what it consists of.
module _ {P C W : Type 0} (Ran : Hired P C → SeatView → Member P → SeatView → Type 0)
    (hired_of : W → Hired P C) (left_by : W → Left P) (seat_of : W → SeatView) (next_of : W → ℕ) (end_of : W → WorkerEnd) where
  -- One worker before and behind. Its seat may have met others since it ended.
  pub record Ended (w v : W) : Type 0 where
    pub seat : SeatView
    pub ran : (member : Member P) → left_of member ≡ left_by v → Ran (hired_of w) (seat_of w) member seat
    pub mine : (seat_of v).mine ≡ seat.mine
    pub keeps : KeepsSeat (seat_of w) (seat_of v)

  abbrev pub AllEnded : List W → List W → Type 0
  AllEnded [] [] = Unit {0}
  AllEnded (w ∷ ws) (v ∷ vs) = Ended w v × AllEnded ws vs
  AllEnded [] (v ∷ vs) = ⊥
  AllEnded (w ∷ ws) [] = ⊥

  pub as_many : (before after : List W) → AllEnded before after → length after ≡ length before
  as_many [] [] ended = refl
  as_many (w ∷ ws) (v ∷ vs) ended = omega (arith, as_many ws vs ended.1)
  as_many [] (v ∷ vs) ended = absurd ended
  as_many (w ∷ ws) [] ended = absurd ended

  -- all seats are still out
  pub all_out : (lock : TableId) (opening : CacheState) (number : ℕ) (before after : List W) → AllEnded before after
      → AreFresh lock opening number (map (λ w. post (seat_of w) (next_of w) (end_of w)) before) → AreOut lock number (map seat_of after)
  all_out lock opening number [] [] ended fresh = tt
  all_out lock opening number (w ∷ ws) (v ∷ vs) (first, rest) (own, fresh) = (
    record {
      same_lock = first.keeps.same_lock ∙ ap (λ p. p.seat.lock) own;
      number_is = first.keeps.same_number ∙ ap (λ p. p.seat.number) own;
      none_joined = first.keeps.same_ended ∙ ap (λ p. p.seat.ended) own;
      no_register = first.keeps.same_register ∙ ap (λ p. p.seat.register) own;
    },
    all_out lock opening (number + 1) ws vs rest fresh,
  )
  all_out lock opening number [] (v ∷ vs) ended fresh = absurd ended
  all_out lock opening number (w ∷ ws) [] ended fresh = absurd ended

  all_worked : (lock : TableId) (opening : CacheState) (history : List Entry) (number : ℕ) (before after : List W) (members : List (Member P)) → AllEnded before after
      → AreFresh lock opening number (map (λ w. post (seat_of w) (next_of w) (end_of w)) before) → AreKept history number (map seat_of after) → map left_of members ≡ map left_by after
      → AllHaveWorked Ran lock opening history number (map hired_of before) members
  all_worked lock opening history number [] [] [] ended fresh kept same = tt
  all_worked lock opening history number [] [] (m ∷ ms) ended fresh kept same = absurd (omega (arith, ap length same))
  all_worked lock opening history number (w ∷ ws) (v ∷ vs) [] ended fresh kept same = absurd (omega (arith, ap length same))
  all_worked lock opening history number (w ∷ ws) (v ∷ vs) (m ∷ ms) (first, rest) (own, fresh) (kept, more) same = (
    record {
      seat = first.seat;
      ran = subst (λ p. Ran (hired_of w) p.seat m first.seat) own (first.ran m (ap (λ ls. get_or ls 0 (left_of m)) same));
      own = kept ∙ first.mine;
    },
    all_worked lock opening history (number + 1) ws vs ms rest fresh more (ap (λ ls. drop 1 ls) same),
  )
  all_worked lock opening history number [] (v ∷ vs) members ended fresh kept same = absurd ended
  all_worked lock opening history number (w ∷ ws) [] members ended fresh kept same = absurd ended

  -- all of it
  pub team_has_worked : (lock : TableId) (opening : CacheState) (before after : List W) (closing : CacheState) (members : List (Member P)) → AllEnded before after
      → AreFresh lock opening 1 (map (λ w. post (seat_of w) (next_of w) (end_of w)) before) → Closes opening (map seat_of after) closing → map left_of members ≡ map left_by after
      → TeamHasWorked Ran opening (map hired_of before) closing members
  team_has_worked lock opening before after closing members ended fresh closes same = record {
    lock = lock;
    history = closes.history;
    legal = closes.legal;
    each = all_worked lock opening closes.history 1 before after members ended fresh closes.kept same;
    no_others = none;
  }
    where
      none : (number : ℕ) → (number ≡ 0) ⊎ (length (map hired_of before) < number) → calls_of number closes.history ≡ []
      none number (inl zero_is) = closes.no_others number (inl zero_is)
      none number (inr above) = closes.no_others number (inr (omega (arith, above, as_many before after ended, map_length hired_of before, map_length seat_of after)))
