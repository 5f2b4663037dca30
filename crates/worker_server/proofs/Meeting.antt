-- Workers that have run, and a seat that meets the others'.
use Rattle.std.proofs.Common.{◌≡◌, ◌∙◌, ℕ, suc, ◌+◌, ◌<◌, List, [], ◌∷◌, ◌++◌, length, map, take, get_or, refl, sym, ap, subst, arith}
use Rattle.std.specs.List.{All, AllByRecursion}
use Rattle.std.proofs.lemmas.Grind.{take_at_read}
use Rattle.std.proofs.lemmas.List.{append-nil, append_assoc}
use Rattle.arc_core.specs.History.{Entry}
use Rattle.arc_core.specs.Outside.{Linked}
use Rattle.turn_lock.specs.Calls.{Begins}
use Rattle.turn_lock.specs.Seats.{SeatView, IsMet}
use Rattle.worker_server.specs.Sessions.{IsSound}
use Rattle.worker_server.specs.Workers.{WorkerState, HasRun, HasMet, AllRan, HaveServed}
use Rattle.worker_server.proofs.Running.{map_last}

begins_whole : (front middle whole : List Entry) → Begins front middle → Begins middle whole → Begins front whole
begins_whole front middle whole (more, is) (rest, is') = (more ++ rest, is' ∙ (ap (λ m. m ++ rest) is ∙ append_assoc front more rest))

still_begin : (others : List SeatView) (seen seen' : List Entry) → Begins seen seen' → AllByRecursion (λ other. Begins other.seen seen) others → AllByRecursion (λ other. Begins other.seen seen') others
still_begin [] seen seen' more is = tt
still_begin (other ∷ others) seen seen' more is = (begins_whole other.seen seen seen' is.0 more, still_begin others seen seen' more is.1)

one_more : (others : List SeatView) (other : SeatView) (seen : List Entry) → AllByRecursion (λ o. Begins o.seen seen) others → Begins other.seen seen
    → AllByRecursion (λ o. Begins o.seen seen) (others ++ other ∷ [])
one_more [] other seen is begins = (begins, tt)
one_more (first ∷ others) other seen is begins = (is.0, one_more others other seen is.1 begins)

-- it has met none
pub none_met : (seat : SeatView) → HasMet seat [] seat
none_met seat = record { seat = refl; own = ([], sym (append-nil seat.seen)); theirs = tt; stays_sound = λ is. is }

-- it meets one more
meets_one : (old : SeatView) (others : List SeatView) (now other next : SeatView) → HasMet old others now → IsMet now other next → HasMet old (others ++ other ∷ []) next
meets_one old others now other next has is = record {
  seat = is.seat ∙ ap (λ (s : SeatView). record s { seen = next.seen }) has.seat;
  own = begins_whole old.seen now.seen next.seen has.own is.own;
  theirs = one_more others other next.seen (still_begin others now.seen next.seen is.own has.theirs) is.other;
  stays_sound = λ _. subst IsSound (sym is.seat) sound_there;
}
  where
    sound_there : IsSound (record now { seen = next.seen })
    sound_there = record { legal = is.legal; own = is.calls }

-- it meets the next of these
pub meets_next : {W : Type 0} (seat_of : W → SeatView) (old : SeatView) (all all' : List W) (place : ℕ) (one : W) (now next : SeatView) → all' ≡ all → place < length all
    → one ≡ get_or all' place one → HasMet old (map seat_of (take place all)) now → IsMet now (seat_of (get_or all' place one)) next → HasMet old (map seat_of (take (place + 1) all)) next
meets_next seat_of old all all' place one now next same inside at has is =
    let there : one ≡ get_or all place one = at ∙ ap (λ ws. get_or ws place one) same in
    let met : IsMet now (seat_of one) next = subst (λ w. IsMet now (seat_of w) next) (sym at) is in
    let front : take (place + 1) all ≡ take place all ++ one ∷ [] = (take_at_read all place one inside).1 ∙ ap (λ w. take place all ++ w ∷ []) (sym there) in
    subst (λ seats. HasMet old seats next) (sym (ap (map seat_of) front ∙ map_last seat_of (take place all) one)) (meets_one old (map seat_of (take place all)) now (seat_of one) next has met)

module _ {L W : Type 0} (look : L → Linked) (state : W → WorkerState L) where
  -- each of the workers has run, by its place
  pub all_ran : (before after : List W) → length after ≡ length before
      → ((i : ℕ) (d : W) → i < length before → HasRun look (state (get_or before i d)) (state (get_or after i d)))
      → AllRan look (map state before) (map state after)
  all_ran [] [] same each = tt
  all_ran [] (w ∷ after) same each = absurd (omega (arith, same))
  all_ran (w ∷ before) [] same each = absurd (omega (arith, same))
  all_ran (w ∷ before) (v ∷ after) same each = (each 0 w (omega arith), all_ran before after (omega (arith, same)) (λ i d inside. each (suc i) d (omega (arith, inside))))

  same_seats : (workers : List W) → map (λ w. w.seat) (map state workers) ≡ map (λ w. (state w).seat) workers
  same_seats [] = refl
  same_seats (w ∷ workers) = ap (λ seats. (state w).seat ∷ seats) (same_seats workers)

  -- they have run, and then the first one has met the others
  pub have_served : (before : List (WorkerState L)) (workers : List W) (first first' : W) (others others' : List W) → workers ≡ first ∷ others → others' ≡ others
      → state first ≡ record (state first') { seat = (state first).seat } → AllRan look before (map state workers)
      → HasMet (state first).seat (map (λ w. (state w).seat) others) (state first').seat → HaveServed look before (map state (first' ∷ others'))
  have_served before workers first first' others others' split same_others same ran met =
      let parts : AllRan look before (map state (first ∷ others)) = subst (λ ws. AllRan look before (map state ws)) split ran in
      let there : HaveServed look before (map state (first' ∷ others)) = (
        (state first).seat,
        subst (λ w. AllRan look before (w ∷ map state others)) same parts,
        subst (λ seats. HasMet (state first).seat seats (state first').seat) (sym (same_seats others)) met,
      ) in
      subst (λ os. HaveServed look before (map state (first' ∷ os))) (sym same_others) there

-- what holds of all workers holds of the first one, and of the others
module _ {W : Type 0} (P : W → Type 0) (workers : List W) (first : W) (others : List W) (split : workers ≡ first ∷ others) (each : All P workers) where
  pub of_first : P first
  of_first = subst (All P) split each 0 first (omega arith)

  pub of_others : All P others
  of_others k d inside = subst (All P) split each (suc k) d (omega (arith, inside))
