-- All seats are joined one after another, and the lock is closed.
use Rattle.std.proofs.Common.{◌≡◌, ◌∙◌, ◌⊎◌, ℕ, ◌+◌, ◌<◌, ◌≤◌, List, [], ◌∷◌, ◌++◌, length, map, Some, inl, inr, refl, sym, ap, subst, arith}
use Rattle.std.specs.List.{AllByRecursion}
use Rattle.std.specs.Prelude.{IsSomeAnd}
use Rattle.std.proofs.lemmas.List.{append-nil, append_assoc, length-append}
use Rattle.arc_core.specs.CacheState.{CacheState}
use Rattle.arc_core.specs.History.{Entry}
use Rattle.atomic_table.specs.Seated.{TableId}
use Rattle.turn_lock.specs.Calls.{calls_of, LeadsTo}
use Rattle.turn_lock.specs.Moves.{next_number, first_register}
use Rattle.turn_lock.specs.Seats.{SeatView, joined_seat, numbers_with, HasAll, IsWhole}
use Rattle.worker_team.specs.Disbanding.{main_seat, AreOut, AreKept, Closes}
use Rattle.worker_team.proofs.Hiring.{map_last, map_length}

-- the seats' numbers, from this one on, each with its calls
abbrev pub kept_from : ℕ → List SeatView → List (ℕ × List Entry)
kept_from number [] = []
kept_from number (seat ∷ seats) = (number, seat.mine) ∷ kept_from (number + 1) seats

kept_last : (number : ℕ) (seats : List SeatView) (last : SeatView) → kept_from number (seats ++ last ∷ []) ≡ kept_from number seats ++ (number + length seats, last.mine) ∷ []
kept_last number [] last = ap (λ n. (n, last.mine) ∷ []) (omega arith)
kept_last number (seat ∷ seats) last =
    ap (λ kept. (number, seat.mine) ∷ kept) (kept_last (number + 1) seats last ∙ ap (λ n. kept_from (number + 1) seats ++ (n, last.mine) ∷ []) (omega arith))

kept_length : (number : ℕ) (seats : List SeatView) → length (map (λ kept. kept.0) (kept_from number seats)) ≡ length seats
kept_length number [] = refl
kept_length number (seat ∷ seats) = omega (arith, kept_length (number + 1) seats)

-- Of the seats those in front were joined into this one, and the rest is still out.
pub record Disbands (lock : TableId) (before : CacheState) (total : ℕ) (done rest : List SeatView) (seat : SeatView) : Type 0 where
  pub same_lock : seat.lock ≡ lock
  pub number : seat.number ≡ 0
  pub opening : seat.opening ≡ before
  pub none_own : seat.mine ≡ []
  pub register : seat.register ≡ Some (total + 1)
  pub ended : seat.ended ≡ kept_from 1 done
  pub out : AreOut lock (length done + 1) rest
  pub all : total ≡ length done + length rest

pub begins : (lock : TableId) (opening : CacheState) (seats : List SeatView) (seat : SeatView) → seat ≡ main_seat lock opening (length seats) → AreOut lock 1 seats
    → Disbands lock opening (length seats) [] seats seat
begins lock opening seats seat is out = record {
  same_lock = ap (λ s. s.lock) is;
  number = ap (λ s. s.number) is;
  opening = ap (λ s. s.opening) is;
  none_own = ap (λ s. s.mine) is;
  register = ap (λ s. s.register) is;
  ended = ap (λ s. s.ended) is;
  out = out;
  all = omega arith;
}

-- the next one has a seat of this lock
pub next_is_out : (lock : TableId) (opening : CacheState) (total : ℕ) (done rest : List SeatView) (seat own : SeatView) → Disbands lock opening total done (own ∷ rest) seat → own.lock ≡ lock
next_is_out lock opening total done rest seat own disbands = disbands.out.0.same_lock

-- one more is joined
pub goes_on : (lock : TableId) (opening : CacheState) (total : ℕ) (done rest : List SeatView) (seat own seat' : SeatView) → Disbands lock opening total done (own ∷ rest) seat
    → seat' ≡ joined_seat seat own → Disbands lock opening total (done ++ own ∷ []) rest seat'
goes_on lock opening total done rest seat own seat' disbands joined =
    let first = disbands.out.0 in
    let longer : length (done ++ own ∷ []) ≡ length done + 1 = length-append done (own ∷ []) in
    record {
      same_lock = ap (λ s. s.lock) joined ∙ disbands.same_lock;
      number = ap (λ s. s.number) joined ∙ disbands.number;
      opening = ap (λ s. s.opening) joined ∙ disbands.opening;
      none_own = ap (λ s. s.mine) joined ∙ disbands.none_own;
      register = ap (λ s. s.register) joined ∙ ap (λ r. first_register r own.register) disbands.register;
      ended = ap (λ s. s.ended) joined
          ∙ (ap (λ kept. kept ++ (own.number, own.mine) ∷ own.ended) disbands.ended
          ∙ (ap (λ n. kept_from 1 done ++ (n, own.mine) ∷ own.ended) (first.number_is ∙ omega arith)
          ∙ (ap (λ more. kept_from 1 done ++ (1 + length done, own.mine) ∷ more) first.none_joined ∙ sym (kept_last 1 done own))));
      out = subst (λ n. AreOut lock n rest) (omega (arith, longer)) disbands.out.1;
      all = omega (arith, disbands.all, longer);
    }

-- so where the rest is known by another name
pub goes_on_from : (lock : TableId) (before : CacheState) (total : ℕ) (done rest rest' : List SeatView) (seat own seat' : SeatView) → Disbands lock before total done rest seat
    → rest ≡ own ∷ rest' → seat' ≡ joined_seat seat own → Disbands lock before total (done ++ own ∷ []) rest' seat'
goes_on_from lock before total done rest rest' seat own seat' disbands next joined =
    goes_on lock before total done rest' seat own seat' (subst (λ r. Disbands lock before total done r seat) next disbands) joined

-- what is still out is the rest of all
pub rest_goes_on : {W : Type 0} (all done rest rest' : List W) (worker : W) → all ≡ done ++ rest → rest ≡ worker ∷ rest' → all ≡ (done ++ worker ∷ []) ++ rest'
rest_goes_on all done rest rest' worker are next = are ∙ (ap (λ r. done ++ r) next ∙ sym (append_assoc done (worker ∷ []) rest'))

-- one more has room where there is room for all
pub has_room : {W M R : Type 0} (of : M → R) (by : W → R) (members : List M) (all done rest rest' : List W) (worker : W) (room : ℕ)
    → map of members ≡ map by done → all ≡ done ++ rest → rest ≡ worker ∷ rest' → length all ≤ room → length members < room
has_room of by members all done rest rest' worker room same are next enough =
    omega (arith, enough, ap length same, map_length of members, map_length by done, ap length are, length-append done rest, ap length next)

pub seat_has_room : {W : Type 0} (by : W → SeatView) (seats : List SeatView) (all done rest rest' : List W) (worker : W) (room : ℕ)
    → seats ≡ map by done → all ≡ done ++ rest → rest ≡ worker ∷ rest' → length all ≤ room → length seats < room
seat_has_room by seats all done rest rest' worker room same are next enough =
    omega (arith, enough, ap length same, map_length by done, ap length are, length-append done rest, ap length next)

pub seat_goes_on : {W : Type 0} (by : W → SeatView) (seats seats' : List SeatView) (seat : SeatView) (done : List W) (worker : W)
    → seats ≡ map by done → seats' ≡ seats ++ seat ∷ [] → seat ≡ by worker → seats' ≡ map by (done ++ worker ∷ [])
seat_goes_on by seats seats' seat done worker same more is =
    more ∙ (ap (λ ss. ss ++ seat ∷ []) same ∙ (ap (λ s. map by done ++ s ∷ []) is ∙ sym (map_last by done worker)))

pub member_goes_on : {W M R : Type 0} (of : M → R) (by : W → R) (members members' : List M) (member : M) (done : List W) (worker : W)
    → map of members ≡ map by done → members' ≡ members ++ member ∷ [] → of member ≡ by worker → map of members' ≡ map by (done ++ worker ∷ [])
member_goes_on of by members members' member done worker same more is =
    ap (map of) more ∙ (map_last of members member ∙ (ap (λ ms. ms ++ of member ∷ []) same ∙ (ap (λ r. map by done ++ r ∷ []) is ∙ sym (map_last by done worker))))

-- none is left
pub all_done : {W : Type 0} (all done rest : List W) → all ≡ done ++ rest → rest ≡ [] → all ≡ done
all_done all done rest are none = are ∙ (ap (λ r. done ++ r) none ∙ append-nil done)

pub none_left : {W : Type 0} (rest : List W) → length rest ≡ 0 → rest ≡ []
none_left [] none = refl
none_left (first ∷ rest) none = absurd (omega (arith, none))

-- all were joined
pub has_all : (lock : TableId) (opening : CacheState) (total : ℕ) (done : List SeatView) (seat : SeatView) → Disbands lock opening total done [] seat → HasAll seat
has_all lock opening total done seat disbands =
    subst (λ register. IsSomeAnd register (λ next. length (numbers_with seat) ≡ next)) (sym disbands.register)
    (omega (arith, ap (λ kept. length (map (λ k. k.0) kept)) disbands.ended, kept_length 1 done, disbands.all))

kept_all : (history : List Entry) (number : ℕ) (seats : List SeatView) → AllByRecursion (λ kept. calls_of kept.0 history ≡ kept.1) (kept_from number seats) → AreKept history number seats
kept_all history number [] all = tt
kept_all history number (seat ∷ seats) (own, rest) = (own, kept_all history (number + 1) seats rest)

pub closes : (lock : TableId) (opening : CacheState) (total : ℕ) (done : List SeatView) (seat : SeatView) (closing : CacheState) → Disbands lock opening total done [] seat
    → IsWhole seat closing → Closes opening done closing
closes lock opening total done seat closing disbands whole = record {
  history = seat.seen;
  legal = subst (λ o. LeadsTo o seat.seen closing) disbands.opening whole.legal;
  kept = kept_all seat.seen 1 done (subst (λ kept. AllByRecursion (λ k. calls_of k.0 seat.seen ≡ k.1) kept) disbands.ended whole.ended);
  no_others = none;
}
  where
    none : (number : ℕ) → (number ≡ 0) ⊎ (length done < number) → calls_of number seat.seen ≡ []
    none number (inl zero_is) = ap (λ n. calls_of n seat.seen) (zero_is ∙ sym disbands.number) ∙ (whole.own ∙ disbands.none_own)
    none number (inr above) = whole.others number (omega (arith, ap next_number disbands.register, disbands.all, above))
