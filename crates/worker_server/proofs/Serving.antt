-- The requests that a desk over a lock has answered are calls of its seat.
use Rattle.std.proofs.Common.{◌≡◌, ◌∙◌, ℕ, List, [], ◌∷◌, ◌++◌, sym, ap, subst}
use Rattle.std.specs.List.{AllByRecursion}
use Rattle.std.proofs.lemmas.List.{append-nil, append_assoc}
use Rattle.arc_core.specs.declared.ends.End.{End}
use Rattle.arc_core.specs.History.{Entry}
use Rattle.pipe_session.specs.Desks.{Serves}
use Rattle.pipe_session.specs.Outside.{Outside, Moment, moment}
use Rattle.pipe_session.specs.Turns.{IsOver}
use Rattle.turn_lock.specs.Seats.{SeatView}
use Rattle.worker_server.specs.Sessions.{IsOf, IsCallOf, IsSound, HasCalled, IsServed}

-- no call was made
none_called : (seat : SeatView) → HasCalled seat [] seat
none_called seat = record {
  grown = ap (λ mine. record seat { mine = mine }) (sym (append-nil seat.mine));
  begins = ([], sym (append-nil seat.seen));
  stays_sound = λ is. is;
}

-- what a seat knows behind one call
abbrev behind : SeatView → List Entry → Entry → SeatView
behind from between entry = record from { seen = (from.seen ++ between) ++ entry ∷ []; mine = from.mine ++ entry ∷ [] }

-- one call, and then these
then_called : (from : SeatView) (between : List Entry) (entry : Entry) (entries : List Entry) (to : SeatView) → IsSound (behind from between entry)
    → HasCalled (behind from between entry) entries to → HasCalled from (entry ∷ entries) to
then_called from between entry entries to is called = record {
  grown = called.grown ∙ ap (λ mine. record from { seen = to.seen; mine = mine }) (append_assoc from.mine (entry ∷ []) entries);
  begins = (
    between ++ entry ∷ called.begins.0,
    called.begins.1 ∙ (append_assoc (from.seen ++ between) (entry ∷ []) called.begins.0 ∙ append_assoc from.seen between (entry ∷ called.begins.0)),
  );
  stays_sound = λ _. called.stays_sound is;
}

module _ (session : ℕ) where
  -- calls that lead from the one to the other are those that the seat has made between
  pub has_called : (from : SeatView) (entries : List Entry) (to : SeatView) → Serves (IsCallOf session) from entries to → HasCalled from entries to
  has_called from [] to is = subst (HasCalled from []) (sym is) (none_called from)
  has_called from (entry ∷ entries) to (middle, calls, more) =
      let called = calls.called in
      let at = behind from called.between entry in
      let sound_there : IsSound at = record { legal = called.legal; own = called.own } in
      let later : HasCalled at entries to = subst (λ seat. HasCalled seat entries to) called.seat (has_called middle entries to more) in
      then_called from called.between entry entries to sound_there later

  -- each is the seat's and the session's
  pub all_own : (from : SeatView) (entries : List Entry) (to : SeatView) → Serves (IsCallOf session) from entries to → AllByRecursion (IsOf from.number session) entries
  all_own from [] to is = tt
  all_own from (entry ∷ entries) to (middle, calls, more) =
      let same : middle.number ≡ from.number = ap (λ seat. seat.number) calls.called.seat in (
        calls.own,
        subst (λ number. AllByRecursion (IsOf number session) entries) same (all_own middle entries to more),
      )

-- A desk over a seat: what it makes known of the seat, the name of its borrow, and its session.
module _ {D : Type 0} (seat : D → SeatView) (name session : D → ℕ) where
  abbrev pub Answers : D → Entry → D → Type 0
  Answers from entry to = IsCallOf (session from) (seat from) entry (seat to) × (name to ≡ name from) × (session to ≡ session from)

  served : (number : ℕ) (from : D) (entries : List Entry) (to : D) → session from ≡ number → Serves Answers from entries to → Serves (IsCallOf number) (seat from) entries (seat to)
  served number from [] to same is = ap seat is
  served number from (entry ∷ entries) to same (middle, answered, more) = (
    seat middle,
    subst (λ n. IsCallOf n (seat from) entry (seat middle)) same answered.0,
    served number middle entries to (answered.2 ∙ same) more,
  )

  -- it is still the same seat
  pub same_name : (from : D) (entries : List Entry) (to : D) → Serves Answers from entries to → name to ≡ name from
  same_name from [] to is = ap name is
  same_name from (entry ∷ entries) to (middle, answered, more) = same_name middle entries to more ∙ answered.1

  -- a session over such a desk is one over its seat
  pub is_served : (number : ℕ) (began now : Moment D) (ending : End) → session began.desk ≡ number → IsOver Answers began now ending
      → IsServed number (moment (seat began.desk) began.outside) (moment (seat now.desk) now.outside) ending
  is_served number began now ending same over =
      let calls = served number began.desk over.entries now.desk same over.served in
      record {
        over = record {
          taken = over.taken;
          units = over.units;
          tail = over.tail;
          entries = over.entries;
          text = over.text;
          took = over.took;
          spans = over.spans;
          last = over.last;
          tells = over.tells;
          served = calls;
          seconds = over.seconds;
          ends = over.ends;
          counts = over.counts;
        };
        own = all_own number (seat began.desk) over.entries (seat now.desk) calls;
        called = has_called number (seat began.desk) over.entries (seat now.desk) calls;
      }

-- the same, with what is known of the seat and of the session by other names
pub by_names : (number number' : ℕ) (seat seat' after after' : SeatView) (out out' : Outside) (ending : End) → number' ≡ number → seat' ≡ seat → after ≡ after'
    → IsServed number' (moment seat' out) (moment after' out') ending → IsServed number (moment seat out) (moment after out') ending
by_names number number' seat seat' after after' out out' ending same_number same_seat same_after served =
    subst (λ a. IsServed number (moment seat out) (moment a out') ending) (sym same_after)
    (subst (λ s. IsServed number (moment s out) (moment after' out') ending) same_seat
    (subst (λ n. IsServed n (moment seat' out) (moment after' out') ending) same_number served))
