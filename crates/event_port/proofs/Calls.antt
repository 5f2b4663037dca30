-- Calls of one seat, one after another, and which of them are one session's.
use Rattle.std.proofs.Common.{◌≡◌, ◌≢◌, ◌∙◌, ℕ, List, [], ◌∷◌, ◌++◌, ◌==◌, cond, Option, refl, sym, ap, subst, eq-eqb, ne_eqb}
use Rattle.std.specs.List.{AllByRecursion}
use Rattle.std.proofs.lemmas.List.{append-nil, append_assoc}
use Rattle.std.proofs.lemmas.List.Elements.{filter-append}
use Rattle.arc_core.specs.History.{Entry}
use Rattle.pipe_session.specs.Desks.{TicksThrough}
use Rattle.turn_lock.specs.Seats.{SeatView}
use Rattle.worker_server.specs.Apart.{session_calls}
use Rattle.worker_server.specs.Sessions.{IsOf, HasCalled}
use Rattle.event_port.specs.Moves.{IsOfSeat}
use Rattle.event_port.specs.Running.{MadeCalls, GoesOnTicking}
use Rattle.event_port.proofs.Clocks.{ticks_on, has_second}

pub all_append : {X : Type 0} (P : X → Type 0) (xs ys : List X) → AllByRecursion P xs → AllByRecursion P ys → AllByRecursion P (xs ++ ys)
all_append P [] ys is is' = is'
all_append P (x ∷ xs) ys is is' = (is.0, all_append P xs ys is.1 is')

pub called_none : (seat : SeatView) → HasCalled seat [] seat
called_none seat = record {
  grown = ap (λ mine. record seat { mine = mine }) (sym (append-nil seat.mine));
  begins = ([], sym (append-nil seat.seen));
  stays_sound = λ is. is;
}

pub called_on : (from : SeatView) (xs : List Entry) (middle : SeatView) (ys : List Entry) (to : SeatView) → HasCalled from xs middle → HasCalled middle ys to → HasCalled from (xs ++ ys) to
called_on from xs middle ys to first next = record {
  grown = next.grown
      ∙ (ap (λ (s : SeatView). record s { seen = to.seen; mine = s.mine ++ ys }) first.grown
      ∙ ap (λ mine. record from { seen = to.seen; mine = mine }) (append_assoc from.mine xs ys));
  begins = (
    first.begins.0 ++ next.begins.0,
    next.begins.1 ∙ (ap (λ seen. seen ++ next.begins.0) first.begins.1 ∙ append_assoc from.seen first.begins.0 next.begins.0),
  );
  stays_sound = λ is. next.stays_sound (first.stays_sound is);
}

pub same_number : (from : SeatView) (calls : List Entry) (to : SeatView) → HasCalled from calls to → to.number ≡ from.number
same_number from calls to called = ap (λ s. s.number) called.grown

pub same_lock : (from : SeatView) (calls : List Entry) (to : SeatView) → HasCalled from calls to → to.lock ≡ from.lock
same_lock from calls to called = ap (λ s. s.lock) called.grown

pub made_none : (number : ℕ) (seat : SeatView) (coming : Option (List ℕ)) → MadeCalls number [] seat seat coming coming
made_none number seat coming = record { called = called_none seat; own = tt; seconds = refl }

pub made_on : (number : ℕ) (xs ys : List Entry) (a b c : SeatView) (t u v : Option (List ℕ)) → MadeCalls number xs a b t u → MadeCalls number ys b c u v → MadeCalls number (xs ++ ys) a c t v
made_on number xs ys a b c t u v first next = record {
  called = called_on a xs b ys c first.called next.called;
  own = all_append (IsOf a.number number) xs ys first.own (subst (λ seat. AllByRecursion (IsOf seat number) ys) (same_number a xs b first.called) next.own);
  seconds = ticks_on xs ys t u v first.seconds next.seconds;
}

calls-append : (session : ℕ) (front back : List Entry) → session_calls session (front ++ back) ≡ session_calls session front ++ session_calls session back
calls-append session front back = filter-append (λ entry. entry.session == session) front back

all_its : (seat session : ℕ) (entries : List Entry) → AllByRecursion (IsOf seat session) entries → session_calls session entries ≡ entries
all_its seat session [] own = refl
all_its seat session (entry ∷ entries) own =
    ap (λ b. cond b (entry ∷ session_calls session entries) (session_calls session entries)) (eq-eqb entry.session session own.0.session_is)
    ∙ ap (λ es. entry ∷ es) (all_its seat session entries own.1)

none_other : (seat session other : ℕ) (entries : List Entry) → session ≢ other → AllByRecursion (IsOf seat session) entries → session_calls other entries ≡ []
none_other seat session other [] apart own = refl
none_other seat session other (entry ∷ entries) apart own =
    ap (λ b. cond b (entry ∷ session_calls other entries) (session_calls other entries)) (ne_eqb entry.session other (λ same. apart (sym own.0.session_is ∙ same)))
    ∙ none_other seat session other entries apart own.1

-- further calls of a session stand behind its own
pub calls_own : (seat session : ℕ) (calls more : List Entry) → AllByRecursion (IsOf seat session) more → session_calls session (calls ++ more) ≡ session_calls session calls ++ more
calls_own seat session calls more own = calls-append session calls more ∙ ap (λ es. session_calls session calls ++ es) (all_its seat session more own)

-- and are no other's
pub calls_other : (seat session other : ℕ) (calls more : List Entry) → session ≢ other → AllByRecursion (IsOf seat session) more → session_calls other (calls ++ more) ≡ session_calls other calls
calls_other seat session other calls more apart own =
    calls-append other calls more ∙ (ap (λ es. session_calls other calls ++ es) (none_other seat session other more apart own) ∙ append-nil (session_calls other calls))

pub of_seat : (seat session : ℕ) (entries : List Entry) → AllByRecursion (IsOf seat session) entries → AllByRecursion (IsOfSeat seat) entries
of_seat seat session [] own = tt
of_seat seat session (entry ∷ entries) own = (record { seat_is = own.0.seat_is; second = own.0.second }, of_seat seat session entries own.1)

-- where a session has calls the clock has ticked
pub ticks_for : (session : ℕ) (calls : List Entry) (began coming : Option (List ℕ)) → TicksThrough began calls coming → GoesOnTicking (session_calls session calls) coming
ticks_for session [] began coming is = tt
ticks_for session (entry ∷ calls) began coming is = either_way (session_calls session (entry ∷ calls))
  where
    either_way : (told : List Entry) → GoesOnTicking told coming
    either_way [] = tt
    either_way (first ∷ told) = has_second entry calls began coming is
