-- Of the calls of sessions that are numbered one after another, those with a number are that session's.
use Rattle.std.proofs.Common.{◌≡◌, ◌≢◌, ◌⊎◌, ◌∙◌, ℕ, ◌+◌, ◌<◌, ◌≤◌, List, [], ◌∷◌, ◌++◌, length, ◌==◌, cond, Option, refl, sym, ap, inl, inr, arith, eq-eqb, ne_eqb}
use Rattle.std.specs.List.{AllByRecursion}
use Rattle.std.proofs.lemmas.List.{append-nil, append_assoc}
use Rattle.std.proofs.lemmas.List.Elements.{filter-append}
use Rattle.arc_core.specs.History.{Entry}
use Rattle.arc_core.specs.Outside.{Linked}
use Rattle.turn_lock.specs.Seats.{SeatView}
use Rattle.worker_server.specs.Sessions.{IsOf}
use Rattle.worker_server.specs.Workers.{Service, ServesFrom}
use Rattle.worker_server.specs.Apart.{session_calls, AreServedBy, AreApart}

calls-append : (session : ℕ) (front back : List Entry) → session_calls session (front ++ back) ≡ session_calls session front ++ session_calls session back
calls-append session front back = filter-append (λ entry. entry.session == session) front back

-- all are the session's
all_its : (seat session : ℕ) (entries : List Entry) → AllByRecursion (IsOf seat session) entries → session_calls session entries ≡ entries
all_its seat session [] own = refl
all_its seat session (entry ∷ entries) own =
    ap (λ b. cond b (entry ∷ session_calls session entries) (session_calls session entries)) (eq-eqb entry.session session own.0.session_is)
    ∙ ap (λ es. entry ∷ es) (all_its seat session entries own.1)

-- none is another's
none_other : (seat session other : ℕ) (entries : List Entry) → session ≢ other → AllByRecursion (IsOf seat session) entries → session_calls other entries ≡ []
none_other seat session other [] apart own = refl
none_other seat session other (entry ∷ entries) apart own =
    ap (λ b. cond b (entry ∷ session_calls other entries) (session_calls other entries)) (ne_eqb entry.session other (λ same. apart (sym own.0.session_is ∙ same)))
    ∙ none_other seat session other entries apart own.1

module _ {L : Type 0} (look : L → Linked) where
  -- calls of a session with a lower number, before all others, are none of theirs
  still_by : (seat session : ℕ) (entries : List Entry) (number : ℕ) (calls : List Entry) (services : List (Service L)) → session < number → AllByRecursion (IsOf seat session) entries
      → AreServedBy look number calls services → AreServedBy look number (entries ++ calls) services
  still_by seat session entries number calls [] below own each = tt
  still_by seat session entries number calls (service ∷ services) below own (by, each) = (
    record {
      seat = by.seat;
      seat' = by.seat';
      coming = by.coming;
      coming' = by.coming';
      served = by.served;
      entries = by.entries ∙ sym (calls-append number entries calls ∙ ap (λ es. es ++ session_calls number calls) (none_other seat session number entries (λ same. absurd (omega (arith, same))) own));
    },
    still_by seat session entries (number + 1) calls services (omega arith) own each,
  )

  pub are_apart : (number : ℕ) (seat : SeatView) (coming : Option (List ℕ)) (services : List (Service L)) (seat' : SeatView) (coming' : Option (List ℕ))
      → ServesFrom look number seat coming services seat' coming' → AreApart look number seat services seat'
  are_apart number seat coming [] seat' coming' (same, still) = record {
    calls = [];
    grown = ap (λ s. s.mine) same ∙ sym (append-nil seat.mine);
    each = tt;
    no_others = λ session _. refl;
  }
  are_apart number seat coming (service ∷ services) seat' coming' (middle, later, served, more) =
      let rest : AreApart look (number + 1) middle services seat' = are_apart (number + 1) middle later services seat' coming' more in
      let entries = served.over.entries in
      let own = served.own in
      record {
        calls = entries ++ rest.calls;
        grown = rest.grown ∙ (ap (λ s. s.mine ++ rest.calls) served.called.grown ∙ append_assoc seat.mine entries rest.calls);
        each = (
          record {
            seat = seat;
            seat' = middle;
            coming = coming;
            coming' = later;
            served = served;
            entries = sym (calls-append number entries rest.calls
                ∙ (ap (λ es. es ++ session_calls number rest.calls) (all_its seat.number number entries own)
                ∙ (ap (λ es. entries ++ es) (rest.no_others number (inl (omega arith))) ∙ append-nil entries)));
          },
          still_by seat.number number entries (number + 1) rest.calls services (omega arith) own rest.each,
        );
        no_others = λ session out.
            calls-append session entries rest.calls
            ∙ (ap (λ es. es ++ session_calls session rest.calls) (none_other seat.number number session entries (apart session out) own)
            ∙ rest.no_others session (beyond session out));
      }
    where
      apart : (session : ℕ) → (session < number) ⊎ (number + length (service ∷ services) ≤ session) → number ≢ session
      apart session (inl below) = λ same. absurd (omega (arith, same))
      apart session (inr above) = λ same. absurd (omega (arith, same))

      beyond : (session : ℕ) → (session < number) ⊎ (number + length (service ∷ services) ≤ session) → (session < number + 1) ⊎ (number + 1 + length services ≤ session)
      beyond session (inl below) = inl (omega arith)
      beyond session (inr above) = inr (omega arith)
