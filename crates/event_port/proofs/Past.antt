-- A desk that has the earlier answers of its session before it.
use Rattle.std.proofs.Common.{◌≡◌, ◌∙◌, ℕ, List, [], ◌∷◌, ◌++◌, length, refl, sym, ap, subst, arith}
use Rattle.arc_core.specs.History.{Entry}
use Rattle.pipe_session.specs.Desks.{Serves}
use Rattle.turn_lock.specs.Seats.{SeatView}
use Rattle.worker_server.specs.Sessions.{IsCallOf}
use Rattle.event_port.specs.Desks.{Behind, behind, AnswersBehind, AnswersNext}

module _ {D : Type 0} (view : D → Behind) where
  abbrev pub Next : D → Entry → D → Type 0
  Next from entry to = AnswersNext (view from) entry (view to)

  -- it can be asked for all of them again
  pub told_again : (put : List Entry → D) (session : ℕ) (seat : SeatView) (name : ℕ) → ((past : List Entry) → view (put past) ≡ behind past session seat name)
      → (told : List Entry) → Serves Next (put told) told (put [])
  told_again put session seat name is [] = refl
  told_again put session seat name is (entry ∷ told) =
      let here : AnswersNext (behind (entry ∷ told) session seat name) entry (behind told session seat name) = (refl, refl) in (
        put told,
        subst (λ v. AnswersNext v entry (view (put told))) (sym (is (entry ∷ told))) (subst (AnswersNext (behind (entry ∷ told) session seat name) entry) (sym (is told)) here),
        told_again put session seat name is told,
      )

  -- behind all of them the seat was called
  pub record CalledBehind (told entries : List Entry) (from to : Behind) : Type 0 where
    pub more : List Entry
    pub entries_are : entries ≡ told ++ more
    pub served : Serves (IsCallOf from.session) from.seat more to.seat
    pub same_name : to.name ≡ from.name

  called : (entries : List Entry) (from to : D) → (view from).past ≡ [] → Serves Next from entries to → CalledBehind [] entries (view from) (view to)
  called [] from to none is = record { more = []; entries_are = refl; served = ap (λ d. (view d).seat) is; same_name = ap (λ d. (view d).name) is }
  called (entry ∷ entries) from to none (middle, answers, more) =
      let from' = view from in
      let answered : AnswersBehind [] from'.session from'.seat from'.name entry (view middle) =
      subst (λ past. AnswersBehind past from'.session from'.seat from'.name entry (view middle)) none answers in
      let rest = called entries middle to answered.1 more in
      record {
        more = entry ∷ rest.more;
        entries_are = ap (λ es. entry ∷ es) rest.entries_are;
        served = ((view middle).seat, answered.0, subst (λ s. Serves (IsCallOf s) (view middle).seat rest.more (view to).seat) answered.2 rest.served);
        same_name = rest.same_name ∙ answered.3;
      }

  pub called_behind : (told entries : List Entry) (from to : D) → (view from).past ≡ told → (view to).past ≡ [] → Serves Next from entries to
      → CalledBehind told entries (view from) (view to)
  called_behind [] entries from to past none is = called entries from to past is
  called_behind (first ∷ told) [] from to past none is = absurd (omega (arith, ap length (sym none ∙ (ap (λ d. (view d).past) is ∙ past))))
  called_behind (first ∷ told) (entry ∷ entries) from to past none (middle, answers, more) =
      let from' = view from in
      let answered : AnswersBehind (first ∷ told) from'.session from'.seat from'.name entry (view middle) =
      subst (λ p. AnswersBehind p from'.session from'.seat from'.name entry (view middle)) past answers in
      let rest = called_behind told entries middle to (ap (λ v. v.past) answered.1) none more in
      record {
        more = rest.more;
        entries_are = ap (λ e. e ∷ entries) answered.0 ∙ ap (λ es. first ∷ es) rest.entries_are;
        served = subst (λ seat. Serves (IsCallOf from'.session) seat rest.more (view to).seat) (ap (λ v. v.seat) answered.1)
            (subst (λ s. Serves (IsCallOf s) (view middle).seat rest.more (view to).seat) (ap (λ v. v.session) answered.1) rest.served);
        same_name = rest.same_name ∙ ap (λ v. v.name) answered.1;
      }
