-- How an event worker goes on by a turn of a guest, and by a link that comes or goes.
use Rattle.std.proofs.Common.{zero, suc, get_or, set, cond, count_by, is_some, ◌≡◌, ◌≢◌, ◌⊎◌, ◌∙◌, ℕ, ◌+◌, ◌<◌, ◌≤◌, List, [], ◌∷◌, ◌++◌, length, Contains, Option, Some, None, refl, sym, ap, subst, inl, inr, arith}
use Rattle.std.specs.List.{AllByRecursion}
use Rattle.std.proofs.lemmas.Bool.{cases_eq}
use Rattle.std.proofs.lemmas.List.{append-nil, append_assoc}
use Rattle.slab.proofs.SlabLemmas.{Contains-cons}
use Rattle.std.proofs.lemmas.List.Sums.{sum_by-cons}
use Rattle.std.proofs.lemmas.List.Elements.{Contains-append_left, Contains-append_right}
use Rattle.slab.specs.Slab.{Slab, get, slab_len, Updates}
use Rattle.arc_core.specs.declared.ends.End.{End}
use Rattle.arc_core.specs.declared.ends.End.TheVariants as end
use Rattle.arc_core.specs.History.{Entry}
use Rattle.arc_core.specs.Outside.{Linked}
use Rattle.pipe_session.specs.Turns.{SoFar, no_deeds}
use Rattle.turn_lock.specs.Seats.{SeatView}
use Rattle.worker_server.specs.Apart.{session_calls}
use Rattle.worker_server.specs.Ports.{links_then, then_returned}
use Rattle.worker_server.specs.declared.worker.WorkerEnd.{WorkerEnd}
use Rattle.worker_server.specs.Workers.{EndsFor}
use Rattle.event_port.specs.declared.guests.Guest.{Guest}
use Rattle.event_port.specs.declared.guests.Floor.{Floor}
use Rattle.event_port.specs.Pollers.{PollerState, GivesOut, TakesIn}
use Rattle.event_port.specs.Moves.{HasRunEvents, AnyAnswer, Stand, Move, takes_on, hands_back, turns_away, stand, without, IsFull, MovesThrough, came_by, went_by, EventState, IsOfSeat, at_link, IsServedAmong, IsUntouched, IsAnswered}
use Rattle.event_port.specs.Running.{MadeCalls, SameNumbers, HasPlace, IsBegun, StandsAt, StandsSomehow, IsOverWith, HasNone, IsGone, IsGuest, Runs, HandsBack}
use Rattle.pipe_session.specs.Outside.{moment, outside}
use Rattle.event_port.proofs.Calls.{made_none, all_append, called_none, called_on, same_number, calls_own, calls_other, of_seat, ticks_for}
use Rattle.event_port.proofs.Clocks.{ticks_on}
use Rattle.event_port.proofs.Lists.{get_nil, first_in, head_in, few_of, nil_of, served_is, some_inj, none_is_not_some, moves_on, came_append, went_append, no_links, links_more, none_returned, returned_more, without_same, length_without, still_in, some_in}

module _ {L : Type 0} (look : L → Linked) where
  -- every guest of the second was one of the first, under the same number and key
  abbrev pub NumbersFrom : Slab (Guest L) → Slab (Guest L) → Type 0
  NumbersFrom old new = (key : ℕ) (guest' : Guest L) → get new key ≡ Some guest' → (guest : Guest L) × (get old key ≡ Some guest) × (guest'.number ≡ guest.number)

  abbrev pub AreApart : Slab (Guest L) → Type 0
  AreApart guests = (key other : ℕ) (guest guest' : Guest L) → get guests key ≡ Some guest → get guests other ≡ Some guest' → guest.number ≡ guest'.number → key ≡ other

  still_apart : (old new : Slab (Guest L)) → NumbersFrom old new → AreApart old → AreApart new
  still_apart old new from apart key other guest guest' at at' same =
      let one = from key guest at in
      let two = from other guest' at' in
      apart key other one.0 two.0 one.1 two.1 (sym one.2 ∙ (same ∙ two.2))

  still_none : (old new : Slab (Guest L)) → NumbersFrom old new → (number : ℕ) → HasNone old number → HasNone new number
  still_none old new from number none key guest at same = let one = from key guest at in none key one.0 one.1 (sym one.2 ∙ same)

  still_gone : (old new : Slab (Guest L)) → NumbersFrom old new → (came came' : ℕ) → came ≤ came' → (moves : List (Move L)) → AllByRecursion (IsGone old came) moves → AllByRecursion (IsGone new came') moves
  still_gone old new from came came' more [] gone = tt
  still_gone old new from came came' more (takes_on number link ∷ moves) gone = (tt, still_gone old new from came came' more moves gone.1)
  still_gone old new from came came' more (hands_back number link _ ∷ moves) gone =
      let below = gone.0.0 in ((omega arith, still_none old new from number gone.0.1), still_gone old new from came came' more moves gone.1)
  still_gone old new from came came' more (turns_away number link ∷ moves) gone =
      let below = gone.0.0 in ((omega arith, still_none old new from number gone.0.1), still_gone old new from came came' more moves gone.1)

  -- what was answered stays so, whatever moves come behind and whatever calls a guest makes
  still_answered : (moves all extra : List (Move L)) (calls calls' : List Entry) (guests : Slab (Guest L)) (came : ℕ)
      → ((number : ℕ) → HasNone guests number → session_calls number calls' ≡ session_calls number calls)
      → AllByRecursion (IsGone guests came) moves → AllByRecursion (IsAnswered look all calls) moves → AllByRecursion (IsAnswered look (all ++ extra) calls') moves
  still_answered [] all extra calls calls' guests came same gone is = tt
  still_answered (takes_on number link ∷ moves) all extra calls calls' guests came same gone is = (tt, still_answered moves all extra calls calls' guests came same gone.1 is.1)
  still_answered (hands_back number link ended ∷ moves) all extra calls calls' guests came same gone is = (
    (is.0.0, Contains-append_left all extra (takes_on number is.0.0) is.0.1, either is.0.2),
    still_answered moves all extra calls calls' guests came same gone.1 is.1,
  )
    where
      here : session_calls number calls' ≡ session_calls number calls
      here = same number gone.0.1

      either : IsServedAmong look number calls is.0.0 link ended ⊎ IsUntouched look number calls is.0.0 link ended → IsServedAmong look number calls' is.0.0 link ended ⊎ IsUntouched look number calls' is.0.0 link ended
      either (inl served) = inl (record { over = served.over; entries = served.entries ∙ sym here })
      either (inr untouched) = inr (record { same = untouched.same; no_memory = untouched.no_memory; none = here ∙ untouched.none })
  still_answered (turns_away number link ∷ moves) all extra calls calls' guests came same gone is =
      (same number gone.0.1 ∙ is.0, still_answered moves all extra calls calls' guests came same gone.1 is.1)

  still_guest : (moves extra : List (Move L)) (calls calls' : List Entry) (came came' : ℕ) (present present' : List ℕ) (guest : Guest L)
      → session_calls guest.number calls' ≡ session_calls guest.number calls → came ≤ came' → (Contains present guest.number → Contains present' guest.number)
      → IsGuest look moves calls came present guest → IsGuest look (moves ++ extra) calls' came' present' guest
  still_guest moves extra calls calls' came came' present present' guest same more there is = record {
    came = is.came;
    taken_on = Contains-append_left moves extra (takes_on guest.number is.came) is.taken_on;
    stands = (is.stands.0, is.stands.1, is.stands.2 ∙ sym same);
    is_present = there is.is_present;
    below = (let below = is.below in omega arith);
  }

  -- a guest has taken turns, and stands where it stands now
  turned_guest : (moves : List (Move L)) (calls calls' : List Entry) (next : ℕ) (present : List ℕ) (guest guest' : Guest L) (more : List Entry) → guest'.number ≡ guest.number
      → (is : IsGuest look moves calls next present guest) → StandsAt look is.came guest'.link guest'.session (session_calls guest.number calls ++ more)
      → session_calls guest.number calls' ≡ session_calls guest.number calls ++ more → IsGuest look (moves ++ []) calls' next present guest'
  turned_guest moves calls calls' next present guest guest' more same is stands grown = record {
    came = is.came;
    taken_on = subst (λ n. Contains (moves ++ []) (takes_on n is.came)) (sym same) (Contains-append_left moves [] (takes_on guest.number is.came) is.taken_on);
    stands = (stands.0, stands.1, stands.2 ∙ (sym grown ∙ ap (λ n. session_calls n calls') (sym same)));
    is_present = subst (Contains present) (sym same) is.is_present;
    below = (let below = is.below in omega (arith, same));
  }

  -- THE TURN. A guest took turns, and its link has to be asked again.
  pub turned : (before now : EventState L) (floor floor' : Floor L) (key : ℕ) (guest guest' : Guest L) (more : List Entry) (seat : SeatView) (coming : Option (List ℕ)) (poller : PollerState L)
      → (runs : Runs look before now floor) → (at : get floor.guests key ≡ Some guest) → guest'.number ≡ guest.number
      → MadeCalls guest.number more now.seat seat now.coming coming
      → StandsAt look (runs.guests key guest at).came guest'.link guest'.session (session_calls guest.number runs.calls ++ more)
      → Updates floor.guests floor'.guests key (Some guest') → slab_len floor'.guests ≡ slab_len floor.guests → SameNumbers floor floor'
      → poller.port.links ≡ now.poller.port.links → poller.port.returned ≡ now.poller.port.returned → poller.held ≡ now.poller.held
      → Runs look before (record { poller = poller; coming = coming; seat = seat }) floor'
  turned before now floor floor' key guest guest' more seat coming poller runs at same made stands updates size numbers links returned held = record {
    moves = runs.moves ++ [];
    calls = runs.calls ++ more;
    present = runs.present;
    legal = subst (λ ms. MovesThrough floor'.limit (stand 0 0 []) ms (stand floor'.came floor'.taken_on runs.present)) (sym (append-nil runs.moves)) legal';
    links = runs.links ∙ (ap (links_then (came_by runs.moves)) (sym links) ∙ ap (λ ms. links_then (came_by ms) poller.port.links) (sym (append-nil runs.moves)));
    returned = returned ∙ (runs.returned ∙ ap (λ ms. then_returned before.poller.port.returned (went_by ms)) (sym (append-nil runs.moves)));
    held = held ∙ runs.held;
    answered = subst (AllByRecursion (IsAnswered look (runs.moves ++ []) (runs.calls ++ more))) (sym (append-nil runs.moves))
        (still_answered runs.moves runs.moves [] runs.calls (runs.calls ++ more) floor.guests floor.came others runs.gone runs.answered);
    no_others = λ session above.
        let below = is.below in let came = numbers.came in
        calls_other now.seat.number guest.number session runs.calls more (λ e. absurd (omega (arith, e))) made.own ∙ runs.no_others session (omega arith);
    called = called_on before.seat runs.calls now.seat more seat runs.called made.called;
    own = all_append (IsOfSeat before.seat.number) runs.calls more runs.own
        (subst (λ n. AllByRecursion (IsOfSeat n) more) (same_number before.seat runs.calls now.seat runs.called) (of_seat now.seat.number guest.number more made.own));
    seconds = ticks_on runs.calls more before.coming now.coming coming runs.seconds made.seconds;
    guests = guests';
    apart = still_apart floor.guests floor'.guests from runs.apart;
    size = size ∙ runs.size;
    gone = subst (AllByRecursion (IsGone floor'.guests floor'.came)) (sym (append-nil runs.moves))
        (still_gone floor.guests floor'.guests from floor.came floor'.came (let came = numbers.came in omega arith) runs.moves runs.gone);
    within = (let a = numbers.taken_on in let b = numbers.limit in let c = runs.within in omega arith);
    few = runs.few;
  }
    where
      is : IsGuest look runs.moves runs.calls floor.came runs.present guest
      is = runs.guests key guest at

      others : (number : ℕ) → HasNone floor.guests number → session_calls number (runs.calls ++ more) ≡ session_calls number runs.calls
      others number none = calls_other now.seat.number guest.number number runs.calls more (none key guest at) made.own

      legal' : MovesThrough floor'.limit (stand 0 0 []) runs.moves (stand floor'.came floor'.taken_on runs.present)
      legal' = subst (λ c. MovesThrough floor'.limit (stand 0 0 []) runs.moves (stand c floor'.taken_on runs.present)) (sym numbers.came)
          (subst (λ t. MovesThrough floor'.limit (stand 0 0 []) runs.moves (stand floor.came t runs.present)) (sym numbers.taken_on)
          (subst (λ l. MovesThrough l (stand 0 0 []) runs.moves (stand floor.came floor.taken_on runs.present)) (sym numbers.limit) runs.legal))

      from : NumbersFrom floor.guests floor'.guests
      from k g at' =
          elim (cases_eq k key) [
            | inl here ↦ (guest, ap (get floor.guests) here ∙ at, ap (λ x. x.number) (some_inj g guest' (sym at' ∙ (ap (get floor'.guests) here ∙ updates.changed))) ∙ same)
            | inr there ↦ (g, sym (updates.others k there) ∙ at', refl)
          ]

      guests' : (k : ℕ) (g : Guest L) → get floor'.guests k ≡ Some g → IsGuest look (runs.moves ++ []) (runs.calls ++ more) floor'.came runs.present g
      guests' k g at' =
          elim (cases_eq k key) [
            | inl here ↦ subst (IsGuest look (runs.moves ++ []) (runs.calls ++ more) floor'.came runs.present) (some_inj guest' g (sym (ap (get floor'.guests) here ∙ updates.changed) ∙ at'))
                (subst (λ c. IsGuest look (runs.moves ++ []) (runs.calls ++ more) c runs.present guest') (sym numbers.came)
                (turned_guest runs.moves runs.calls (runs.calls ++ more) floor.came runs.present guest guest' more same is stands (calls_own now.seat.number guest.number runs.calls more made.own)))
            | inr there ↦
                let at'' : get floor.guests k ≡ Some g = sym (updates.others k there) ∙ at' in
                still_guest runs.moves [] runs.calls (runs.calls ++ more) floor.came floor'.came runs.present runs.present g
                (calls_other now.seat.number guest.number g.number runs.calls more (λ e. there (runs.apart k key g guest at'' at (sym e))) made.own)
                (let came = numbers.came in omega arith) (λ p. p) (runs.guests k g at'')
          ]

  -- A guest took turns, and its session is over: its link went back with that end.
  pub ended : (before now : EventState L) (floor middle floor' : Floor L) (key : ℕ) (guest guest' : Guest L) (more : List Entry) (seat : SeatView) (coming : Option (List ℕ)) (poller : PollerState L) (ending : End)
      → (runs : Runs look before now floor) → (at : get floor.guests key ≡ Some guest) → guest'.number ≡ guest.number
      → MadeCalls guest.number more now.seat seat now.coming coming
      → IsOverWith look (runs.guests key guest at).came guest'.link ending (session_calls guest.number runs.calls ++ more)
      → Updates floor.guests middle.guests key (Some guest') → slab_len middle.guests ≡ slab_len floor.guests → SameNumbers floor middle
      → HandsBack middle now.poller key ending floor' poller
      → Runs look before (record { poller = poller; coming = coming; seat = seat }) floor'
  ended before now floor middle floor' key guest guest' more seat coming poller ending runs at same made over written size numbers back = record {
    moves = runs.moves ++ last;
    calls = runs.calls ++ more;
    present = without guest.number runs.present;
    legal = moves_on floor'.limit runs.moves (hands_back guest.number guest'.link ending) (stand 0 0 []) (stand floor'.came floor'.taken_on runs.present) _ legal' (is.is_present, refl);
    links = runs.links ∙ (ap (links_then (came_by runs.moves)) (sym (ap (λ p. p.links) taken.port)) ∙ ap (λ ls. links_then ls poller.port.links) (sym (came_append runs.moves last ∙ append-nil (came_by runs.moves))));
    returned = ap (λ p. p.returned) taken.port
        ∙ (ap (λ r. then_returned r ((guest'.link, ending) ∷ [])) runs.returned
        ∙ (returned_more before.poller.port.returned (went_by runs.moves) ((guest'.link, ending) ∷ []) ∙ ap (then_returned before.poller.port.returned) (sym (went_append runs.moves last))));
    held = (let a = taken.held in let b = runs.held in let d = length_without guest.number runs.present is.is_present in omega arith);
    answered = all_append (IsAnswered look (runs.moves ++ last) (runs.calls ++ more)) runs.moves last
        (still_answered runs.moves runs.moves last runs.calls (runs.calls ++ more) floor.guests floor.came others runs.gone runs.answered) (answered', tt);
    no_others = λ session above.
        let below = is.below in let came = came' in
        calls_other now.seat.number guest.number session runs.calls more (λ e. absurd (omega (arith, e))) made.own ∙ runs.no_others session (omega arith);
    called = called_on before.seat runs.calls now.seat more seat runs.called made.called;
    own = all_append (IsOfSeat before.seat.number) runs.calls more runs.own
        (subst (λ n. AllByRecursion (IsOfSeat n) more) (same_number before.seat runs.calls now.seat runs.called) (of_seat now.seat.number guest.number more made.own));
    seconds = ticks_on runs.calls more before.coming now.coming coming runs.seconds made.seconds;
    guests = guests';
    apart = still_apart floor.guests floor'.guests from runs.apart;
    size = (let a = back.fewer in let b = size in let d = runs.size in let e = length_without guest.number runs.present is.is_present in omega arith);
    gone = all_append (IsGone floor'.guests floor'.came) runs.moves last (still_gone floor.guests floor'.guests from floor.came floor'.came (let came = came' in omega arith) runs.moves runs.gone) ((below', none'), tt);
    within = (let a = numbers.taken_on in let b = numbers.limit in let d = back.numbers.taken_on in let e = back.numbers.limit in let f = runs.within in omega arith);
    few = (let a = runs.few in let e = length_without guest.number runs.present is.is_present in omega arith);
  }
    where
      last : List (Move L)
      last = hands_back guest.number guest'.link ending ∷ []

      is : IsGuest look runs.moves runs.calls floor.came runs.present guest
      is = runs.guests key guest at

      came' : floor'.came ≡ floor.came
      came' = back.numbers.came ∙ numbers.came

      was : back.guest ≡ guest'
      was = some_inj back.guest guest' (sym back.was ∙ written.changed)

      taken : TakesIn now.poller guest'.link ending poller
      taken = subst (λ x. TakesIn now.poller x.link ending poller) was back.taken

      below' : guest.number < floor'.came
      below' = let below = is.below in let came = came' in omega arith

      others : (number : ℕ) → HasNone floor.guests number → session_calls number (runs.calls ++ more) ≡ session_calls number runs.calls
      others number none = calls_other now.seat.number guest.number number runs.calls more (none key guest at) made.own

      legal' : MovesThrough floor'.limit (stand 0 0 []) runs.moves (stand floor'.came floor'.taken_on runs.present)
      legal' = subst (λ c. MovesThrough floor'.limit (stand 0 0 []) runs.moves (stand c floor'.taken_on runs.present)) (sym came')
          (subst (λ t. MovesThrough floor'.limit (stand 0 0 []) runs.moves (stand floor.came t runs.present)) (sym (back.numbers.taken_on ∙ numbers.taken_on))
          (subst (λ l. MovesThrough l (stand 0 0 []) runs.moves (stand floor.came floor.taken_on runs.present)) (sym (back.numbers.limit ∙ numbers.limit)) runs.legal))

      elsewhere : (k : ℕ) (g : Guest L) → get floor'.guests k ≡ Some g → k ≡ key → ⊥
      elsewhere k g at' here = none_is_not_some g (sym back.updates.changed ∙ (ap (get floor'.guests) (sym here) ∙ at'))

      there : (k : ℕ) (g : Guest L) → get floor'.guests k ≡ Some g → get floor.guests k ≡ Some g
      there k g at' = sym (written.others k (elsewhere k g at')) ∙ (sym (back.updates.others k (elsewhere k g at')) ∙ at')

      from : NumbersFrom floor.guests floor'.guests
      from k g at' = (g, there k g at', refl)

      differs : (k : ℕ) (g : Guest L) → get floor'.guests k ≡ Some g → g.number ≢ guest.number
      differs k g at' e = elsewhere k g at' (runs.apart k key g guest (there k g at') at e)

      none' : HasNone floor'.guests guest.number
      none' k g at' = differs k g at'

      answered' : IsAnswered look (runs.moves ++ last) (runs.calls ++ more) (hands_back guest.number guest'.link ending)
      answered' = (
        is.came,
        Contains-append_left runs.moves last (takes_on guest.number is.came) is.taken_on,
        inl (record { over = over.0; entries = over.1 ∙ sym (calls_own now.seat.number guest.number runs.calls more made.own) }),
      )

      guests' : (k : ℕ) (g : Guest L) → get floor'.guests k ≡ Some g → IsGuest look (runs.moves ++ last) (runs.calls ++ more) floor'.came (without guest.number runs.present) g
      guests' k g at' =
          still_guest runs.moves last runs.calls (runs.calls ++ more) floor.came floor'.came runs.present (without guest.number runs.present) g
          (calls_other now.seat.number guest.number g.number runs.calls more (λ e. differs k g at' (sym e)) made.own)
          (let came = came' in omega arith) (still_in guest.number g.number runs.present (differs k g at')) (runs.guests k g (there k g at'))

  pub stands_somehow : (before now : EventState L) (floor : Floor L) (key : ℕ) (guest : Guest L) → Runs look before now floor → get floor.guests key ≡ Some guest → StandsSomehow look guest now.coming
  stands_somehow before now floor key guest runs at =
      let is = runs.guests key guest at in (is.came, session_calls guest.number runs.calls, ticks_for guest.number runs.calls before.coming now.coming runs.seconds, is.stands)

  pub some_held : (before now : EventState L) (floor : Floor L) (key : ℕ) (guest : Guest L) → Runs look before now floor → get floor.guests key ≡ Some guest → 0 < now.poller.held
  some_held before now floor key guest runs at = let a = some_in guest.number runs.present (runs.guests key guest at).is_present in let b = runs.held in omega arith

  -- The link of a guest is watched, and tells what it told before.
  pub watched : (before now : EventState L) (floor floor' : Floor L) (key : ℕ) (guest guest' : Guest L) (poller : PollerState L) → Runs look before now floor → get floor.guests key ≡ Some guest
      → guest'.number ≡ guest.number → guest'.session ≡ guest.session → look guest'.link ≡ look guest.link
      → Updates floor.guests floor'.guests key (Some guest') → slab_len floor'.guests ≡ slab_len floor.guests → SameNumbers floor floor'
      → poller.port.links ≡ now.poller.port.links → poller.port.returned ≡ now.poller.port.returned → poller.held ≡ now.poller.held
      → Runs look before (record now { poller = poller }) floor'
  watched before now floor floor' key guest guest' poller runs at same_number same_session same_look =
      let is = runs.guests key guest at in
      let there : SoFar AnyAnswer (at_link look is.came) (at_link look guest'.link) guest'.session is.stands.0 =
      subst (λ l. SoFar AnyAnswer (at_link look is.came) (moment tt (outside l.incoming l.outgoing None)) guest'.session is.stands.0) (sym same_look)
      (subst (λ s. SoFar AnyAnswer (at_link look is.came) (at_link look guest.link) s is.stands.0) (sym same_session) is.stands.1) in
      turned before now floor floor' key guest guest' [] now.seat now.coming poller runs at same_number (made_none guest.number now.seat now.coming)
      (is.stands.0, there, is.stands.2 ∙ sym (append-nil (session_calls guest.number runs.calls)))

  -- the links and the pairs of the poller, behind one link that came
  links_behind : (before : PollerState L) (now given after : PollerState L) (moves extra : List (Move L)) (link : L) → before.port.links ≡ links_then (came_by moves) now.port.links
      → GivesOut now link given → after.port.links ≡ given.port.links → came_by extra ≡ link ∷ [] → before.port.links ≡ links_then (came_by (moves ++ extra)) after.port.links
  links_behind before now given after moves extra link links gives same is =
      links ∙ (ap (λ p. links_then (came_by moves) p.links) gives.port
      ∙ (links_more (came_by moves) (link ∷ []) given.port.links
      ∙ (ap (links_then (came_by moves ++ link ∷ [])) (sym same) ∙ ap (λ ls. links_then ls after.port.links) (sym (came_append moves extra ∙ ap (λ ls. came_by moves ++ ls) is)))))

  returned_behind : (before now given after : PollerState L) (moves extra : List (Move L)) (pairs : List (L × End)) → now.port.returned ≡ then_returned before.port.returned (went_by moves)
      → given.port.returned ≡ now.port.returned → after.port.returned ≡ then_returned given.port.returned pairs → went_by extra ≡ pairs
      → after.port.returned ≡ then_returned before.port.returned (went_by (moves ++ extra))
  returned_behind before now given after moves extra pairs returned same is are =
      is ∙ (ap (λ r. then_returned r pairs) (same ∙ returned)
      ∙ (returned_more before.port.returned (went_by moves) pairs ∙ ap (then_returned before.port.returned) (sym (went_append moves extra ∙ ap (λ ls. went_by moves ++ ls) are))))

  -- the guests that were there are still there, and a further number is none of theirs
  kept_guests : (floor : Floor L) (guests : Slab (Guest L)) (moves extra : List (Move L)) (calls : List Entry) (came came' : ℕ) (present present' : List ℕ)
      → ((key : ℕ) → get guests key ≡ get floor.guests key) → came ≤ came' → ((n : ℕ) → Contains present n → Contains present' n)
      → ((key : ℕ) (guest : Guest L) → get floor.guests key ≡ Some guest → IsGuest look moves calls came present guest)
      → (key : ℕ) (guest : Guest L) → get guests key ≡ Some guest → IsGuest look (moves ++ extra) calls came' present' guest
  kept_guests floor guests moves extra calls came came' present present' same more there is key guest at =
      still_guest moves extra calls calls came came' present present' guest refl more (there guest.number) (is key guest (sym (same key) ∙ at))

  none_next : (before now : EventState L) (floor : Floor L) → Runs look before now floor → HasNone floor.guests floor.came
  none_next before now floor runs key guest at e = let below = (runs.guests key guest at).below in absurd (omega (arith, e))

  -- what a link that came leaves of the counts
  pub record CameTo (floor floor' : Floor L) (taken : ℕ) : Type 0 where
    pub came : floor'.came ≡ floor.came + 1
    pub taken_on : floor'.taken_on ≡ floor.taken_on + taken
    pub limit : floor'.limit ≡ floor.limit

  -- A link came and went at once, where there is no room.
  pub turned_away : (before now : EventState L) (floor floor' : Floor L) (link : L) (given after : PollerState L) → Runs look before now floor → GivesOut now.poller link given
      → TakesIn given link end.Crowded after → (slab_len floor.guests ≡ 1024) ⊎ (floor.taken_on ≡ floor.limit) → floor'.guests ≡ floor.guests → CameTo floor floor' 0
      → Runs look before (record now { poller = after }) floor'
  turned_away before now floor floor' link given after runs gives takes full guests counts = record {
    moves = runs.moves ++ last;
    calls = runs.calls;
    present = runs.present;
    legal = moves_on floor'.limit runs.moves (turns_away floor.came link) (stand 0 0 []) (stand floor.came floor.taken_on runs.present) (stand floor'.came floor'.taken_on runs.present)
        (subst (λ l. MovesThrough l (stand 0 0 []) runs.moves (stand floor.came floor.taken_on runs.present)) (sym counts.limit) runs.legal)
        (refl, either full, ap (λ c. stand c floor'.taken_on runs.present) counts.came ∙ ap (λ t. stand (floor.came + 1) t runs.present) (let t = counts.taken_on in omega arith));
    links = links_behind before.poller now.poller given after runs.moves last link runs.links gives (ap (λ p. p.links) takes.port) refl;
    returned = returned_behind before.poller now.poller given after runs.moves last ((link, end.Crowded) ∷ []) runs.returned (sym (ap (λ p. p.returned) gives.port)) (ap (λ p. p.returned) takes.port) refl;
    held = (let a = takes.held in let b = gives.held in let d = runs.held in omega arith);
    answered = all_append (IsAnswered look (runs.moves ++ last) runs.calls) runs.moves last
        (still_answered runs.moves runs.moves last runs.calls runs.calls floor.guests floor.came (λ number none. refl) runs.gone runs.answered) (runs.no_others floor.came (omega arith), tt);
    no_others = λ session above. let a = counts.came in runs.no_others session (omega arith);
    called = runs.called;
    own = runs.own;
    seconds = runs.seconds;
    guests = kept_guests floor floor'.guests runs.moves last runs.calls floor.came floor'.came runs.present runs.present same (let a = counts.came in omega arith) (λ n is. is) runs.guests;
    apart = still_apart floor.guests floor'.guests from runs.apart;
    size = ap slab_len guests ∙ runs.size;
    gone = all_append (IsGone floor'.guests floor'.came) runs.moves last (still_gone floor.guests floor'.guests from floor.came floor'.came (let a = counts.came in omega arith) runs.moves runs.gone)
        (((let a = counts.came in omega arith), still_none floor.guests floor'.guests from floor.came (none_next before now floor runs)), tt);
    within = (let a = counts.taken_on in let b = counts.limit in let d = runs.within in omega arith);
    few = runs.few;
  }
    where
      last : List (Move L)
      last = turns_away floor.came link ∷ []

      same : (key : ℕ) → get floor'.guests key ≡ get floor.guests key
      same key = ap (λ s. get s key) guests

      from : NumbersFrom floor.guests floor'.guests
      from key guest at = (guest, sym (same key) ∙ at, refl)

      either : (slab_len floor.guests ≡ 1024) ⊎ (floor.taken_on ≡ floor.limit) → IsFull floor'.limit (stand floor.came floor.taken_on runs.present)
      either (inl is) = inl (sym runs.size ∙ is)
      either (inr is) = inr (is ∙ sym counts.limit)

  -- A link came and was taken on, but there was no memory for it: it went at once.
  pub untouched : (before now : EventState L) (floor floor' : Floor L) (link : L) (given after : PollerState L) → Runs look before now floor → GivesOut now.poller link given
      → TakesIn given link end.NoMemory after → HasPlace floor → ((key : ℕ) → get floor'.guests key ≡ get floor.guests key) → slab_len floor'.guests ≡ slab_len floor.guests → CameTo floor floor' 1
      → Runs look before (record now { poller = after }) floor'
  untouched before now floor floor' link given after runs gives takes room same size counts = record {
    moves = runs.moves ++ last;
    calls = runs.calls;
    present = runs.present;
    legal = subst (λ ms. MovesThrough floor'.limit (stand 0 0 []) ms (stand floor'.came floor'.taken_on runs.present)) (append_assoc runs.moves (takes_on floor.came link ∷ []) (hands_back floor.came link end.NoMemory ∷ []))
        (moves_on floor'.limit (runs.moves ++ takes_on floor.came link ∷ []) (hands_back floor.came link end.NoMemory) (stand 0 0 []) between (stand floor'.came floor'.taken_on runs.present)
        (moves_on floor'.limit runs.moves (takes_on floor.came link) (stand 0 0 []) (stand floor.came floor.taken_on runs.present) between
        (subst (λ l. MovesThrough l (stand 0 0 []) runs.moves (stand floor.came floor.taken_on runs.present)) (sym counts.limit) runs.legal)
        (refl, few', below', refl)) (
          head_in floor.came runs.present,
          (ap (λ c. stand c floor'.taken_on runs.present) counts.came ∙ (ap (λ t. stand (floor.came + 1) t runs.present) counts.taken_on ∙ ap (stand (floor.came + 1) (floor.taken_on + 1)) (sym (without_same floor.came runs.present)))),
        ));
    links = links_behind before.poller now.poller given after runs.moves last link runs.links gives (ap (λ p. p.links) takes.port) refl;
    returned = returned_behind before.poller now.poller given after runs.moves last ((link, end.NoMemory) ∷ []) runs.returned (sym (ap (λ p. p.returned) gives.port)) (ap (λ p. p.returned) takes.port) refl;
    held = (let a = takes.held in let b = gives.held in let d = runs.held in omega arith);
    answered = all_append (IsAnswered look (runs.moves ++ last) runs.calls) runs.moves last
        (still_answered runs.moves runs.moves last runs.calls runs.calls floor.guests floor.came (λ number none. refl) runs.gone runs.answered) (
          tt,
          (
            (
              link,
              Contains-append_right runs.moves last (takes_on floor.came link) (first_in (takes_on floor.came link) (hands_back floor.came link end.NoMemory ∷ [])),
              inr (record { same = refl; no_memory = refl; none = runs.no_others floor.came (omega arith) }),
            ),
            tt,
          ),
        );
    no_others = λ session above. let a = counts.came in runs.no_others session (omega arith);
    called = runs.called;
    own = runs.own;
    seconds = runs.seconds;
    guests = kept_guests floor floor'.guests runs.moves last runs.calls floor.came floor'.came runs.present runs.present same (let a = counts.came in omega arith) (λ n is. is) runs.guests;
    apart = still_apart floor.guests floor'.guests from runs.apart;
    size = size ∙ runs.size;
    gone = all_append (IsGone floor'.guests floor'.came) runs.moves last (still_gone floor.guests floor'.guests from floor.came floor'.came (let a = counts.came in omega arith) runs.moves runs.gone)
        (tt, (((let a = counts.came in omega arith), still_none floor.guests floor'.guests from floor.came (none_next before now floor runs)), tt));
    within = (let a = counts.taken_on in let b = counts.limit in let d = room.below in omega arith);
    few = runs.few;
  }
    where
      last : List (Move L)
      last = takes_on floor.came link ∷ hands_back floor.came link end.NoMemory ∷ []

      between : Stand
      between = stand (floor.came + 1) (floor.taken_on + 1) (floor.came ∷ runs.present)

      few' : length runs.present < 1024
      few' = few_of (slab_len floor.guests) (length runs.present) 1024 runs.size room.few runs.few

      below' : floor.taken_on < floor'.limit
      below' = let a = room.below in let b = counts.limit in omega arith

      from : NumbersFrom floor.guests floor'.guests
      from key guest at = (guest, sym (same key) ∙ at, refl)

  -- A link came and was taken on, and a fresh session serves it.
  pub taken_on : (before now : EventState L) (floor floor' : Floor L) (link : L) (given : PollerState L) (key : ℕ) (guest : Guest L) → Runs look before now floor → GivesOut now.poller link given
      → HasPlace floor → guest.number ≡ floor.came → guest.link ≡ link → SoFar AnyAnswer (at_link look link) (at_link look guest.link) guest.session no_deeds
      → get floor.guests key ≡ None → Updates floor.guests floor'.guests key (Some guest) → slab_len floor'.guests ≡ slab_len floor.guests + 1 → CameTo floor floor' 1
      → Runs look before (record now { poller = given }) floor'
  taken_on before now floor floor' link given key guest runs gives room number same_link fresh vacant updates size counts = record {
    moves = runs.moves ++ last;
    calls = runs.calls;
    present = present';
    legal = moves_on floor'.limit runs.moves (takes_on floor.came link) (stand 0 0 []) (stand floor.came floor.taken_on runs.present) (stand floor'.came floor'.taken_on present')
        (subst (λ l. MovesThrough l (stand 0 0 []) runs.moves (stand floor.came floor.taken_on runs.present)) (sym counts.limit) runs.legal)
        (refl, few', below', ap (λ c. stand c floor'.taken_on present') counts.came ∙ ap (λ t. stand (floor.came + 1) t present') counts.taken_on);
    links = links_behind before.poller now.poller given given runs.moves last link runs.links gives refl refl;
    returned = returned_behind before.poller now.poller given given runs.moves last [] runs.returned (sym (ap (λ p. p.returned) gives.port)) (none_returned given.port.returned) refl;
    held = (let b = gives.held in let d = runs.held in omega arith);
    answered = all_append (IsAnswered look (runs.moves ++ last) runs.calls) runs.moves last
        (still_answered runs.moves runs.moves last runs.calls runs.calls floor.guests floor.came (λ number none. refl) runs.gone runs.answered) (tt, tt);
    no_others = λ session above. let a = counts.came in runs.no_others session (omega arith);
    called = runs.called;
    own = runs.own;
    seconds = runs.seconds;
    guests = guests';
    apart = apart';
    size = (let a = size in let b = runs.size in omega arith);
    gone = all_append (IsGone floor'.guests floor'.came) runs.moves last (gone' runs.moves runs.gone) (tt, tt);
    within = (let a = counts.taken_on in let b = counts.limit in let d = room.below in omega arith);
    few = few';
  }
    where
      last : List (Move L)
      last = takes_on floor.came link ∷ []

      present' : List ℕ
      present' = floor.came ∷ runs.present

      few' : length runs.present < 1024
      few' = few_of (slab_len floor.guests) (length runs.present) 1024 runs.size room.few runs.few

      below' : floor.taken_on < floor'.limit
      below' = let a = room.below in let b = counts.limit in omega arith

      old_or_new : (k : ℕ) (g : Guest L) → get floor'.guests k ≡ Some g → ((k ≡ key) × (guest ≡ g)) ⊎ (get floor.guests k ≡ Some g)
      old_or_new k g at =
          elim (cases_eq k key) [
            | inl here ↦ inl (here, some_inj guest g (sym updates.changed ∙ (ap (get floor'.guests) (sym here) ∙ at)))
            | inr there ↦ inr (sym (updates.others k there) ∙ at)
          ]

      below_next : (k : ℕ) (g : Guest L) → get floor.guests k ≡ Some g → g.number ≢ floor.came
      below_next k g at e = let below = (runs.guests k g at).below in absurd (omega (arith, e))

      new_guest : IsGuest look (runs.moves ++ last) runs.calls floor'.came present' guest
      new_guest = record {
        came = link;
        taken_on = subst (λ n. Contains (runs.moves ++ last) (takes_on n link)) (sym number) (Contains-append_right runs.moves last (takes_on floor.came link) (first_in (takes_on floor.came link) []));
        stands = (no_deeds, fresh, sym (ap (λ n. session_calls n runs.calls) number ∙ runs.no_others floor.came (omega arith)));
        is_present = subst (Contains present') (sym number) (head_in floor.came runs.present);
        below = (let a = counts.came in omega (arith, number));
      }

      guests' : (k : ℕ) (g : Guest L) → get floor'.guests k ≡ Some g → IsGuest look (runs.moves ++ last) runs.calls floor'.came present' g
      guests' k g at = either (old_or_new k g at)
        where
          either : ((k ≡ key) × (guest ≡ g)) ⊎ (get floor.guests k ≡ Some g) → IsGuest look (runs.moves ++ last) runs.calls floor'.came present' g
          either (inl is) = subst (IsGuest look (runs.moves ++ last) runs.calls floor'.came present') is.1 new_guest
          either (inr is) = still_guest runs.moves last runs.calls runs.calls floor.came floor'.came runs.present present' g refl (let a = counts.came in omega arith) (λ p. Contains-cons floor.came g.number runs.present p) (runs.guests k g is)

      apart' : AreApart floor'.guests
      apart' k o g g' at at' same = either (old_or_new k g at) (old_or_new o g' at')
        where
          either : ((k ≡ key) × (guest ≡ g)) ⊎ (get floor.guests k ≡ Some g) → ((o ≡ key) × (guest ≡ g')) ⊎ (get floor.guests o ≡ Some g') → k ≡ o
          either (inl is) (inl is') = is.0 ∙ sym is'.0
          either (inl is) (inr is') = absurd (below_next o g' is' (sym same ∙ (ap (λ x. x.number) (sym is.1) ∙ number)))
          either (inr is) (inl is') = absurd (below_next k g is (same ∙ (ap (λ x. x.number) (sym is'.1) ∙ number)))
          either (inr is) (inr is') = runs.apart k o g g' is is' same

      none' : (n : ℕ) → n < floor.came → HasNone floor.guests n → HasNone floor'.guests n
      none' n below none k g at e = either (old_or_new k g at)
        where
          either : ((k ≡ key) × (guest ≡ g)) ⊎ (get floor.guests k ≡ Some g) → ⊥
          either (inl is) = let a : floor.came ≡ n = sym number ∙ (ap (λ x. x.number) is.1 ∙ e) in absurd (omega (arith, a, below))
          either (inr is) = none k g is e

      gone' : (moves : List (Move L)) → AllByRecursion (IsGone floor.guests floor.came) moves → AllByRecursion (IsGone floor'.guests floor'.came) moves
      gone' [] gone = tt
      gone' (takes_on n l ∷ moves) gone = (tt, gone' moves gone.1)
      gone' (hands_back n l e ∷ moves) gone = let below = gone.0.0 in let a = counts.came in ((omega arith, none' n below gone.0.1), gone' moves gone.1)
      gone' (turns_away n l ∷ moves) gone = let below = gone.0.0 in let a = counts.came in ((omega arith, none' n below gone.0.1), gone' moves gone.1)

  -- nothing was done yet
  pub begins : (before : EventState L) (floor : Floor L) (limit : ℕ) → IsBegun limit floor → Runs look before before floor
  begins before floor limit is = record {
    moves = [];
    calls = [];
    present = [];
    legal = ap (λ c. stand c floor.taken_on []) is.none_came ∙ ap (λ t. stand 0 t []) is.none_taken_on;
    links = no_links before.poller.port.links;
    returned = none_returned before.poller.port.returned;
    held = omega arith;
    answered = tt;
    no_others = λ session above. refl;
    called = called_none before.seat;
    own = tt;
    seconds = refl;
    guests = λ key guest at. absurd (none key guest at);
    apart = λ key other guest guest' at at' same. absurd (none key guest at);
    size = ap (count_by is_some) is.none;
    gone = tt;
    within = (let a = is.none_taken_on in omega arith);
    few = omega arith;
  }
    where
      none : (key : ℕ) (guest : Guest L) → get floor.guests key ≡ Some guest → ⊥
      none key guest at = none_is_not_some guest (sym (ap (λ slots. get_or slots key None) is.none ∙ get_nil key) ∙ at)

  -- IN THE END no guest is left.
  pub finished : (before now : EventState L) (floor : Floor L) (limit : ℕ) (ending : WorkerEnd) → Runs look before now floor → slab_len floor.guests ≡ 0 → floor.limit ≡ limit
      → EndsFor ending floor.taken_on limit before.poller.port now.poller.port → HasRunEvents look limit before now ending floor.taken_on
  finished before now floor limit ending runs none same ends = record {
    moves = runs.moves;
    calls = runs.calls;
    number = floor.came;
    legal = subst (λ l. MovesThrough l (stand 0 0 []) runs.moves (stand floor.came floor.taken_on [])) same
        (subst (λ p. MovesThrough floor.limit (stand 0 0 []) runs.moves (stand floor.came floor.taken_on p)) empty runs.legal);
    count = (let a = served_is floor.limit runs.moves (stand 0 0 []) (stand floor.came floor.taken_on runs.present) runs.legal in let b = runs.size in omega (arith, none));
    links = runs.links;
    returned = runs.returned;
    held = (let a = runs.held in let b = runs.size in omega (arith, none));
    answered = runs.answered;
    no_others = runs.no_others;
    called = runs.called;
    own = runs.own;
    seconds = runs.seconds;
    ends = ends;
  }
    where
      empty : runs.present ≡ []
      empty = nil_of runs.present (sym runs.size ∙ none)

pub takes_same : {L : Type 0} (before after : PollerState L) (link link' : L) (ending : End) → link ≡ link' → TakesIn before link ending after → TakesIn before link' ending after
takes_same before after link link' ending same = subst (λ l. TakesIn before l ending after) same

-- a value was written at a key that has one
pub same_count : {X : Type 0} (slots : List (Option X)) (key : ℕ) (old new : X) → get_or slots key None ≡ Some old → count_by is_some (set slots key (Some new)) ≡ count_by is_some slots
same_count [] key old new at = refl
same_count (None ∷ slots) zero old new at = absurd (none_is_not_some old at)
same_count (Some value ∷ slots) zero old new at = refl
same_count (None ∷ slots) (suc key) old new at = same_count slots key old new at
same_count {X} (Some value ∷ slots) (suc key) old new at =
    let f : Option X → ℕ = λ x. cond (is_some x) 1 0 in
    sum_by-cons f (Some value) (set slots key (Some new)) ∙ (ap (λ n. 1 + n) (same_count slots key old new at) ∙ sym (sum_by-cons f (Some value) slots))
