-- One session among many: what a turn over its desk says of it, whatever the seat and the clock did between its turns.
use Rattle.std.proofs.Common.{◌≡◌, ◌∙◌, ℕ, false, List, [], ◌∷◌, ◌++◌, Option, None, refl, sym, ap, subst}
use Rattle.std.proofs.lemmas.List.{append-nil, append_assoc}
use Rattle.arc_core.specs.declared.ends.End.{End}
use Rattle.arc_core.specs.declared.ends.End.TheVariants as end
use Rattle.arc_core.specs.Framing.{Whole}
use Rattle.arc_core.specs.History.{Entry}
use Rattle.pipe_session.specs.declared.turn.Turn.{Turn}
use Rattle.pipe_session.specs.declared.turn.Turn.TheVariants as turn
use Rattle.pipe_session.specs.declared.phase.Phase.{Phase}
use Rattle.pipe_session.specs.declared.phase.Phase.TheVariants as phase
use Rattle.pipe_session.specs.Desks.{Serves, TicksThrough}
use Rattle.pipe_session.specs.Ends.{ReadToEnd, Ends, CountsOnly}
use Rattle.pipe_session.specs.Outside.{Moment, moment, outside}
use Rattle.pipe_session.specs.Turns.{Standing, Deeds, SoFar, IsOver, TurnLeaves, IsFresh, IsAtEnd, IsWithin, TellsNow, is_over, no_deeds}
use Rattle.arc_core.specs.Outside.{Incoming, Outgoing, Linked}
use Rattle.pipe_session.proofs.Texts.{sent_no_more}
use Rattle.pipe_session.proofs.Ending.{took_nothing}
use Rattle.turn_lock.specs.Seats.{SeatView}
use Rattle.worker_server.specs.Sessions.{IsCallOf}
use Rattle.worker_server.proofs.Serving.{has_called, all_own}
use Rattle.event_port.specs.declared.guests.Guest.{Guest}
use Rattle.event_port.specs.Desks.{Behind, behind}
use Rattle.event_port.specs.Moves.{AnyAnswer}
use Rattle.event_port.specs.Running.{GoesOnTicking, MadeCalls, StandsAt, TurnedTo}
use Rattle.event_port.proofs.Calls.{made_none, made_on}
use Rattle.event_port.proofs.Clocks.{none_tick, ticked_before, ticked_behind, goes_on}
use Rattle.event_port.proofs.Past.{Next, told_again, called_behind}

pub any_serve : (entries : List Entry) → Serves AnyAnswer tt entries tt
any_serve [] = refl
any_serve (entry ∷ entries) = (tt, tt, any_serve entries)

-- a session, by what is outside of it but for desk and clock
abbrev pub alone : Incoming → Outgoing → Moment (Unit {0})
alone into out = moment tt (outside into out None)

module _ {D : Type 0} (answers : D → Entry → D → Type 0) where
  pub at_desk : (from to : D) (began coming : Option (List ℕ)) (into into' : Incoming) (out out' : Outgoing) (at : Standing) (deeds : Deeds)
      → SoFar AnyAnswer (alone into out) (alone into' out') at deeds → Serves answers from deeds.entries to → TicksThrough began deeds.entries coming
      → SoFar answers (moment from (outside into out began)) (moment to (outside into' out' coming)) at deeds
  at_desk from to began coming into into' out out' at deeds so served ticked = record {
    took = so.took;
    no_fault = so.no_fault;
    number = so.number;
    within = so.within;
    at_end = so.at_end;
    tells = so.tells;
    served = served;
    seconds = ticked;
    parts = so.parts;
    sent = so.sent;
  }

  pub apart_from_desk : (from to : D) (began coming : Option (List ℕ)) (into into' : Incoming) (out out' : Outgoing) (at : Standing) (deeds : Deeds)
      → SoFar answers (moment from (outside into out began)) (moment to (outside into' out' coming)) at deeds
      → SoFar AnyAnswer (alone into out) (alone into' out') at deeds
  apart_from_desk from to began coming into into' out out' at deeds so = record {
    took = so.took;
    no_fault = so.no_fault;
    number = so.number;
    within = so.within;
    at_end = so.at_end;
    tells = so.tells;
    served = any_serve deeds.entries;
    seconds = none_tick deeds.entries;
    parts = so.parts;
    sent = so.sent;
  }

  read_apart : (began coming : Option (List ℕ)) (into into' : Incoming) (out out' : Outgoing) (taken : List ℕ)
      → ReadToEnd (outside into out began) (outside into' out' coming) taken → ReadToEnd (outside into out None) (outside into' out' None) taken
  read_apart began coming into into' out out' taken is = record { ended = is.ended; no_fault = is.no_fault; short = is.short }

  ends_apart : (ending : End) (began coming : Option (List ℕ)) (into into' : Incoming) (out out' : Outgoing) (taken : List ℕ) (units : List Whole) (tail text : List ℕ)
      → Ends ending (outside into out began) (outside into' out' coming) taken units tail text → Ends ending (outside into out None) (outside into' out' None) taken units tail text
  ends_apart end.Ended began coming into into' out out' taken units tail text is =
      record { read = read_apart began coming into into' out out' taken is.read; behind_a_unit = is.behind_a_unit; handled = is.handled; sent = is.sent }
  ends_apart end.Quit began coming into into' out out' taken units tail text is = record { quits = is.quits; short_tail = is.short_tail; few = is.few; sent = is.sent }
  ends_apart (end.Cut rest) began coming into into' out out' taken units tail text is =
      record { read = read_apart began coming into into' out out' taken is.read; within_a_unit = is.within_a_unit; came = is.came; handled = is.handled; sent = is.sent }
  ends_apart end.LineTooLong began coming into into' out out' taken units tail text is = record { too_long = is.too_long; short_tail = is.short_tail; few = is.few; sent = is.sent }
  ends_apart end.LongInput began coming into into' out out' taken units tail text is = record { all_taken = is.all_taken; handled = is.handled; sent = is.sent }
  ends_apart end.ReadFault began coming into into' out out' taken units tail text is = record { fault = is.fault; short = is.short; handled = is.handled; sent = is.sent }
  ends_apart end.WriteFault began coming into into' out out' taken units tail text is = record { fault = is.fault; few = is.few; sent = is.sent }
  ends_apart end.NoMemory began coming into into' out out' taken units tail text is = record { refused = is.refused; few = is.few; sent = is.sent }
  ends_apart end.Crowded began coming into into' out out' taken units tail text is = absurd is

  counts_apart : (ending : End) (began coming : Option (List ℕ)) (into into' : Incoming) (out out' : Outgoing)
      → CountsOnly ending (outside into out began) (outside into' out' coming) → CountsOnly ending (outside into out None) (outside into' out' None)
  counts_apart end.Ended began coming into into' out out' is = is
  counts_apart end.Quit began coming into into' out out' is = is
  counts_apart (end.Cut rest) began coming into into' out out' is = is
  counts_apart end.LineTooLong began coming into into' out out' is = is
  counts_apart end.LongInput began coming into into' out out' is = is
  counts_apart end.ReadFault began coming into into' out out' is = is
  counts_apart end.WriteFault began coming into into' out out' is = is
  counts_apart end.NoMemory began coming into into' out out' is = is
  counts_apart end.Crowded began coming into into' out out' is = is

  pub over_apart : (from to : D) (began coming : Option (List ℕ)) (into into' : Incoming) (out out' : Outgoing) (ending : End)
      → (over : IsOver answers (moment from (outside into out began)) (moment to (outside into' out' coming)) ending)
      → (apart : IsOver AnyAnswer (alone into out) (alone into' out') ending) × (apart.entries ≡ over.entries)
  over_apart from to began coming into into' out out' ending over = (
    record {
      taken = over.taken;
      units = over.units;
      tail = over.tail;
      entries = over.entries;
      text = over.text;
      took = over.took;
      spans = over.spans;
      last = over.last;
      tells = over.tells;
      served = any_serve over.entries;
      seconds = none_tick over.entries;
      ends = ends_apart ending began coming into into' out out' over.taken over.units over.tail over.text over.ends;
      counts = counts_apart ending began coming into into' out out' over.counts;
    },
    refl,
  )

-- One turn over such a desk, whose past is nothing before and behind the turn.
module _ {L D : Type 0} (look : L → Linked) (view : D → Behind) (put : List Entry → D) (number name : ℕ) (seat seat' : SeatView) (coming coming' : Option (List ℕ))
    (laws : (past : List Entry) → view (put past) ≡ behind past number seat name) (desk' : D) (none' : (view desk').past ≡ []) (gives : (view desk').name ≡ name → (view desk').seat ≡ seat') where
  -- further calls, behind those that were told
  pub record Further (told entries : List Entry) : Type 0 where
    pub more : List Entry
    pub entries_are : entries ≡ told ++ more
    pub made : MadeCalls number more seat seat' coming coming'

  further : (told entries : List Entry) (began : Option (List ℕ)) → TicksThrough began told coming → Serves (Next view) (put told) entries desk' → TicksThrough began entries coming' → Further told entries
  further told entries began ticked served ticked' =
      let past : (view (put told)).past ≡ told = ap (λ v. v.past) (laws told) in
      let behind_told = called_behind view told entries (put told) desk' past none' served in
      let more = behind_told.more in
      let at_seat : Serves (IsCallOf number) seat more seat' =
      subst (Serves (IsCallOf number) seat more) (gives (behind_told.same_name ∙ ap (λ v. v.name) (laws told)))
      (subst (λ v. Serves (IsCallOf v.session) v.seat more (view desk').seat) (laws told) behind_told.served) in
      record {
        more = more;
        entries_are = behind_told.entries_are;
        made = record {
          called = has_called number seat more seat' at_seat;
          own = all_own number seat more seat' at_seat;
          seconds = ticked_behind told more began coming coming' ticked (subst (λ es. TicksThrough began es coming') behind_told.entries_are ticked');
        };
      }

  pub turned_once : (came : L) (guest guest' : Guest L) (agains agains' : ℕ) (answer : Turn) (told : List Entry) (desk : D) → put [] ≡ desk → GoesOnTicking told coming → StandsAt look came guest.link guest.session told
      → ((began : Moment D) (deeds : Deeds) → SoFar (Next view) began (moment desk (outside (look guest.link).incoming (look guest.link).outgoing coming)) guest.session deeds
      → TurnLeaves (Next view) began (moment desk' (outside (look guest'.link).incoming (look guest'.link).outgoing coming')) agains agains' guest.session guest'.session deeds answer)
      → (more : List Entry) × MadeCalls number more seat seat' coming coming' × TurnedTo look came guest' (told ++ more) answer
  turned_once came guest guest' agains agains' answer told desk is_put ticking stands leaves =
      by_answer answer (leaves began stands.0 (subst (λ d. SoFar (Next view) began (moment d (outside (look guest.link).incoming (look guest.link).outgoing coming)) guest.session stands.0) is_put so_far))
    where
      clock : (c : Option (List ℕ)) × TicksThrough c told coming
      clock = ticked_before told coming ticking

      into : Incoming
      into = (look came).incoming

      out : Outgoing
      out = (look came).outgoing

      began : Moment D
      began = moment (put told) (outside into out clock.0)

      so_far : SoFar (Next view) began (moment (put []) (outside (look guest.link).incoming (look guest.link).outgoing coming)) guest.session stands.0
      so_far = at_desk (Next view) (put told) (put []) clock.0 coming into (look guest.link).incoming out (look guest.link).outgoing guest.session stands.0 stands.1
          (subst (λ es. Serves (Next view) (put told) es (put [])) (sym stands.2) (told_again view put number seat name laws told))
          (subst (λ es. TicksThrough clock.0 es coming) (sym stands.2) clock.1)

      there : Deeds → Type 0
      there deeds = SoFar (Next view) began (moment desk' (outside (look guest'.link).incoming (look guest'.link).outgoing coming')) guest'.session deeds

      stood : (deeds : Deeds) → there deeds → (more : List Entry) × MadeCalls number more seat seat' coming coming' × StandsAt look came guest'.link guest'.session (told ++ more)
      stood deeds so =
          let calls = further told deeds.entries clock.0 clock.1 so.served so.seconds in (
            calls.more,
            calls.made,
            (deeds, apart_from_desk (Next view) (put told) desk' clock.0 coming' into (look guest'.link).incoming out (look guest'.link).outgoing guest'.session deeds so, calls.entries_are),
          )

      by_answer : (a : Turn) → TurnLeaves (Next view) began (moment desk' (outside (look guest'.link).incoming (look guest'.link).outgoing coming')) agains agains' guest.session guest'.session stands.0 a
          → (more : List Entry) × MadeCalls number more seat seat' coming coming' × TurnedTo look came guest' (told ++ more) a
      by_answer turn.More is = stood is.0 is.1
      by_answer turn.Again is = stood is.0 is.1
      by_answer (turn.Over ending) is =
          let over = is.0 in
          let calls = further told over.entries clock.0 clock.1 over.served over.seconds in
          let apart = over_apart (Next view) (put told) desk' clock.0 coming' into (look guest'.link).incoming out (look guest'.link).outgoing ending over in (
            calls.more,
            calls.made,
            (apart.0, apart.1 ∙ calls.entries_are),
          )

-- turns, one after another
module _ {L : Type 0} (look : L → Linked) (came : L) where
  abbrev pub Worked : (number : ℕ) → (seat seat' : SeatView) → (coming coming' : Option (List ℕ)) → (told : List Entry) → (List Entry → Type 0) → Type 0
  Worked number seat seat' coming coming' told Told = (more : List Entry) × MadeCalls number more seat seat' coming coming' × Told (told ++ more)

  pub worked_none : (number : ℕ) (seat : SeatView) (coming : Option (List ℕ)) (told : List Entry) (Told : List Entry → Type 0) → Told told → Worked number seat seat coming coming told Told
  worked_none number seat coming told Told is = ([], made_none number seat coming, subst Told (sym (append-nil told)) is)

  pub worked_on : (number number' : ℕ) (seat middle seat' : SeatView) (coming between coming' : Option (List ℕ)) (told : List Entry) (guest : Guest L) (Told : List Entry → Type 0)
      → number' ≡ number → GoesOnTicking told coming → Worked number seat middle coming between told (StandsAt look came guest.link guest.session)
      → ((before : List Entry) → GoesOnTicking before between → StandsAt look came guest.link guest.session before → Worked number' middle seat' between coming' before Told)
      → Worked number seat seat' coming coming' told Told
  worked_on number number' seat middle seat' coming between coming' told guest Told same ticking first next =
      let made = first.1 in
      let rest = next (told ++ first.0) (goes_on told first.0 coming between ticking made.seconds) first.2 in (
        first.0 ++ rest.0,
        made_on number first.0 rest.0 seat middle seat' coming between coming' made (subst (λ n. MadeCalls n rest.0 middle seat' between coming') same rest.1),
        subst Told (append_assoc told first.0 rest.0) rest.2,
      )

  -- a session that has been answered so is not over
  pub is_going : (link : L) (session : Standing) (told : List Entry) → StandsAt look came link session told → is_over session.phase ≡ false
  is_going link session told stands = by_phase session.phase stands.1.within
    where
      by_phase : (p : Phase) → IsWithin p session stands.0 → is_over p ≡ false
      by_phase phase.Going is = refl
      by_phase phase.Quit is = refl
      by_phase phase.LineTooLong is = refl
      by_phase phase.Ended is = refl
      by_phase phase.Over is = absurd is

-- a fresh session has done nothing
pub fresh_alone : (into : Incoming) (out : Outgoing) (at : Standing) → IsFresh at → SoFar AnyAnswer (alone into out) (alone into out) at no_deeds
fresh_alone into out at fresh = record {
  took = took_nothing into.left;
  no_fault = refl;
  number = sym fresh.nothing_taken;
  within = subst (λ p. IsWithin p at no_deeds) (sym fresh.going)
      (record { tail = []; spans = sym fresh.nothing_ahead; stands = fresh.unread.stands; none_final = tt });
  at_end = subst (λ p. IsAtEnd p into []) (sym fresh.going) tt;
  tells = subst (λ p. TellsNow p at.run [] [] []) (sym fresh.going) ([], [], refl, (refl, refl), (fresh.not_in_run, refl));
  served = refl;
  seconds = refl;
  parts = sym fresh.nothing_owed;
  sent = sym (sent_no_more out);
}
