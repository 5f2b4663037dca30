-- A session of turns is a session of the program.
use Rattle.std.proofs.Common.{◌≡◌, ◌<◌, ◌≤◌, ◌+◌, ◌*◌, ◌-◌, ◌^◌, ℕ, List, [], ◌∷◌, length, Option, Some, None, false, refl, sym, ap, inl, inr, subst, arith}
use Rattle.std.specs.List.{AllByRecursion}
use Rattle.std.proofs.lemmas.List.{append-nil}
use Rattle.arc_core.specs.declared.ends.End.{End}
use Rattle.arc_core.specs.declared.ends.End.TheVariants as end
use Rattle.arc_core.specs.CacheState.{CacheState, IsState}
use Rattle.arc_core.specs.History.{Entry, Replays}
use Rattle.arc_core.specs.Outside.{first_then, then_sent}
use Rattle.pipe_session.specs.SessionText.{Tells}
use Rattle.pipe_session.specs.declared.phase.Phase.{Phase}
use Rattle.pipe_session.specs.declared.phase.Phase.TheVariants as phase
use Rattle.pipe_session.specs.Desks.{Serves, ExecutesAlone, IsOwn}
use Rattle.pipe_session.specs.Outside.{Outside, Moment}
use Rattle.pipe_session.specs.Turns.{Standing, Deeds, IsWithin, IsOver, WentOn, is_over}
use Rattle.arcus_tool.specs.declared.status.Status.{Status}
use Rattle.arcus_tool.specs.declared.status.Status.TheVariants as status
use Rattle.arcus_tool.specs.Session.{IsSession, Ends, CountsOnly, is_closed, IsStatusOf}

sent_nothing : (sent : Option (List ℕ)) → then_sent sent [] ≡ sent
sent_nothing None = refl
sent_nothing (Some s) = ap Some (append-nil s)

took_nothing : (left : Option (List ℕ)) → left ≡ first_then [] left
took_nothing None = refl
took_nothing (Some bytes) = refl

-- memory was refused before any byte was taken
pub never_began : (opening : CacheState) (before : Outside) → IsState opening → IsSession opening before before status.NoMemory
never_began opening before rules = record {
  taken = [];
  units = [];
  tail = [];
  entries = [];
  closing = opening;
  text = [];
  took = took_nothing before.incoming.left;
  spans = refl;
  last = tt;
  tells = (refl, refl);
  legal = refl;
  seconds = refl;
  own = tt;
  rules = rules;
  ends = record { refused = inl refl; few = omega arith; sent = record { front = []; back = []; parts = refl; sent_is = sym (sent_nothing before.out.sent) } };
  counts = (refl, refl);
}

module _ {D : Type 0} (state : D → CacheState) where
  abbrev pub Alone : D → Entry → D → Type 0
  Alone from entry to = ExecutesAlone (state from) entry (state to)

  -- entries that were served to the only session are a run of the machine
  replays : (from to : D) (entries : List Entry) → Serves Alone from entries to → Replays (state from) entries (state to)
  replays from to [] is = ap state is
  replays from to (entry ∷ entries) is = (state is.0, is.1.executed, replays is.0 to entries is.2)

  own : (from to : D) (entries : List Entry) → Serves Alone from entries to → AllByRecursion IsOwn entries
  own from to [] is = tt
  own from to (entry ∷ entries) is = (is.1.own, own is.0 to entries is.2)

  module _ (began now : Moment D) (rules : IsState (state now.desk)) where
    -- the session with a status, for which what it tells, how it ending and what it counted is as of its end
    built : (ending : End) (over : IsOver Alone began now ending) (said : Status) → Tells (is_closed said) over.units over.entries over.text
        → Ends said began.outside now.outside over.taken over.units over.tail over.text → CountsOnly said began.outside now.outside → IsSession (state began.desk) began.outside now.outside said
    built ending over said tells ends counts = record {
      taken = over.taken;
      units = over.units;
      tail = over.tail;
      entries = over.entries;
      closing = state now.desk;
      text = over.text;
      took = over.took;
      spans = over.spans;
      last = over.last;
      tells = tells;
      legal = replays began.desk now.desk over.entries over.served;
      seconds = over.seconds;
      own = own began.desk now.desk over.entries over.served;
      rules = rules;
      ends = ends;
      counts = counts;
    }

    by_end : (ending : End) (over : IsOver Alone began now ending) (said : Status) → IsStatusOf ending said → IsSession (state began.desk) began.outside now.outside said
    by_end end.Ended over said is = subst (IsSession (state began.desk) began.outside now.outside) (sym is) (built end.Ended over status.Done over.tells (inl over.ends) over.counts)
    by_end end.Quit over said is = subst (IsSession (state began.desk) began.outside now.outside) (sym is) (built end.Quit over status.Done over.tells (inr over.ends) over.counts)
    by_end (end.Cut rest) over said is = subst (IsSession (state began.desk) began.outside now.outside) (sym is) (built (end.Cut rest) over (status.CutInput rest) over.tells over.ends over.counts)
    by_end end.LineTooLong over said is = subst (IsSession (state began.desk) began.outside now.outside) (sym is) (built end.LineTooLong over status.LineTooLong over.tells over.ends over.counts)
    by_end end.LongInput over said is = subst (IsSession (state began.desk) began.outside now.outside) (sym is) (built end.LongInput over status.LongInput over.tells over.ends over.counts)
    by_end end.ReadFault over said is = subst (IsSession (state began.desk) began.outside now.outside) (sym is) (built end.ReadFault over status.ReadFault over.tells over.ends over.counts)
    by_end end.WriteFault over said is = subst (IsSession (state began.desk) began.outside now.outside) (sym is) (built end.WriteFault over status.WriteFault over.tells over.ends over.counts)
    by_end end.NoMemory over said is =
        let ends = over.ends in
        subst (IsSession (state began.desk) began.outside now.outside) (sym is)
        (built end.NoMemory over status.NoMemory over.tells (record { refused = inr ends.refused; few = ends.few; sent = ends.sent }) over.counts)
    by_end end.Crowded over said is = absurd is

    -- the session is over, with a status that says so
    pub session_of : (ending : End) (said : Status) → IsStatusOf ending said → IsOver Alone began now ending → IsSession (state began.desk) began.outside now.outside said
    session_of ending said is over = by_end ending over said is

-- no session ends for the number of others
pub not_crowded : {D : Type 0} (answers : D → Entry → D → Type 0) (began now : Moment D) (ending : End) → IsOver answers began now ending → ending ≡ end.Crowded → ⊥
not_crowded answers began now ending over is = none (subst (IsOver answers began now) is over)
  where
    none : IsOver answers began now end.Crowded → ⊥
    none over = over.ends

-- a session that has done something is not over
pub goes_on : (p : Phase) (at : Standing) (deeds : Deeds) → IsWithin p at deeds → is_over p ≡ false
goes_on phase.Going at deeds within = refl
goes_on phase.Quit at deeds within = refl
goes_on phase.LineTooLong at deeds within = refl
goes_on phase.Ended at deeds within = refl
goes_on phase.Over at deeds within = absurd within

-- what is left to do gets less with each turn
pub gets_less : (at at' : Standing) (deeds after : Deeds) → length deeds.taken ≡ at.taken → length after.taken ≡ at'.taken → at'.taken ≤ 2 ^ 40 → length at'.ahead ≤ 16384
    → WentOn at at' deeds after → (2 ^ 40 - at'.taken) * 32768 + length at'.ahead < (2 ^ 40 - at.taken) * 32768 + length at.ahead
gets_less at at' deeds after before now few short (inl took) = omega (arith, took.some, before, now, few, short)
gets_less at at' deeds after before now few short (inr one) = omega (arith, one.read, ap length one.same, before, now)
