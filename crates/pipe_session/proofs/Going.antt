-- A session that goes on by one unit.
use Rattle.std.proofs.Common.{◌≡◌, ◌<◌, ℕ, List, [], ◌∷◌, ◌++◌, length, take, drop, Option, true, false, refl, sym, ap, ◌∙◌, inl, inr, subst, append_assoc}
use Rattle.std.proofs.lemmas.List.{take-append-drop, append-nil}
use Rattle.arc_core.specs.Framing.{Whole, BeginsWith, IsSpan}
use Rattle.arc_core.specs.CollectionLines.{coll_line_needs}
use Rattle.arc_core.specs.History.{Entry}
use Rattle.arc_core.specs.Outside.{Incoming, Outgoing}
use Rattle.pipe_session.specs.Runs.{TellsSoFar}
use Rattle.pipe_session.specs.SessionText.{IsQuitUnit}
use Rattle.frame_reader.specs.Progress.{StandsFor}
use Rattle.pipe_session.specs.declared.phase.Phase.{Phase}
use Rattle.pipe_session.specs.declared.phase.Phase.TheVariants as phase
use Rattle.pipe_session.specs.Desks.{Serves, TicksThrough}
use Rattle.pipe_session.specs.Outside.{Moment, moment, outside}
use Rattle.pipe_session.specs.Units.{IsFinal, IsTooLong}
use Rattle.pipe_session.specs.Handling.{stand, IsTold, HandlesUnit, HandlesNext, FeedsAll, unit_facts}
use Rattle.pipe_session.specs.Turns.{Standing, Deeds, SoFar, IsWithin, IsAtEnd, GoesOn, StopsBehind, TellsNow, UnitLeaves}
use Rattle.pipe_session.proofs.Histories.{serves_on, ticks_on, spans_on, none_on, only_last}
use Rattle.pipe_session.proofs.ToldMore.{ToldMore, told_more}

-- neither `quit` nor a line that is too long
not_final : (unit : Whole) → (IsQuitUnit unit → ⊥) → (IsTooLong unit → ⊥) → IsFinal unit → ⊥
not_final unit no_quit not_long (inl long) = not_long long
not_final unit no_quit not_long (inr quits) = no_quit quits

-- the bytes that the reader has, and then those of the piece, in two parts
parted : (tail piece : List ℕ) (n : ℕ) → tail ++ piece ≡ (tail ++ take n piece) ++ drop n piece
parted tail piece n = ap (λ p. tail ++ p) (sym (take-append-drop n piece)) ∙ sym (append_assoc tail (take n piece) (drop n piece))

module _ {D : Type 0} (answers : D → Entry → D → Type 0) (began : Moment D) (desk desk' : D) (coming coming' : Option (List ℕ)) (into : Incoming) (out : Outgoing) (at at' : Standing) (deeds : Deeds)
    (so : SoFar answers began (moment desk (outside into out coming)) at deeds) (going : at.phase ≡ phase.Going) (same_taken : at'.taken ≡ at.taken) where
  here : GoesOn at deeds
  here = subst (λ p. IsWithin p at deeds) going so.within

  module _ (count : ℕ) (ahead : at'.ahead ≡ drop count at.ahead) (less : length at'.ahead < length at.ahead) (unit : Whole) (span : IsSpan coll_line_needs (here.tail ++ take count at.ahead) unit)
      (told : IsTold answers (unit_facts unit) (stand desk coming at.owed at.run) (stand desk' coming' at'.owed at'.run)) where
    -- what the units tell with this one
    more : ToldMore answers (stand desk coming at.owed at.run) (stand desk' coming' at'.owed at'.run) deeds.units unit deeds.entries deeds.text
    more = told_more answers (stand desk coming at.owed at.run) (stand desk' coming' at'.owed at'.run) deeds.units unit deeds.entries deeds.text
        (subst (λ p. TellsNow p at.run deeds.units deeds.entries deeds.text) going so.tells) told

    abbrev after : Deeds
    after = record {
      taken = deeds.taken;
      units = deeds.units ++ unit ∷ [];
      entries = deeds.entries ++ more.own;
      text = deeds.text ++ more.said;
      gone = deeds.gone;
    }

    spans : BeginsWith coll_line_needs deeds.taken (deeds.units ++ unit ∷ []) at'.ahead
    spans =
        subst (BeginsWith coll_line_needs deeds.taken (deeds.units ++ unit ∷ [])) (sym ahead)
        (spans_on coll_line_needs deeds.taken deeds.units unit (here.tail ++ take count at.ahead) (drop count at.ahead)
        (subst (BeginsWith coll_line_needs deeds.taken deeds.units) (parted here.tail at.ahead count) here.spans) span)

    -- the unit was told, and this is where the session stands behind it
    leaves : IsWithin at'.phase at' after → IsAtEnd at'.phase into deeds.taken → TellsNow at'.phase at'.run after.units after.entries after.text
        → UnitLeaves answers began (moment desk' (outside into out coming')) at at' deeds true
    leaves within at_end tells =
        let executed = more.executed in (
          after,
          record {
            took = so.took;
            no_fault = so.no_fault;
            number = so.number ∙ sym same_taken;
            within = within;
            at_end = at_end;
            tells = tells;
            served = serves_on answers began.desk desk desk' deeds.entries more.own so.served executed.served;
            seconds = ticks_on began.outside.coming coming coming' deeds.entries more.own so.seconds executed.seconds;
            parts = ap (λ t. t ++ more.said) so.parts ∙ append_assoc deeds.gone at.owed more.said ∙ ap (λ o. deeds.gone ++ o) (sym executed.owed);
            sent = so.sent;
          },
          record { unit = unit; units = refl; same = refl; read = less },
        )

    leaves_at : (behind : Phase) → at'.phase ≡ behind → IsWithin behind at' after → IsAtEnd behind into deeds.taken → TellsNow behind at'.run after.units after.entries after.text
        → UnitLeaves answers began (moment desk' (outside into out coming')) at at' deeds true
    leaves_at behind is within at_end tells =
        leaves (subst (λ p. IsWithin p at' after) (sym is) within) (subst (λ p. IsAtEnd p into deeds.taken) (sym is) at_end)
        (subst (λ p. TellsNow p at'.run after.units after.entries after.text) (sym is) tells)

    stops : (Last : Whole → Type 0) → length at'.ahead < 16384 → Last unit → at'.run.is_open ≡ false → StopsBehind Last at' after
    stops Last short is_last closed = record {
      spans = spans;
      ends = record { front = deeds.units; unit = unit; parts = refl; is_last = is_last };
      last = only_last deeds.units unit here.none_final;
      short = short;
      no_run = closed;
    }

  by_phase : (count : ℕ) → at'.ahead ≡ drop count at.ahead → length at'.ahead < length at.ahead → length at'.ahead < 16384 → (behind : Phase) → at'.phase ≡ behind → (unit : Whole)
      → IsSpan coll_line_needs (here.tail ++ take count at.ahead) unit → HandlesUnit answers unit (stand desk coming at.owed at.run) (stand desk' coming' at'.owed at'.run) behind
      → (behind ≡ phase.Going → StandsFor coll_line_needs at'.progress []) → UnitLeaves answers began (moment desk' (outside into out coming')) at at' deeds true
  by_phase count ahead less short phase.Going is unit span handles stands =
      leaves_at count ahead less unit span handles.0 phase.Going is (record {
        tail = [];
        spans = spans count ahead less unit span handles.0;
        stands = stands refl;
        none_final = none_on deeds.units unit here.none_final (not_final unit handles.1 handles.2);
      }) tt (more count ahead less unit span handles.0).tells
  by_phase count ahead less short phase.Quit is unit span handles stands =
      leaves_at count ahead less unit span handles.0 phase.Quit is (stops count ahead less unit span handles.0 IsQuitUnit short handles.1 handles.2) tt (more count ahead less unit span handles.0).tells
  by_phase count ahead less short phase.LineTooLong is unit span handles stands =
      leaves_at count ahead less unit span handles.0 phase.LineTooLong is (stops count ahead less unit span handles.0 IsTooLong short handles.1 handles.2) tt (more count ahead less unit span handles.0).tells
  by_phase count ahead less short phase.Ended is unit span handles stands = absurd handles
  by_phase count ahead less short phase.Over is unit span handles stands = absurd handles

  -- the next unit was handled
  pub handled_next : (count : ℕ) → at'.ahead ≡ drop count at.ahead → length at'.ahead < length at.ahead → length at'.ahead < 16384 → (behind : Phase) → at'.phase ≡ behind
      → HandlesNext answers (stand desk coming at.owed at.run) (stand desk' coming' at'.owed at'.run) at.progress at'.progress at.ahead count behind
      → UnitLeaves answers began (moment desk' (outside into out coming')) at at' deeds true
  handled_next count ahead less short behind is handles =
      let next = handles here.tail here.stands in
      by_phase count ahead less short behind is next.0 next.1 next.2 next.3

  -- all that was pulled was read, and nothing was done
  pub fed_all : at'.ahead ≡ [] → at'.phase ≡ phase.Going → FeedsAll (stand desk coming at.owed at.run) (stand desk' coming' at'.owed at'.run) at.progress at'.progress at.ahead
      → SoFar answers began (moment desk' (outside into out coming')) at' deeds
  fed_all none is fed =
      let desk_same : desk' ≡ desk = ap (λ s. s.desk) fed.same in
      let coming_same : coming' ≡ coming = ap (λ s. s.coming) fed.same in
      let owed_same : at'.owed ≡ at.owed = ap (λ s. s.owed) fed.same in
      let run_same : at'.run ≡ at.run = ap (λ s. s.run) fed.same in
      record {
        took = so.took;
        no_fault = so.no_fault;
        number = so.number ∙ sym same_taken;
        within = subst (λ p. IsWithin p at' deeds) (sym is) (record {
          tail = here.tail ++ at.ahead;
          spans = subst (BeginsWith coll_line_needs deeds.taken deeds.units) (sym (ap (λ a. (here.tail ++ at.ahead) ++ a) none ∙ append-nil (here.tail ++ at.ahead))) here.spans;
          stands = fed.feeds here.tail here.stands;
          none_final = here.none_final;
        });
        at_end = subst (λ p. IsAtEnd p into deeds.taken) (sym is) tt;
        tells = subst (λ p. TellsNow p at'.run deeds.units deeds.entries deeds.text) (sym is)
            (subst (λ r. TellsSoFar r deeds.units deeds.entries deeds.text) (sym run_same) (subst (λ p. TellsNow p at.run deeds.units deeds.entries deeds.text) going so.tells));
        served = subst (Serves answers began.desk deeds.entries) (sym desk_same) so.served;
        seconds = subst (TicksThrough began.outside.coming deeds.entries) (sym coming_same) so.seconds;
        parts = so.parts ∙ ap (λ o. deeds.gone ++ o) (sym owed_same);
        sent = so.sent;
      }

-- the same of a session that is seen so
module _ {D : Type 0} (answers : D → Entry → D → Type 0) (began : Moment D) (desk desk' : D) (coming coming' : Option (List ℕ)) (into : Incoming) (out : Outgoing) (at now at' : Standing) (deeds : Deeds)
    (seen : at ≡ now) (so : SoFar answers began (moment desk (outside into out coming)) now deeds) (going : at.phase ≡ phase.Going) (same_taken : at'.taken ≡ at.taken) where
  so_seen : SoFar answers began (moment desk (outside into out coming)) at deeds
  so_seen = subst (λ s. SoFar answers began (moment desk (outside into out coming)) s deeds) (sym seen) so

  pub handled_seen : (count : ℕ) → at'.ahead ≡ drop count at.ahead → length at'.ahead < length at.ahead → length at'.ahead < 16384 → (behind : Phase) → at'.phase ≡ behind
      → HandlesNext answers (stand desk coming at.owed at.run) (stand desk' coming' at'.owed at'.run) at.progress at'.progress at.ahead count behind
      → UnitLeaves answers began (moment desk' (outside into out coming')) now at' deeds true
  handled_seen count ahead less short behind is handles =
      subst (λ s. UnitLeaves answers began (moment desk' (outside into out coming')) s at' deeds true) seen
      (handled_next answers began desk desk' coming coming' into out at at' deeds so_seen going same_taken count ahead less short behind is handles)

  pub fed_seen : at'.ahead ≡ [] → at'.phase ≡ phase.Going → FeedsAll (stand desk coming at.owed at.run) (stand desk' coming' at'.owed at'.run) at.progress at'.progress at.ahead
      → SoFar answers began (moment desk' (outside into out coming')) at' deeds
  fed_seen none is fed = fed_all answers began desk desk' coming coming' into out at at' deeds so_seen going same_taken none is fed
