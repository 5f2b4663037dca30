-- How a session is over, and how it goes on by a pull.
use Rattle.std.proofs.Common.{◌≡◌, ◌⊎◌, ◌≤◌, ◌<◌, ◌+◌, ◌^◌, ℕ, List, [], ◌∷◌, ◌++◌, length, Option, Some, None, Err, refl, sym, ap, ◌∙◌, inl, inr, subst, append_assoc, length-append, arith, true, false}
use Rattle.std.specs.Prelude.{IfSome, MatchOption}
use Rattle.std.proofs.lemmas.List.{append-nil}
use Rattle.arc_core.specs.declared.ends.End.{End}
use Rattle.arc_core.specs.declared.ends.End.TheVariants as end
use Rattle.arc_core.specs.declared.outside.Need.{Need}
use Rattle.arc_core.specs.Framing.{BeginsWith, IsRest, IsSpan}
use Rattle.arc_core.specs.CollectionLines.{coll_line_needs}
use Rattle.arc_core.specs.History.{Entry}
use Rattle.arc_core.specs.Outside.{Rose, Incoming, Outgoing, outgoing, first_then, then_sent, sent_more, CameToEnd, FailedToPull}
use Rattle.arc_core.specs.Framing.{Whole}
use Rattle.pipe_session.specs.Runs.{Kept}
use Rattle.pipe_session.specs.SessionText.{IsQuitUnit, Tells}
use Rattle.pipe_session.proofs.RunLemmas.{all_told, told_so_far, told_with_answer, owed_answer}
use Rattle.frame_reader.specs.Progress.{Progress, StandsFor, ready_unit}
use Rattle.pipe_session.specs.declared.phase.Phase.{Phase}
use Rattle.pipe_session.specs.declared.phase.Phase.TheVariants as phase
use Rattle.pipe_session.specs.declared.turn.Turn.{Turn}
use Rattle.pipe_session.specs.declared.turn.Turn.TheVariants as turn
use Rattle.pipe_session.specs.declared.owed.Unsent.{Unsent}
use Rattle.pipe_session.specs.declared.owed.Unsent.TheVariants as unsent
use Rattle.reply_print.specs.Writing.{CountsStay}
use Rattle.pipe_session.specs.Outside.{outside, Moment, moment}
use Rattle.pipe_session.specs.Owing.{SentUpto, HasCause, Sends}
use Rattle.pipe_session.specs.Units.{IsTooLong, IsBetweenUnits, OnlyLastFinal}
use Rattle.pipe_session.specs.Ends.{Ends, CountsOnly, HandledAll, IsSentInPart, end_behind, is_closed}
use Rattle.pipe_session.specs.Turns.{Standing, Deeds, SoFar, HasEnded, IsAtEnd, IsWithin, GoesOn, StopsBehind, TellsNow, IsOver, IsReading, LinkLeaves, TurnLeaves, WentOn, stopped, turn_unsent}
use Rattle.pipe_session.proofs.Texts.{sent_more_on}
use Rattle.pipe_session.proofs.Histories.{spans_more, only_of_none}

-- one piece and then another
first_on : (a b : List ℕ) (rest : Option (List ℕ)) → first_then a (first_then b rest) ≡ first_then (a ++ b) rest
first_on a b None = refl
first_on a b (Some rest) = ap Some (sym (append_assoc a b rest))

-- where a front was sent and no other count rose
out_is : (out out' : Outgoing) (front : List ℕ) → out'.sent ≡ then_sent out.sent front → out'.faults ≡ out.faults → out'.refusals ≡ out.refusals → out' ≡ sent_more out front
out_is out out' front sent faults refusals =
    ap (λ s. record out' { sent = s }) sent
    ∙ ap (λ f. outgoing (then_sent out.sent front) f out'.refusals) faults
    ∙ ap (λ r. outgoing (then_sent out.sent front) out.faults r) refusals

-- Where a session is within its bytes, in words of its units: they are followed by some bytes, and none but the last is
-- final.
pub record Spanned (deeds : Deeds) : Type 0 where
  pub tail : List ℕ
  pub spans : BeginsWith coll_line_needs deeds.taken deeds.units tail
  pub last : OnlyLastFinal deeds.units

spanned : (phase : Phase) (at : Standing) (deeds : Deeds) → IsWithin phase at deeds → Spanned deeds
spanned phase.Going at deeds within = record { tail = within.tail ++ at.ahead; spans = within.spans; last = only_of_none deeds.units within.none_final }
spanned phase.Quit at deeds within = record { tail = at.ahead; spans = within.spans; last = within.last }
spanned phase.LineTooLong at deeds within = record { tail = at.ahead; spans = within.spans; last = within.last }
spanned phase.Ended at deeds within = record { tail = within.0.tail ++ at.ahead; spans = within.0.spans; last = only_of_none deeds.units within.0.none_final }
spanned phase.Over at deeds within = absurd within

-- what was sent more
abbrev pub with_gone : Deeds → List ℕ → Deeds
with_gone deeds front = record deeds { gone = deeds.gone ++ front }

-- The session is as it was, but for what it owes.
pub record SameBut (at at' : Standing) : Type 0 where
  pub progress : at'.progress ≡ at.progress
  pub ahead : at'.ahead ≡ at.ahead
  pub taken : at'.taken ≡ at.taken
  pub phase : at'.phase ≡ at.phase
  pub run : at'.run ≡ at.run

goes_same : (at at' : Standing) (deeds : Deeds) (front : List ℕ) → SameBut at at' → GoesOn at deeds → GoesOn at' (with_gone deeds front)
goes_same at at' deeds front same within = record {
  tail = within.tail;
  spans = subst (λ a. BeginsWith coll_line_needs deeds.taken deeds.units (within.tail ++ a)) (sym same.ahead) within.spans;
  stands = subst (λ p. StandsFor coll_line_needs p within.tail) (sym same.progress) within.stands;
  none_final = within.none_final;
}

within_same : (p : Phase) (at at' : Standing) (deeds : Deeds) (front : List ℕ) → SameBut at at' → IsWithin p at deeds → IsWithin p at' (with_gone deeds front)
within_same phase.Going at at' deeds front same within = goes_same at at' deeds front same within
within_same phase.Ended at at' deeds front same within = (goes_same at at' deeds front same within.0, same.ahead ∙ within.1)
within_same phase.Quit at at' deeds front same within = record {
  spans = subst (BeginsWith coll_line_needs deeds.taken deeds.units) (sym same.ahead) within.spans;
  ends = within.ends;
  last = within.last;
  short = subst (λ a. length a < 16384) (sym same.ahead) within.short;
  no_run = ap (λ (k : Kept). k.is_open) same.run ∙ within.no_run;
}
within_same phase.LineTooLong at at' deeds front same within = record {
  spans = subst (BeginsWith coll_line_needs deeds.taken deeds.units) (sym same.ahead) within.spans;
  ends = within.ends;
  last = within.last;
  short = subst (λ a. length a < 16384) (sym same.ahead) within.short;
  no_run = ap (λ (k : Kept). k.is_open) same.run ∙ within.no_run;
}
within_same phase.Over at at' deeds front same within = within

-- what units tell by now, of a session that is in the same phase with the same run
tells_same : (p p' : Phase) (kept kept' : Kept) (units : List Whole) (entries : List Entry) (text : List ℕ) → p' ≡ p → kept' ≡ kept → TellsNow p kept units entries text → TellsNow p' kept' units entries text
tells_same p p' kept kept' units entries text same same_run told =
    subst (λ q. TellsNow q kept' units entries text) (sym same) (subst (λ r. TellsNow p r units entries text) (sym same_run) told)

-- all is told with the answer to the run that is open, where one is
pub record ToldAll (units : List Whole) (entries : List Entry) (text : List ℕ) : Type 0 where
  pub rest : List ℕ
  pub tells : Tells true units entries (text ++ rest)

told_all : (p : Phase) (kept : Kept) (units : List Whole) (entries : List Entry) (text : List ℕ) → TellsNow p kept units entries text → ToldAll units entries text
told_all phase.Going kept units entries text told = record { rest = owed_answer kept; tells = told_with_answer units entries text kept told }
told_all phase.Quit kept units entries text told = record { rest = owed_answer kept; tells = told_with_answer units entries text kept told }
told_all phase.LineTooLong kept units entries text told = record { rest = owed_answer kept; tells = told_with_answer units entries text kept told }
told_all phase.Ended kept units entries text told = record { rest = []; tells = subst (Tells true units entries) (sym (append-nil text)) told }
told_all phase.Over kept units entries text told = record { rest = owed_answer kept; tells = told_with_answer units entries text kept told }

module _ {D : Type 0} (answers : D → Entry → D → Type 0) (began : Moment D) (desk : D) (coming : Option (List ℕ)) (into : Incoming) (out : Outgoing) (at : Standing) (deeds : Deeds)
    (so : SoFar answers began (moment desk (outside into out coming)) at deeds) where
  -- a front of what was owed was sent
  module _ (out' : Outgoing) (at' : Standing) (same : SameBut at at') (part : SentUpto out out' at.owed at'.owed) where
    parts_on : deeds.text ≡ (deeds.gone ++ part.front) ++ at'.owed
    parts_on = so.parts ∙ ap (λ o. deeds.gone ++ o) part.parts ∙ sym (append_assoc deeds.gone part.front at'.owed)

    sent_on : out' ≡ sent_more out part.front → out' ≡ sent_more began.outside.out (deeds.gone ++ part.front)
    sent_on is = is ∙ ap (λ o. sent_more o part.front) so.sent ∙ sent_more_on began.outside.out deeds.gone part.front

    pub sent_so_far : out'.faults ≡ out.faults → out'.refusals ≡ out.refusals → SoFar answers began (moment desk (outside into out' coming)) at' (with_gone deeds part.front)
    sent_so_far faults refusals = record {
      took = so.took;
      no_fault = so.no_fault;
      number = so.number ∙ sym same.taken;
      within = subst (λ p. IsWithin p at' (with_gone deeds part.front)) (sym same.phase) (within_same at.phase at at' deeds part.front same so.within);
      at_end = subst (λ p. IsAtEnd p into deeds.taken) (sym same.phase) so.at_end;
      tells = tells_same at.phase at'.phase at.run at'.run deeds.units deeds.entries deeds.text same.phase same.run so.tells;
      served = so.served;
      seconds = so.seconds;
      parts = parts_on;
      sent = sent_on (out_is out out' part.front part.sent faults refusals);
    }

    all : ToldAll deeds.units deeds.entries deeds.text
    all = told_all at.phase at.run deeds.units deeds.entries deeds.text so.tells

    in_part : IsSentInPart began.outside.out.sent out'.sent (deeds.text ++ all.rest)
    in_part = record {
      front = deeds.gone ++ part.front;
      back = at'.owed ++ all.rest;
      parts = ap (λ t. t ++ all.rest) parts_on ∙ append_assoc (deeds.gone ++ part.front) at'.owed all.rest;
      sent_is = part.sent ∙ ap (λ o. then_sent o.sent part.front) so.sent ∙ ap (λ o. o.sent) (sent_more_on began.outside.out deeds.gone part.front);
    }

    broke_off : (ending : End) → is_closed ending ≡ true → Ends ending began.outside (outside into out' coming) deeds.taken deeds.units (spanned at.phase at deeds so.within).tail (deeds.text ++ all.rest)
        → CountsOnly ending began.outside (outside into out' coming) → IsOver answers began (moment desk (outside into out' coming)) ending
    broke_off ending closed ends counts =
        let spans = spanned at.phase at deeds so.within in
        record {
          taken = deeds.taken;
          units = deeds.units;
          tail = spans.tail;
          entries = deeds.entries;
          text = deeds.text ++ all.rest;
          took = so.took;
          spans = spans.spans;
          last = spans.last;
          tells = subst (λ b. Tells b deeds.units deeds.entries (deeds.text ++ all.rest)) (sym closed) all.tells;
          served = so.served;
          seconds = so.seconds;
          ends = ends;
          counts = counts;
        }

    few_taken : at.taken ≤ 2 ^ 40 → length deeds.taken ≤ 2 ^ 40
    few_taken few = omega (arith, so.number)

    -- not all could be sent
    pub could_not_send : (cause : Unsent) (agains agains' : ℕ) → at.taken ≤ 2 ^ 40 → HasCause out out' agains agains' cause
        → LinkLeaves answers began (moment desk (outside into out' coming)) agains agains' (stopped cause at') deeds (turn_unsent cause)
    could_not_send unsent.Again agains agains' few has = (with_gone deeds part.front, sent_so_far has.same_faults has.same_refusals, has.rose)
    could_not_send unsent.Failed agains agains' few has = (
      broke_off end.WriteFault refl
          (record { fault = subst (λ f. Rose f out'.faults) (ap (λ o. o.faults) so.sent) has.rose; few = few_taken few; sent = in_part })
          (so.no_fault, has.same_refusals ∙ ap (λ o. o.refusals) so.sent),
      refl,
    )
    could_not_send unsent.NoMemory agains agains' few has = (
      broke_off end.NoMemory refl
          (record { refused = subst (λ r. Rose r out'.refusals) (ap (λ o. o.refusals) so.sent) has.rose; few = few_taken few; sent = in_part })
          (so.no_fault, has.same_faults ∙ ap (λ o. o.faults) so.sent),
      refl,
    )

  -- nothing is owed
  module _ (nothing_owed : at.owed ≡ []) where
    whole : out ≡ sent_more began.outside.out deeds.text
    whole = so.sent ∙ ap (sent_more began.outside.out) (sym (so.parts ∙ ap (λ o. deeds.gone ++ o) nothing_owed ∙ append-nil deeds.gone))

    same_writes : out.faults ≡ began.outside.out.faults
    same_writes = ap (λ o. o.faults) so.sent

    same_refusals : out.refusals ≡ began.outside.out.refusals
    same_refusals = ap (λ o. o.refusals) so.sent

    -- the session is over behind `quit`
    pub over_at_quit : at.phase ≡ phase.Quit → at.taken ≤ 2 ^ 40 → IsOver answers began (moment desk (outside into out coming)) end.Quit
    over_at_quit is few =
        let stops : StopsBehind IsQuitUnit at deeds = subst (λ p. IsWithin p at deeds) is so.within in
        record {
          taken = deeds.taken;
          units = deeds.units;
          tail = at.ahead;
          entries = deeds.entries;
          text = deeds.text;
          took = so.took;
          spans = stops.spans;
          last = stops.last;
          tells = all_told true deeds.units deeds.entries deeds.text at.run (subst (λ p. TellsNow p at.run deeds.units deeds.entries deeds.text) is so.tells) stops.no_run;
          served = so.served;
          seconds = so.seconds;
          ends = record { quits = stops.ends; short_tail = stops.short; few = omega (arith, so.number, few); sent = whole };
          counts = (so.no_fault, same_writes, same_refusals);
        }

    -- the session is over behind a line that is too long
    pub over_at_long_line : at.phase ≡ phase.LineTooLong → at.taken ≤ 2 ^ 40 → IsOver answers began (moment desk (outside into out coming)) end.LineTooLong
    over_at_long_line is few =
        let stops : StopsBehind IsTooLong at deeds = subst (λ p. IsWithin p at deeds) is so.within in
        record {
          taken = deeds.taken;
          units = deeds.units;
          tail = at.ahead;
          entries = deeds.entries;
          text = deeds.text;
          took = so.took;
          spans = stops.spans;
          last = stops.last;
          tells = all_told true deeds.units deeds.entries deeds.text at.run (subst (λ p. TellsNow p at.run deeds.units deeds.entries deeds.text) is so.tells) stops.no_run;
          served = so.served;
          seconds = so.seconds;
          ends = record { too_long = stops.ends; short_tail = stops.short; few = omega (arith, so.number, few); sent = whole };
          counts = (so.no_fault, same_writes, same_refusals);
        }

    -- all that was pulled is read, and the session goes on
    module _ (going : at.phase ≡ phase.Going) (read : at.ahead ≡ []) where
      goes : GoesOn at deeds
      goes = subst (λ p. IsWithin p at deeds) going so.within

      spans_here : BeginsWith coll_line_needs deeds.taken deeds.units goes.tail
      spans_here = subst (BeginsWith coll_line_needs deeds.taken deeds.units) (ap (λ a. goes.tail ++ a) read ∙ append-nil goes.tail) goes.spans

      -- a piece came
      pub pulled : (into' : Incoming) (at' : Standing) (piece : List ℕ) → into.left ≡ first_then piece into'.left → into'.faults ≡ into.faults → 0 < length piece
          → at'.ahead ≡ piece → at'.progress ≡ at.progress → at'.owed ≡ at.owed → at'.run ≡ at.run → at'.phase ≡ at.phase → at'.taken ≡ at.taken + length piece → (agains agains' : ℕ) → agains' ≡ agains
          → LinkLeaves answers began (moment desk (outside into' out coming)) agains agains' at' deeds turn.More
      pulled into' at' piece came faults some ahead progress owed run same taken agains agains' steady =
          let more : Deeds = record deeds { taken = deeds.taken ++ piece } in (
            more,
            record {
              took = so.took ∙ ap (first_then deeds.taken) came ∙ first_on deeds.taken piece into'.left;
              no_fault = faults ∙ so.no_fault;
              number = length-append deeds.taken piece ∙ ap (λ n. n + length piece) so.number ∙ sym taken;
              within = subst (λ p. IsWithin p at' more) (sym (same ∙ going)) (record {
                tail = goes.tail;
                spans = subst (λ a. BeginsWith coll_line_needs (deeds.taken ++ piece) deeds.units (goes.tail ++ a)) (sym ahead)
                    (spans_more coll_line_needs deeds.taken deeds.units goes.tail piece spans_here);
                stands = subst (λ p. StandsFor coll_line_needs p goes.tail) (sym progress) goes.stands;
                none_final = goes.none_final;
              });
              at_end = subst (λ p. IsAtEnd p into' more.taken) (sym (same ∙ going)) tt;
              tells = tells_same at.phase at'.phase at.run at'.run deeds.units deeds.entries deeds.text same run so.tells;
              served = so.served;
              seconds = so.seconds;
              parts = so.parts ∙ ap (λ o. deeds.gone ++ o) (sym owed);
              sent = so.sent;
            },
            record { some = omega (arith, length-append deeds.taken piece, some); nothing_owed = owed ∙ nothing_owed },
            steady,
          )

      -- the link has to be asked again
      pub asks_again : (into' : Incoming) (at' : Standing) → into' ≡ into → SameBut at at' → at'.owed ≡ at.owed → (agains agains' : ℕ) → Rose agains agains'
          → LinkLeaves answers began (moment desk (outside into' out coming)) agains agains' at' deeds turn.Again
      asks_again into' at' same_into same owed agains agains' rose = (
        deeds,
        record {
          took = so.took ∙ ap (λ i. first_then deeds.taken i.left) (sym same_into);
          no_fault = ap (λ i. i.faults) same_into ∙ so.no_fault;
          number = so.number ∙ sym same.taken;
          within = subst (λ p. IsWithin p at' deeds) (sym (same.phase ∙ going)) (record {
            tail = goes.tail;
            spans = subst (λ a. BeginsWith coll_line_needs deeds.taken deeds.units (goes.tail ++ a)) (sym same.ahead) goes.spans;
            stands = subst (λ p. StandsFor coll_line_needs p goes.tail) (sym same.progress) goes.stands;
            none_final = goes.none_final;
          });
          at_end = subst (λ p. IsAtEnd p into' deeds.taken) (sym (same.phase ∙ going)) tt;
          tells = tells_same at.phase at'.phase at.run at'.run deeds.units deeds.entries deeds.text same.phase same.run so.tells;
          served = so.served;
          seconds = so.seconds;
          parts = so.parts ∙ ap (λ o. deeds.gone ++ o) (sym owed);
          sent = so.sent;
        },
        rose,
      )

      module _ (rest : (bytes : List ℕ) → StandsFor coll_line_needs at.progress bytes → IsRest coll_line_needs bytes) where
        handled : HandledAll deeds.units goes.tail
        handled = record { none_final = goes.none_final; unfinished = rest goes.tail goes.stands }

        over_here : (ending : End) (into' : Incoming) → is_closed ending ≡ false → began.outside.incoming.left ≡ first_then deeds.taken into'.left
            → Ends ending began.outside (outside into' out coming) deeds.taken deeds.units goes.tail deeds.text → CountsOnly ending began.outside (outside into' out coming)
            → IsOver answers began (moment desk (outside into' out coming)) ending
        over_here ending into' running took ends counts = record {
          taken = deeds.taken;
          units = deeds.units;
          tail = goes.tail;
          entries = deeds.entries;
          text = deeds.text;
          took = took;
          spans = spans_here;
          last = only_of_none deeds.units goes.none_final;
          tells = subst (λ b. Tells b deeds.units deeds.entries deeds.text) (sym running)
              (told_so_far deeds.units deeds.entries deeds.text at.run (subst (λ p. TellsNow p at.run deeds.units deeds.entries deeds.text) going so.tells));
          served = so.served;
          seconds = so.seconds;
          ends = ends;
          counts = counts;
        }

        -- the session is over at 2^40 bytes
        pub over_at_limit : at.taken ≡ 2 ^ 40 → IsOver answers began (moment desk (outside into out coming)) end.LongInput
        over_at_limit all =
            over_here end.LongInput into refl so.took (record { all_taken = so.number ∙ all; handled = handled; sent = whole }) (so.no_fault, same_writes, same_refusals)

        -- the session is over at a read fault
        pub over_at_read_fault : (into' : Incoming) → at.taken < 2 ^ 40 → FailedToPull into into' → IsOver answers began (moment desk (outside into' out coming)) end.ReadFault
        over_at_read_fault into' short failed =
            over_here end.ReadFault into' refl (so.took ∙ ap (first_then deeds.taken) (sym failed.same_left))
            (record { fault = subst (λ f. Rose f into'.faults) so.no_fault failed.rose; short = omega (arith, so.number, short); handled = handled; sent = whole })
            (same_writes, same_refusals)

      -- the input has ended, and the run that was open is answered
      pub came_to_end : (into' : Incoming) (at' : Standing) → at.taken < 2 ^ 40 → CameToEnd into into' → at'.ahead ≡ at.ahead → at'.progress ≡ at.progress → at'.taken ≡ at.taken → at'.phase ≡ phase.Ended
          → at'.owed ≡ at.owed ++ owed_answer at.run
          → SoFar answers began (moment desk (outside into' out coming)) at' (record deeds { text = deeds.text ++ owed_answer at.run })
      came_to_end into' at' short came ahead progress taken ended owed = record {
        took = so.took ∙ ap (first_then deeds.taken) (sym came.same_left);
        no_fault = came.same_faults ∙ so.no_fault;
        number = so.number ∙ sym taken;
        within = subst (λ p. IsWithin p at' (record deeds { text = deeds.text ++ owed_answer at.run })) (sym ended) (
          record {
            tail = goes.tail;
            spans = subst (λ a. BeginsWith coll_line_needs deeds.taken deeds.units (goes.tail ++ a)) (sym ahead) goes.spans;
            stands = subst (λ p. StandsFor coll_line_needs p goes.tail) (sym progress) goes.stands;
            none_final = goes.none_final;
          },
          ahead ∙ read,
        );
        at_end = subst (λ p. IsAtEnd p into' deeds.taken) (sym ended)
            (record { nothing_left = subst (λ l. IfSome l (λ bytes. bytes ≡ [])) (sym came.same_left) came.ended; short = omega (arith, so.number, short) });
        tells = subst (λ p. TellsNow p at'.run deeds.units deeds.entries (deeds.text ++ owed_answer at.run)) (sym ended)
            (told_with_answer deeds.units deeds.entries deeds.text at.run (subst (λ p. TellsNow p at.run deeds.units deeds.entries deeds.text) going so.tells));
        served = so.served;
        seconds = so.seconds;
        parts = ap (λ t. t ++ owed_answer at.run) so.parts ∙ append_assoc deeds.gone at.owed (owed_answer at.run) ∙ ap (λ o. deeds.gone ++ o) (sym owed);
        sent = so.sent;
      }

    -- behind the end of the input the session is over by how many bytes came of an unfinished unit
    module _ (ended : at.phase ≡ phase.Ended) (rest : (bytes : List ℕ) → StandsFor coll_line_needs at.progress bytes → IsRest coll_line_needs bytes) where
      stood : GoesOn at deeds × (at.ahead ≡ [])
      stood = subst (λ p. IsWithin p at deeds) ended so.within

      last_spans : BeginsWith coll_line_needs deeds.taken deeds.units stood.0.tail
      last_spans = subst (BeginsWith coll_line_needs deeds.taken deeds.units) (ap (λ a. stood.0.tail ++ a) stood.1 ∙ append-nil stood.0.tail) stood.0.spans

      came : HasEnded into deeds.taken
      came = subst (λ p. IsAtEnd p into deeds.taken) ended so.at_end

      all_handled : HandledAll deeds.units stood.0.tail
      all_handled = record { none_final = stood.0.none_final; unfinished = rest stood.0.tail stood.0.stands }

      -- so it is over by its tail
      over_by : (tail : List ℕ) → BeginsWith coll_line_needs deeds.taken deeds.units tail → HandledAll deeds.units tail → (ending : End) → ending ≡ end_behind tail
          → Ends ending began.outside (outside into out coming) deeds.taken deeds.units tail deeds.text → CountsOnly ending began.outside (outside into out coming) → is_closed ending ≡ true
          → IsOver answers began (moment desk (outside into out coming)) ending
      over_by tail spans handled ending is ends counts closed = record {
        taken = deeds.taken;
        units = deeds.units;
        tail = tail;
        entries = deeds.entries;
        text = deeds.text;
        took = so.took;
        spans = spans;
        last = only_of_none deeds.units stood.0.none_final;
        tells = subst (λ b. Tells b deeds.units deeds.entries deeds.text) (sym closed) (subst (λ p. TellsNow p at.run deeds.units deeds.entries deeds.text) ended so.tells);
        served = so.served;
        seconds = so.seconds;
        ends = ends;
        counts = counts;
      }

      over_with : (tail : List ℕ) → BeginsWith coll_line_needs deeds.taken deeds.units tail → HandledAll deeds.units tail → IsOver answers began (moment desk (outside into out coming)) (end_behind tail)
      over_with [] spans handled =
          over_by [] spans handled end.Ended refl (record { read = record { ended = came.nothing_left; no_fault = so.no_fault; short = came.short }; behind_a_unit = refl; handled = handled; sent = whole })
          (so.no_fault, same_writes, same_refusals) refl
      over_with (byte ∷ tail) spans handled =
          over_by (byte ∷ tail) spans handled (end.Cut (length (byte ∷ tail))) refl
          (record { read = record { ended = came.nothing_left; no_fault = so.no_fault; short = came.short }; within_a_unit = omega arith; came = refl; handled = handled; sent = whole })
          (so.no_fault, same_writes, same_refusals) refl

      pub over_at_end : (ending : End) → ((tail : List ℕ) → StandsFor coll_line_needs at.progress tail → ending ≡ end_behind tail) → IsOver answers began (moment desk (outside into out coming)) ending
      over_at_end ending is =
          subst (IsOver answers began (moment desk (outside into out coming))) (sym (is stood.0.tail stood.0.stands)) (over_with stood.0.tail last_spans all_handled)

-- the reader holds no whole unit
pub holds_rest : (progress : Progress) → ready_unit progress ≡ None
    → ((needs : List ℕ → Need) (progress : Progress) (bytes : List ℕ) → StandsFor needs progress bytes → MatchOption (ready_unit progress) (IsRest needs bytes) (λ unit. IsSpan needs bytes unit))
    → (bytes : List ℕ) → StandsFor coll_line_needs progress bytes → IsRest coll_line_needs bytes
holds_rest progress waits law bytes stands = subst (λ r. MatchOption r (IsRest coll_line_needs bytes) (λ unit. IsSpan coll_line_needs bytes unit)) waits (law coll_line_needs progress bytes stands)

-- a session that is over
pub link_over : {D : Type 0} (answers : D → Entry → D → Type 0) (began now : Moment D) (agains agains' : ℕ) (at' : Standing) (deeds : Deeds) (result : Turn) (ending : End)
    → result ≡ turn.Over ending → at'.phase ≡ phase.Over → IsOver answers began now ending → LinkLeaves answers began now agains agains' at' deeds result
link_over answers began now agains agains' at' deeds result ending is stands ends =
    subst (LinkLeaves answers began now agains agains' at' deeds) (sym is) (ends, stands)

-- an exchange counts from where the counts stood before, and the bytes from those that were taken
pub link_since : {D : Type 0} (answers : D → Entry → D → Type 0) (began now : Moment D) (agains middle agains' : ℕ) (at' : Standing) (deeds since : Deeds) (result : Turn)
    → middle ≡ agains → since.taken ≡ deeds.taken → LinkLeaves answers began now middle agains' at' since result → LinkLeaves answers began now agains agains' at' deeds result
link_since answers began now agains middle agains' at' deeds since turn.More same taken leaves =
    (leaves.0, leaves.1, record { some = subst (λ t. length t < length leaves.0.taken) taken leaves.2.some; nothing_owed = leaves.2.nothing_owed }, leaves.3 ∙ same)
link_since answers began now agains middle agains' at' deeds since turn.Again same taken leaves =
    (leaves.0, leaves.1, subst (λ a. Rose a agains') same leaves.2)
link_since answers began now agains middle agains' at' deeds since (turn.Over ending) same taken leaves = leaves

-- what an exchange leaves is what the turn leaves
pub turn_by_link : {D : Type 0} (answers : D → Entry → D → Type 0) (began now : Moment D) (agains agains' : ℕ) (at at' : Standing) (deeds : Deeds) (result : Turn)
    → LinkLeaves answers began now agains agains' at' deeds result → TurnLeaves answers began now agains agains' at at' deeds result
turn_by_link answers began now agains agains' at at' deeds turn.More leaves = (leaves.0, leaves.1, inl leaves.2, leaves.3)
turn_by_link answers began now agains agains' at at' deeds turn.Again leaves = leaves
turn_by_link answers began now agains agains' at at' deeds (turn.Over ending) leaves = leaves

-- a turn counts from where the counts stood before, and its deeds from those before
pub turn_since : {D : Type 0} (answers : D → Entry → D → Type 0) (began now : Moment D) (agains middle agains' : ℕ) (at mid at' : Standing) (deeds since : Deeds) (result : Turn)
    → middle ≡ agains → mid.ahead ≡ at.ahead → since.taken ≡ deeds.taken → since.units ≡ deeds.units → TurnLeaves answers began now middle agains' mid at' since result
    → TurnLeaves answers began now agains agains' at at' deeds result
turn_since answers began now agains middle agains' at mid at' deeds since turn.More same ahead taken units leaves =
    (leaves.0, leaves.1, on leaves.2, leaves.3 ∙ same)
  where
    on : WentOn mid at' since leaves.0 → WentOn at at' deeds leaves.0
    on (inl took) = inl (record { some = subst (λ t. length t < length leaves.0.taken) taken took.some; nothing_owed = took.nothing_owed })
    on (inr one) = inr (record {
      unit = one.unit;
      units = one.units ∙ ap (λ u. u ++ one.unit ∷ []) units;
      same = one.same ∙ taken;
      read = subst (λ a. length at'.ahead < length a) ahead one.read;
    })
turn_since answers began now agains middle agains' at mid at' deeds since turn.Again same ahead taken units leaves =
    (leaves.0, leaves.1, subst (λ a. Rose a agains') same leaves.2)
turn_since answers began now agains middle agains' at mid at' deeds since (turn.Over ending) same ahead taken units leaves = leaves

-- what sending leaves of a session that is seen so
module _ {D : Type 0} (answers : D → Entry → D → Type 0) (began : Moment D) (desk : D) (coming : Option (List ℕ)) (into into' : Incoming) (out out' : Outgoing) (at now mid : Standing) (deeds : Deeds) (agains agains' : ℕ)
    (seen : at ≡ now) (same_into : into' ≡ into) (same : SameBut at mid) (so : SoFar answers began (moment desk (outside into out coming)) now deeds) where
  so_seen : SoFar answers began (moment desk (outside into out coming)) at deeds
  so_seen = subst (λ s. SoFar answers began (moment desk (outside into out coming)) s deeds) (sym seen) so

  pub sent_seen : (part : SentUpto out out' at.owed mid.owed) → CountsStay out out' agains agains' → SoFar answers began (moment desk (outside into' out' coming)) mid (with_gone deeds part.front)
  sent_seen part stay =
      subst (λ i. SoFar answers began (moment desk (outside i out' coming)) mid (with_gone deeds part.front)) (sym same_into)
      (sent_so_far answers began desk coming into out at deeds so_seen out' mid same part stay.same_faults stay.same_refusals)

  pub unsent_seen : (at' : Standing) (cause : Unsent) (result : Turn) → Sends out out' agains agains' at.owed mid.owed (Err cause) → at.taken ≤ 2 ^ 40 → result ≡ turn_unsent cause → at' ≡ stopped cause mid
      → LinkLeaves answers began (moment desk (outside into' out' coming)) agains agains' at' deeds result
  unsent_seen at' cause result sends few is stands =
      subst (λ r. LinkLeaves answers began (moment desk (outside into' out' coming)) agains agains' at' deeds r) (sym is)
      (subst (λ a. LinkLeaves answers began (moment desk (outside into' out' coming)) agains agains' a deeds (turn_unsent cause)) (sym stands)
      (subst (λ i. LinkLeaves answers began (moment desk (outside i out' coming)) agains agains' (stopped cause mid) deeds (turn_unsent cause)) (sym same_into)
      (could_not_send answers began desk coming into out at deeds so_seen out' mid same sends.0 cause agains agains' few sends.1)))

-- what was done by a session that is seen so
pub so_as : {D : Type 0} (answers : D → Entry → D → Type 0) (began here : Moment D) (at now : Standing) (deeds : Deeds) → at ≡ now → SoFar answers began here now deeds → SoFar answers began here at deeds
so_as answers began here at now deeds seen so = subst (λ s. SoFar answers began here s deeds) (sym seen) so

pub waits_as : (p : Phase) (progress : Progress) → (p ≡ phase.Going) ⊎ (p ≡ phase.Ended) → IsReading p progress → ready_unit progress ≡ None
waits_as p progress (inl going) reads =
    let between : IsBetweenUnits progress = subst (λ r. IsReading r progress) going reads in
    between.waits
waits_as p progress (inr ended) reads =
    let between : IsBetweenUnits progress = subst (λ r. IsReading r progress) ended reads in
    between.waits

-- the reader of a session that goes on, or whose input has ended, holds no whole unit
pub rest_as : (p : Phase) (progress : Progress) → (p ≡ phase.Going) ⊎ (p ≡ phase.Ended) → IsReading p progress
    → ((needs : List ℕ → Need) (progress : Progress) (bytes : List ℕ) → StandsFor needs progress bytes → MatchOption (ready_unit progress) (IsRest needs bytes) (λ unit. IsSpan needs bytes unit))
    → (bytes : List ℕ) → StandsFor coll_line_needs progress bytes → IsRest coll_line_needs bytes
rest_as p progress going reads law = holds_rest progress (waits_as p progress going reads) law

-- no byte was taken
pub took_nothing : (left : Option (List ℕ)) → left ≡ first_then [] left
took_nothing None = refl
took_nothing (Some bytes) = refl
