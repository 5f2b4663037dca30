-- What came of one session, from what its link and its calls tell.
use Rattle.std.proofs.Common.{◌≡◌, ◌∙◌, ℕ, ◌/◌, ◌^◌, ◌<◌, List, [], ◌++◌, length, Option, Some, None, refl, sym, ap, subst, arith}
use Rattle.std.proofs.lemmas.List.{length-append}
use Rattle.arc_core.specs.declared.ends.End.{End}
use Rattle.arc_core.specs.declared.ends.End.TheVariants as end
use Rattle.arc_core.specs.Framing.{Whole}
use Rattle.arc_core.specs.History.{Entry}
use Rattle.arc_core.specs.Outside.{Linked, linked, first_then, then_sent, incoming, outgoing}
use Rattle.pipe_session.specs.Desks.{TicksThrough}
use Rattle.pipe_session.specs.Ends.{Ends, is_closed}
use Rattle.pipe_session.specs.Outside.{Outside, outside}
use Rattle.pipe_session.specs.SessionText.{Tells}
use Rattle.turn_lock.specs.Calls.{calls_of}
use Rattle.worker_server.specs.Apart.{IsServedBy}
use Rattle.worker_server.specs.Workers.{Service}
use Rattle.script_runs.specs.Output.{Outcome, outcome, HasWord}
use Rattle.script_runs.specs.Reading.{fresh_link}
use Rattle.script_runs.specs.Runs.{link_outside, seat_of, CameOut}

-- It is told.
abbrev pub IsTold : {A : Type 0} → Option A → Type 0
IsTold None = ⊥
IsTold (Some x) = Unit {0}

abbrev pub unwrap : {A : Type 0} → A → Option A → A
unwrap d None = d
unwrap d (Some x) = x

-- what is left where these bytes were taken from these
pub left_told : (bytes taken : List ℕ) (left : Option (List ℕ)) → Some bytes ≡ first_then taken left → (rest : List ℕ) × (left ≡ Some rest) × (bytes ≡ taken ++ rest)
left_told bytes taken None is = absurd (subst IsTold is tt)
left_told bytes taken (Some rest) is = (rest, refl, ap (unwrap []) is)

more_told : (sent sent' : Option (List ℕ)) (text : List ℕ) (s : List ℕ) → sent ≡ Some s → sent' ≡ then_sent sent text → (s' : List ℕ) × (sent' ≡ Some s')
more_told sent sent' text s is more = (s ++ text, more ∙ ap (λ o. then_sent o text) is)

-- what was sent is still told at the end
sent_told : (ended : End) (before after : Outside) (taken : List ℕ) (units : List Whole) (tail text : List ℕ) (s : List ℕ) → before.out.sent ≡ Some s → Ends ended before after taken units tail text
    → (s' : List ℕ) × (after.out.sent ≡ Some s')
sent_told end.Ended before after taken units tail text s is ends = more_told before.out.sent after.out.sent text s is (ap (λ o. o.sent) ends.sent)
sent_told end.Quit before after taken units tail text s is ends = more_told before.out.sent after.out.sent text s is (ap (λ o. o.sent) ends.sent)
sent_told (end.Cut rest) before after taken units tail text s is ends = more_told before.out.sent after.out.sent text s is (ap (λ o. o.sent) ends.sent)
sent_told end.LineTooLong before after taken units tail text s is ends = more_told before.out.sent after.out.sent text s is (ap (λ o. o.sent) ends.sent)
sent_told end.LongInput before after taken units tail text s is ends = more_told before.out.sent after.out.sent text s is (ap (λ o. o.sent) ends.sent)
sent_told end.ReadFault before after taken units tail text s is ends = more_told before.out.sent after.out.sent text s is (ap (λ o. o.sent) ends.sent)
sent_told end.WriteFault before after taken units tail text s is ends = more_told before.out.sent after.out.sent ends.sent.front s is ends.sent.sent_is
sent_told end.NoMemory before after taken units tail text s is ends = more_told before.out.sent after.out.sent ends.sent.front s is ends.sent.sent_is
sent_told end.Crowded before after taken units tail text s is ends = absurd ends

-- a link that never fails and has few bytes lets a session end with a word
has_word : (ended : End) (bytes left sent : List ℕ) (refusals : ℕ) (coming coming' : Option (List ℕ)) (taken : List ℕ) (units : List Whole) (tail text : List ℕ) → length taken < 2 ^ 40
    → Ends ended (link_outside bytes [] 0 coming) (link_outside left sent refusals coming') taken units tail text → HasWord ended
has_word end.Ended bytes left sent refusals coming coming' taken units tail text few ends = tt
has_word end.Quit bytes left sent refusals coming coming' taken units tail text few ends = tt
has_word (end.Cut rest) bytes left sent refusals coming coming' taken units tail text few ends = tt
has_word end.LineTooLong bytes left sent refusals coming coming' taken units tail text few ends = tt
has_word end.NoMemory bytes left sent refusals coming coming' taken units tail text few ends = tt
has_word end.LongInput bytes left sent refusals coming coming' taken units tail text few ends = omega (arith, few, ends.all_taken)
has_word end.ReadFault bytes left sent refusals coming coming' taken units tail text few ends = omega (arith, ends.fault.1)
has_word end.WriteFault bytes left sent refusals coming coming' taken units tail text few ends = omega (arith, ends.fault.1)
has_word end.Crowded bytes left sent refusals coming coming' taken units tail text few ends = absurd ends

module _ {L : Type 0} (left sent : L → Option (List ℕ)) (refusals : L → ℕ) where
  -- a link that never fails and never has to be asked again
  abbrev pub steady : L → Linked
  steady link = linked (left link) 0 (sent link) 0 (refusals link) 0

  -- ONE SESSION
  pub came_out : (workers : ℕ) (history : List Entry) (number : ℕ) (bytes : List ℕ) (service : Service L) → steady service.came ≡ fresh_link bytes → length bytes < 2 ^ 40
      → IsServedBy steady (number / workers) (calls_of (seat_of workers number) history) service
      → (came : Outcome) × CameOut workers history number bytes came × (sent service.went ≡ Some came.sent) × (service.ended ≡ came.ended)
  came_out workers history number bytes service fresh few by =
      let over = by.served.over in
      let took : Some bytes ≡ first_then over.taken (left service.went) = sym (ap (λ l. l.incoming.left) fresh) ∙ over.took in
      let rest = left_told bytes over.taken (left service.went) took in
      let gone = sent_told service.ended (outside (steady service.came).incoming (steady service.came).outgoing by.coming) (outside (steady service.went).incoming (steady service.went).outgoing by.coming')
      over.taken over.units over.tail over.text [] (ap (λ l. l.outgoing.sent) fresh) over.ends in
      let ends : Ends service.ended (link_outside bytes [] 0 by.coming) (link_outside rest.0 gone.0 (refusals service.went) by.coming') over.taken over.units over.tail over.text =
      subst (λ s. Ends service.ended (link_outside bytes [] 0 by.coming) (outside (incoming (Some rest.0) 0) (outgoing s 0 (refusals service.went)) by.coming') over.taken over.units over.tail over.text) gone.1
      (subst (λ l. Ends service.ended (link_outside bytes [] 0 by.coming) (outside (incoming l 0) (outgoing (sent service.went) 0 (refusals service.went)) by.coming') over.taken over.units over.tail over.text) rest.1
      (subst (λ l. Ends service.ended (outside l.incoming l.outgoing by.coming) (outside (steady service.went).incoming (steady service.went).outgoing by.coming') over.taken over.units over.tail over.text) fresh over.ends)) in (
        outcome service.ended gone.0,
        record {
          taken = over.taken;
          left = rest.0;
          units = over.units;
          tail = over.tail;
          text = over.text;
          refusals = refusals service.went;
          coming = by.coming;
          coming' = by.coming';
          parts = rest.2;
          spans = over.spans;
          last = over.last;
          tells = subst (λ es. Tells (is_closed service.ended) over.units es over.text) by.entries over.tells;
          seconds = subst (λ es. TicksThrough by.coming es by.coming') by.entries over.seconds;
          ends = ends;
          word = has_word service.ended bytes rest.0 gone.0 (refusals service.went) by.coming by.coming' over.taken over.units over.tail over.text
              (omega (arith, few, ap length rest.2, length-append over.taken rest.0)) ends;
        },
        gone.1,
        refl,
      )
