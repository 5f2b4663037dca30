-- Texts that are written piece by piece.
use Rattle.std.proofs.Common.{◌≡◌, ◌∙◌, ℕ, take, drop, List, [], ◌++◌, Option, Some, None, Result, Ok, Err, refl, sym, ap, subst}
use Rattle.std.proofs.lemmas.List.{append-nil, append_assoc, take-append-drop}
use Rattle.arc_core.specs.Outside.{Outgoing, outgoing, WasTaken, Rose, then_sent, sent_more}
use Rattle.pipe_session.specs.Ends.{IsSentInPart}
use Rattle.sink_writes.specs.declared.write.Unwritten.{Unwritten}
use Rattle.sink_writes.specs.declared.write.Unwritten.TheVariants as unwritten
use Rattle.sink_writes.specs.Writing.{Writes, RefusedIn}

sent_both : (sent : Option (List ℕ)) (front more : List ℕ) → then_sent (then_sent sent front) more ≡ then_sent sent (front ++ more)
sent_both None front more = refl
sent_both (Some bytes) front more = ap Some (append_assoc bytes front more)

pub sent_none : (sent : Option (List ℕ)) → sent ≡ then_sent sent []
sent_none None = refl
sent_none (Some bytes) = ap Some (sym (append-nil bytes))

pub sent_on : (out : Outgoing) (front more : List ℕ) → sent_more (sent_more out front) more ≡ sent_more out (front ++ more)
sent_on out front more = ap (λ (s : Option (List ℕ)). record out { sent = s }) (sent_both out.sent front more)

part_behind : (sent sent' : Option (List ℕ)) (front text : List ℕ) → IsSentInPart (then_sent sent front) sent' text → IsSentInPart sent sent' (front ++ text)
part_behind sent sent' front text part = record {
  front = front ++ part.front;
  back = part.back;
  parts = ap (λ t. front ++ t) part.parts ∙ sym (append_assoc front part.front part.back);
  sent_is = part.sent_is ∙ sent_both sent front part.front;
}

part_before : (sent sent' : Option (List ℕ)) (front text : List ℕ) → IsSentInPart sent sent' front → IsSentInPart sent sent' (front ++ text)
part_before sent sent' front text part = record {
  front = part.front;
  back = part.back ++ text;
  parts = ap (λ t. t ++ text) part.parts ∙ append_assoc part.front part.back text;
  sent_is = part.sent_is;
}

-- a front was written, and then this
pub writes_behind : {A : Type 0} (before middle after : Outgoing) (front text : List ℕ) (r : Result A Unwritten) → middle ≡ sent_more before front → Writes middle text after r → Writes before (front ++ text) after r
writes_behind before middle after front text (Ok done) is writes = writes ∙ (ap (λ out. sent_more out text) is ∙ sent_on before front text)
writes_behind before middle after front text (Err unwritten.Failed) is writes = record {
  fault = subst (λ out. Rose out.faults after.faults) is writes.fault;
  same_refusals = writes.same_refusals ∙ ap (λ out. out.refusals) is;
  sent = part_behind before.sent after.sent front text (subst (λ out. IsSentInPart out.sent after.sent text) is writes.sent);
}
writes_behind before middle after front text (Err unwritten.NoMemory) is writes = record {
  same_faults = writes.same_faults ∙ ap (λ out. out.faults) is;
  sent = part_behind before.sent after.sent front text (subst (λ out. IsSentInPart out.sent after.sent text) is writes.sent);
}

-- a front was not written whole, and so not the text
pub writes_no_more : (A B : Type 0) (before after : Outgoing) (front text : List ℕ) (why : Unwritten) → Writes {A = A} before front after (Err why) → Writes {A = B} before (front ++ text) after (Err why)
writes_no_more A B before after front text unwritten.Failed writes =
    record { fault = writes.fault; same_refusals = writes.same_refusals; sent = part_before before.sent after.sent front text writes.sent }
writes_no_more A B before after front text unwritten.NoMemory writes = record { same_faults = writes.same_faults; sent = part_before before.sent after.sent front text writes.sent }

-- nothing was written
pub refused : (out : Outgoing) (text : List ℕ) → RefusedIn out text out
refused out text = record { same_faults = refl; sent = record { front = []; back = text; parts = refl; sent_is = sent_none out.sent } }

outgoing_is : (a b : Outgoing) → a.sent ≡ b.sent → a.faults ≡ b.faults → a.refusals ≡ b.refusals → a ≡ b
outgoing_is a b sent faults refusals =
    ap (λ s. outgoing s a.faults a.refusals) sent ∙ (ap (λ n. outgoing b.sent n a.refusals) faults ∙ ap (λ n. outgoing b.sent b.faults n) refusals)

-- the sink took a part of what is left
pub sends_next : (start now after : Outgoing) (piece done left behind : List ℕ) (n : ℕ) → piece ≡ done ++ left → now ≡ sent_more start done → WasTaken now after left n → behind ≡ drop n left
    → (front : List ℕ) × (piece ≡ front ++ behind) × (after ≡ sent_more start front)
sends_next start now after piece done left behind n is sent taken rest = (
  done ++ take n left,
  is ∙ (ap (λ l. done ++ l) (sym (take-append-drop n left)) ∙ (sym (append_assoc done (take n left) (drop n left)) ∙ ap (λ l. (done ++ take n left) ++ l) (sym rest))),
  outgoing_is after (sent_more now (take n left)) taken.bytes taken.same_faults taken.same_refusals ∙ (ap (λ out. sent_more out (take n left)) sent ∙ sent_on start done (take n left)),
)
