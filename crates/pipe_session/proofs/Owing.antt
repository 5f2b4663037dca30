-- A front of what is owed is sent, and then another.
use Rattle.std.proofs.Common.{◌≡◌, ◌+◌, ◌-◌, ℕ, List, [], ◌++◌, take, drop, Result, Ok, Err, refl, sym, ap, ◌∙◌, subst, append_assoc, arith, is_some, Bool, true, false, Some, None, Option}
use Rattle.std.proofs.lemmas.List.{append-nil, take-append-drop, drop-drop}
use Rattle.arc_core.specs.declared.replies.Reply.{Reply}
use Rattle.arc_core.specs.Outside.{Rose, Outgoing, then_sent}
use Rattle.reply_print.specs.Waiting.{IsPut}
use Rattle.reply_print.specs.Writing.{IsSentFrom, CountsStay}
use Rattle.pipe_session.specs.declared.owed.Unsent.{Unsent}
use Rattle.pipe_session.specs.declared.owed.Unsent.TheVariants as unsent
use Rattle.pipe_session.specs.Owing.{SentUpto, HasCause, Sends, rest_of}
use Rattle.pipe_session.proofs.Texts.{sent_on, sent_nothing}

-- nothing was sent
pub sent_none : (out : Outgoing) (owed : List ℕ) → SentUpto out out owed owed
sent_none out owed = record { front = []; parts = refl; sent = sym (sent_nothing out.sent) }

-- a front was sent, and then a front of the rest
pub upto_on : (before between after : Outgoing) (owed middle owed' : List ℕ) → SentUpto before between owed middle → SentUpto between after middle owed' → SentUpto before after owed owed'
upto_on before between after owed middle owed' first next = record {
  front = first.front ++ next.front;
  parts = first.parts ∙ ap (λ o. first.front ++ o) next.parts ∙ sym (append_assoc first.front next.front owed');
  sent = next.sent ∙ ap (λ s. then_sent s next.front) first.sent ∙ sent_on before.sent first.front next.front;
}

-- with more text behind it
pub upto_before : (before after : Outgoing) (owed owed' more : List ℕ) → SentUpto before after owed owed' → SentUpto before after (owed ++ more) (owed' ++ more)
upto_before before after owed owed' more is = record {
  front = is.front;
  parts = ap (λ o. o ++ more) is.parts ∙ append_assoc is.front owed' more;
  sent = is.sent;
}

-- the first bytes were sent
pub upto_taken : (before after : Outgoing) (owed piece owed' : List ℕ) (n : ℕ) → piece ≡ owed → after.sent ≡ then_sent before.sent (take n piece) → owed' ≡ drop n owed → SentUpto before after owed owed'
upto_taken before after owed piece owed' n same is rest = record {
  front = take n owed;
  parts = sym (ap (λ o. take n owed ++ o) rest ∙ take-append-drop n owed);
  sent = is ∙ ap (λ p. then_sent before.sent (take n p)) same;
}

-- a text that was put whole, or not at all
pub put_whole : (waiting waiting' text : List ℕ) (put : Bool) → IsPut waiting waiting' text put → put ≡ true → waiting' ≡ waiting ++ text
put_whole waiting waiting' text true is e = is
put_whole waiting waiting' text false is e = absurd cc

pub put_nothing : (waiting waiting' text : List ℕ) (put : Bool) → IsPut waiting waiting' text put → put ≡ false → waiting' ≡ waiting
put_nothing waiting waiting' text true is e = absurd cc
put_nothing waiting waiting' text false is e = is.0

-- where nothing is owed behind those that wait, it is the last that is owed
pub put_seen : (waiting waiting' rest text : List ℕ) → rest ≡ [] → waiting' ≡ waiting ++ text → waiting' ++ rest ≡ (waiting ++ rest) ++ text
put_seen waiting waiting' rest text none is =
    ap (λ r. waiting' ++ r) none ∙ append-nil waiting' ∙ is ∙ ap (λ w. w ++ text) (sym (append-nil waiting) ∙ ap (λ r. waiting ++ r) (sym none))

-- a text was written up to an offset
pub upto_written : (before after : Outgoing) (text : List ℕ) (from upto : ℕ) → IsSentFrom before.sent after.sent text from upto → SentUpto before after (drop from text) (drop upto text)
upto_written before after text from upto is = record {
  front = take (upto - from) (drop from text);
  parts = sym (take-append-drop (upto - from) (drop from text)) ∙ ap (λ r. take (upto - from) (drop from text) ++ r) (rest (upto - from) (omega (arith, is.forward)));
  sent = is.bytes;
}
  where
    rest : (n : ℕ) → from + n ≡ upto → drop n (drop from text) ≡ drop upto text
    rest n e = drop-drop n from text ∙ ap (λ k. drop k text) e

-- counts that stayed, and then the cause
pub counts_on : (before between after : Outgoing) (agains middle agains' : ℕ) → CountsStay before between agains middle → CountsStay between after middle agains' → CountsStay before after agains agains'
counts_on before between after agains middle agains' first next = record {
  same_faults = next.same_faults ∙ first.same_faults;
  same_refusals = next.same_refusals ∙ first.same_refusals;
  same_agains = next.same_agains ∙ first.same_agains;
}

pub cause_on : (before between after : Outgoing) (agains middle agains' : ℕ) (cause : Unsent) → CountsStay before between agains middle → HasCause between after middle agains' cause → HasCause before after agains agains' cause
cause_on before between after agains middle agains' unsent.Again stay has = record {
  same_faults = has.same_faults ∙ stay.same_faults;
  same_refusals = has.same_refusals ∙ stay.same_refusals;
  rose = subst (λ a. Rose a agains') stay.same_agains has.rose;
}
cause_on before between after agains middle agains' unsent.Failed stay has = record {
  rose = subst (λ f. Rose f after.faults) stay.same_faults has.rose;
  same_refusals = has.same_refusals ∙ stay.same_refusals;
  same_agains = has.same_agains ∙ stay.same_agains;
}
cause_on before between after agains middle agains' unsent.NoMemory stay has = record {
  same_faults = has.same_faults ∙ stay.same_faults;
  rose = subst (λ r. Rose r after.refusals) stay.same_refusals has.rose;
  same_agains = has.same_agains ∙ stay.same_agains;
}

-- all of the first text was sent, and then so much of what stands behind it
pub sends_on : (before between after : Outgoing) (agains middle agains' : ℕ) (first next next' : List ℕ) (result : Result Prim.Unit Unsent)
    → Sends before between agains middle first [] (Ok tt) → Sends between after middle agains' next next' result → Sends before after agains agains' (first ++ next) next' result
sends_on before between after agains middle agains' first next next' (Ok u) is then =
    (upto_on before between after (first ++ next) next next' (upto_before before between first [] next is.0) then.0, counts_on before between after agains middle agains' is.1 then.1)
sends_on before between after agains middle agains' first next next' (Err cause) is then =
    (upto_on before between after (first ++ next) next next' (upto_before before between first [] next is.0) then.0, cause_on before between after agains middle agains' cause is.1 then.1)

-- the first text was sent in part
pub sends_before : (before after : Outgoing) (agains agains' : ℕ) (first first' next : List ℕ) (cause : Unsent)
    → Sends before after agains agains' first first' (Err cause) → Sends before after agains agains' (first ++ next) (first' ++ next) (Err cause)
sends_before before after agains agains' first first' next cause is = (upto_before before after first first' next is.0, is.1)

-- all of the first text was sent, and then so much of what stands behind it, while nothing waits
pub sends_both : (before between after : Outgoing) (agains middle agains' : ℕ) (first first' kept next next' : List ℕ) (result : Result Prim.Unit Unsent)
    → Sends before between agains middle first first' (Ok tt) → first' ≡ [] → kept ≡ first' → Sends between after middle agains' next next' result
    → Sends before after agains agains' (first ++ next) (kept ++ next') result
sends_both before between after agains middle agains' first first' kept next next' result is none same then =
    subst (λ k. Sends before after agains agains' (first ++ next) (k ++ next') result) (sym (same ∙ none))
    (sends_on before between after agains middle agains' first next next' result (subst (λ f. Sends before between agains middle first f (Ok tt)) none is) then)

-- where no reply is owed there is no rest of one
pub no_rest : (long : Option Reply) (at : ℕ) → is_some long ≡ false → rest_of long at ≡ []
no_rest None at none = refl
no_rest (Some reply) at none = absurd cc
