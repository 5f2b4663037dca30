-- How a text goes out.
use Rattle.std.proofs.Common.{◌≡◌, ◌+◌, ◌-◌, ◌≤◌, ◌<◌, ◌^◌, ℕ, List, [], ◌++◌, length, take, drop, Option, Some, None, min, refl, sym, ap, ◌∙◌, arith, append_assoc, length-append, length-drop, subst}
use Rattle.std.proofs.lemmas.List.{append-nil, take-append-drop}
use Rattle.std.proofs.Math.Seq.{take-length, take-append_seam, drop-nil, drop-append-add}
use Rattle.arc_core.specs.Outside.{Linked, then_sent, Rose, WasTaken, FailedToPush, RefusedToPush}
use Rattle.reply_print.specs.declared.sending.Unsent.{Unsent}
use Rattle.reply_print.specs.declared.sending.Unsent.TheVariants as why
use Rattle.reply_print.specs.declared.wrote.Wrote.TheVariants as wrote
use Rattle.reply_print.specs.Writing.{IsSentFrom, CountsStay, Writes}
use Rattle.reply_print.specs.Reaching.{Reached, Stopped, wrote_of}

-- one piece after another
pub sent_on : (sent : Option (List ℕ)) (a b : List ℕ) → then_sent (then_sent sent a) b ≡ then_sent sent (a ++ b)
sent_on None a b = refl
sent_on (Some s) a b = ap Some (append_assoc s a b)

pub sent_nothing : (sent : Option (List ℕ)) → then_sent sent [] ≡ sent
sent_nothing None = refl
sent_nothing (Some s) = ap Some (append-nil s)

-- `&xs[n..]` as the goals read it
pub take_rest : (xs : List ℕ) (n : ℕ) → take (length xs - n) (drop n xs) ≡ drop n xs
take_rest xs n = ap (λ k. take k (drop n xs)) (sym (length-drop n xs)) ∙ take-length (drop n xs)

-- at the start nothing was sent
pub began : (start : Linked) (from at : ℕ) (text unsent : List ℕ) → from ≤ length text → length text < 2 ^ 64 → at ≡ from → drop from text ≡ unsent → Reached start start from at text unsent
began start from at text unsent in_text few here is = record {
  front = [];
  parts = is;
  sent = sym (sent_nothing start.outgoing.sent);
  at_is = omega (arith, here);
  within = in_text;
  fits = few;
  counts = record { same_faults = refl; same_refusals = refl; same_agains = refl };
  incoming = refl;
}

-- a text in one piece is still to be sent from the offset on
pub whole_piece : (from : ℕ) (text : List ℕ) → drop from text ≡ take (length text - from) (drop from text) ++ []
whole_piece from text = sym (append-nil (take (length text - from) (drop from text)) ∙ take_rest text from)

-- nothing of a text was put out
pub none_put : (from skip : ℕ) (text waiting : List ℕ) → skip ≡ from → waiting ≡ [] → drop from text ≡ waiting ++ drop skip (text ++ [])
none_put from skip text waiting same none =
    ap (drop from) (sym (append-nil text))
    ∙ ap (λ k. drop k (text ++ [])) (sym same)
    ∙ ap (λ w. w ++ drop skip (text ++ [])) (sym none)

-- the offset is one of the text
pub at_within : (start now : Linked) (from at : ℕ) (text unsent : List ℕ) → Reached start now from at text unsent → at + length unsent ≡ length text
at_within start now from at text unsent was =
    let parts : length text - from ≡ length was.front + length unsent = sym (length-drop from text) ∙ ap length was.parts ∙ length-append was.front unsent in
    omega (arith, parts, was.at_is, was.within)

-- counts that stay, one call after another
stays : (start now now' : Linked) → CountsStay start.outgoing now.outgoing start.agains now.agains → CountsStay now.outgoing now'.outgoing now.agains now'.agains
    → CountsStay start.outgoing now'.outgoing start.agains now'.agains
stays start now now' was is = record {
  same_faults = is.same_faults ∙ was.same_faults;
  same_refusals = is.same_refusals ∙ was.same_refusals;
  same_agains = is.same_agains ∙ was.same_agains;
}

-- a push took some of what was to be sent
pub went_on : (start now now' : Linked) (from at at' : ℕ) (text unsent piece unsent' : List ℕ) (n : ℕ)
    → Reached start now from at text unsent → unsent ≡ take n piece ++ unsent'
    → WasTaken now.outgoing now'.outgoing piece n × (now'.agains ≡ now.agains)
    → at' ≡ min (at + length (take n piece)) (2 ^ 64 - 1)
    → now'.incoming ≡ now.incoming
    → Reached start now' from at' text unsent'
went_on start now now' from at at' text unsent piece unsent' n was is took at_is same =
    let taken = take n piece in
    let end : at + length unsent ≡ length text = at_within start now from at text unsent was in
    let lens : length unsent ≡ length taken + length unsent' = ap length is ∙ length-append taken unsent' in
    let more : length (was.front ++ taken) ≡ length was.front + length taken = length-append was.front taken in
    record {
      front = was.front ++ taken;
      parts = was.parts ∙ ap (λ u. was.front ++ u) is ∙ sym (append_assoc was.front taken unsent');
      sent = took.0.bytes ∙ ap (λ s. then_sent s taken) was.sent ∙ sent_on start.outgoing.sent was.front taken;
      at_is = omega (arith, end, lens, more, at_is, was.at_is, was.fits);
      within = was.within;
      fits = was.fits;
      counts = stays start now now' was.counts (record { same_faults = took.0.same_faults; same_refusals = took.0.same_refusals; same_agains = took.1 });
      incoming = same ∙ was.incoming;
    }

-- the text was sent up to its offset
pub sent_upto : (start now : Linked) (from at : ℕ) (text unsent : List ℕ) (sent' : Option (List ℕ)) → Reached start now from at text unsent → sent' ≡ now.outgoing.sent → IsSentFrom start.outgoing.sent sent' text from at
sent_upto start now from at text unsent sent' was same =
    let end : at + length unsent ≡ length text = at_within start now from at text unsent was in
    let n : at - from ≡ length was.front = omega (arith, was.at_is) in
    record {
      forward = omega (arith, was.at_is);
      within = omega (arith, end);
      bytes = same ∙ was.sent ∙ ap (then_sent start.outgoing.sent) (sym (ap (λ k. take k (drop from text)) n ∙ ap (take (length was.front)) was.parts ∙ take-append_seam was.front unsent));
    }

pub stopped_failed : (start now now' : Linked) (from at : ℕ) (text unsent : List ℕ)
    → Reached start now from at text unsent → FailedToPush now.outgoing now'.outgoing × (now'.agains ≡ now.agains)
    → now'.incoming ≡ now.incoming
    → Stopped start now' from text (why.Failed at)
stopped_failed start now now' from at text unsent was failed same = record {
  sent = sent_upto start now from at text unsent now'.outgoing.sent was failed.0.same_sent;
  counted = record {
    rose = subst (λ x. Rose x now'.outgoing.faults) was.counts.same_faults failed.0.rose;
    same_refusals = failed.0.same_refusals ∙ was.counts.same_refusals;
    same_agains = failed.1 ∙ was.counts.same_agains;
  };
  incoming = same ∙ was.incoming;
}

pub stopped_refused : (start now now' : Linked) (from at : ℕ) (text unsent : List ℕ)
    → Reached start now from at text unsent → RefusedToPush now.outgoing now'.outgoing × (now'.agains ≡ now.agains)
    → now'.incoming ≡ now.incoming
    → Stopped start now' from text (why.NoMemory at)
stopped_refused start now now' from at text unsent was refused same = record {
  sent = sent_upto start now from at text unsent now'.outgoing.sent was refused.0.same_sent;
  counted = record {
    same_faults = refused.0.same_faults ∙ was.counts.same_faults;
    rose = subst (λ x. Rose x now'.outgoing.refusals) was.counts.same_refusals refused.0.rose;
    same_agains = refused.1 ∙ was.counts.same_agains;
  };
  incoming = same ∙ was.incoming;
}

pub stopped_again : (start now now' : Linked) (from at : ℕ) (text unsent : List ℕ)
    → Reached start now from at text unsent → (now'.outgoing ≡ now.outgoing) × Rose now.agains now'.agains
    → now'.incoming ≡ now.incoming
    → Stopped start now' from text (why.Again at)
stopped_again start now now' from at text unsent was again same = record {
  sent = sent_upto start now from at text unsent now'.outgoing.sent was (ap (λ o. o.sent) again.0);
  counted = record {
    same_faults = ap (λ o. o.faults) again.0 ∙ was.counts.same_faults;
    same_refusals = ap (λ o. o.refusals) again.0 ∙ was.counts.same_refusals;
    rose = subst (λ x. Rose x now'.agains) was.counts.same_agains again.1;
  };
  incoming = same ∙ was.incoming;
}

-- the same bytes are still to be sent, however they are put together
pub reached_as : (start now : Linked) (from at : ℕ) (text waiting : List ℕ) (skip : ℕ) (xs ys : List ℕ) → Reached start now from at text (waiting ++ drop skip xs) → xs ≡ ys → Reached start now from at text (waiting ++ drop skip ys)
reached_as start now from at text waiting skip xs ys was same = subst (λ zs. Reached start now from at text (waiting ++ drop skip zs)) same was

-- all was sent
pub all_sent : (start now : Linked) (from at : ℕ) (text unsent : List ℕ) → Reached start now from at text unsent → unsent ≡ [] → Writes start.outgoing now.outgoing start.agains now.agains text from wrote.Done
all_sent start now from at text unsent was none =
    let whole : drop from text ≡ was.front = was.parts ∙ ap (λ u. was.front ++ u) none ∙ append-nil was.front in
    (was.sent ∙ ap (then_sent start.outgoing.sent) (sym whole), was.counts)

-- what a writing that stopped leaves
pub stopped_writes : (start now : Linked) (from : ℕ) (text : List ℕ) (cause : Unsent) → Stopped start now from text cause → Writes start.outgoing now.outgoing start.agains now.agains text from (wrote_of cause)
stopped_writes start now from text (why.Failed at) is = (is.sent, is.counted)
stopped_writes start now from text (why.NoMemory at) is = (is.sent, is.counted)
stopped_writes start now from text (why.Again at) is = (is.sent, is.counted)

-- nothing is left behind the end
pub none_left : (waiting : List ℕ) (skip : ℕ) → waiting ≡ [] → waiting ++ drop skip [] ≡ []
none_left waiting skip none = ap (λ w. w ++ drop skip []) none ∙ drop-nil skip

-- what a push took stands before the rest
pub took_some : (unsent rest : List ℕ) (n : ℕ) → unsent ++ rest ≡ take n unsent ++ (drop n unsent ++ rest)
took_some unsent rest n = ap (λ u. u ++ rest) (sym (take-append-drop n unsent)) ∙ append_assoc (take n unsent) (drop n unsent) rest

-- the same bytes are still to be sent
pub behind : (start now : Linked) (from at : ℕ) (text a b xs ys : List ℕ) → Reached start now from at text (a ++ b) → a ++ b ≡ xs ++ ys → Reached start now from at text (xs ++ ys)
behind start now from at text a b xs ys was same = subst (Reached start now from at text) same was

-- a piece is passed over
pub passed_over : (piece rest : List ℕ) (skip : ℕ) → length piece ≤ skip → drop skip (piece ++ rest) ≡ drop (skip - length piece) rest
passed_over piece rest skip all =
    let n : skip ≡ length piece + (skip - length piece) = omega arith in
    ap (λ k. drop k (piece ++ rest)) n ∙ drop-append-add piece rest (skip - length piece)
