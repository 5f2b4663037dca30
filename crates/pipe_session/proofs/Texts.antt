-- Texts that are sent piece by piece.
use Rattle.std.proofs.Common.{◌≡◌, ◌-◌, ℕ, List, [], ◌∷◌, ◌++◌, length, take, drop, Option, Some, None, refl, sym, ap, ◌∙◌, arith, append_assoc, length-drop, true}
use Rattle.std.specs.Prelude.{◌==◌}
use Rattle.std.proofs.lemmas.Bool.Decides.{nat_tests}
use Rattle.std.proofs.lemmas.List.{append-nil}
use Rattle.std.proofs.Math.Seq.{take-length}
use Rattle.arc_core.specs.Outside.{Outgoing, then_sent, sent_more}

-- one piece after another
pub sent_on : (sent : Option (List ℕ)) (a b : List ℕ) → then_sent (then_sent sent a) b ≡ then_sent sent (a ++ b)
sent_on None a b = refl
sent_on (Some s) a b = ap Some (append_assoc s a b)

pub sent_nothing : (sent : Option (List ℕ)) → then_sent sent [] ≡ sent
sent_nothing None = refl
sent_nothing (Some s) = ap Some (append-nil s)

-- one piece after another, with all else as it was
pub sent_more_on : (out : Outgoing) (a b : List ℕ) → sent_more (sent_more out a) b ≡ sent_more out (a ++ b)
sent_more_on out a b = ap (λ s. record out { sent = s }) (sent_on out.sent a b)

pub sent_no_more : (out : Outgoing) → sent_more out [] ≡ out
sent_no_more out = ap (λ s. record out { sent = s }) (sent_nothing out.sent)

pub none_of_length : (xs : List ℕ) → length xs ≡ 0 → xs ≡ []
none_of_length [] e = refl
none_of_length (x ∷ xs) e = absurd (omega arith)

-- what `is_empty` says of a list
pub is_empty_list : (xs : List ℕ) → true ≡ (length xs == 0) → xs ≡ []
is_empty_list xs e = none_of_length xs (grind (arith, nat_tests))

-- `&xs[n..]` as the goals read it
pub take_rest : (xs : List ℕ) (n : ℕ) → take (length xs - n) (drop n xs) ≡ drop n xs
take_rest xs n = ap (λ k. take k (drop n xs)) (sym (length-drop n xs)) ∙ take-length (drop n xs)
