-- Decimal digits: which of them spell a number, and what is wrong with the others.
use Rattle.std.proofs.Common.{◌≡◌, ℕ, ◌^◌, ◌<◌, ◌≤◌, Bool, true, false, ◌&&◌, not, cond, ltb, leb, List, length, refl, sym, ◌∙◌, arith, Some, None}
use Rattle.std.specs.Char.{is_ascii_digit}
use Rattle.std.specs.List.{position, list_all}
use Rattle.std.proofs.lemmas.Bool.{and_parts, lt-ltb, le-leb, ltb-true, ltb-false, leb-true}
use Rattle.std.proofs.lemmas.Bool.Decides.{nat_tests}
use Rattle.std.proofs.lemmas.Option.{cond_some}
use Rattle.std.proofs.lemmas.List.Sums.{list_all-from_AllPass}
use Rattle.arc_core.specs.Words.{is_numeral, number_below, number_of}
use Rattle.bkey_order.specs.declared.faults.BkeyFault.TheVariants.{TooBig}
use Rattle.bkey_order.specs.BkeyFaults.{number_fault}
use Rattle.bkey_order.proofs.DigitLemmas.{all_pass, none_fails}

pub all_digits : (word : List ℕ) → position (λ b. not (is_ascii_digit b)) word ≡ None → list_all is_ascii_digit word ≡ true
all_digits word h = list_all-from_AllPass is_ascii_digit word (all_pass is_ascii_digit word h)

-- 1 to 20 digits are a number where it is below the bound
pub number_below-digits : (bound : ℕ) (word : List ℕ) → 0 < length word → length word ≤ 20 → list_all is_ascii_digit word ≡ true
    → number_below bound word ≡ cond (ltb (number_of word) bound) (Some (number_of word)) None
unfolding number_below
number_below-digits bound word some most digits = rw (lt-ltb 0 (length word) some, le-leb (length word) 20 most, digits)

-- what is known of a word that is a number
record Numeral (bound n : ℕ) (word : List ℕ) : Type 0 where
  pub some : 0 < length word
  pub most : length word ≤ 20
  pub digits : list_all is_ascii_digit word ≡ true
  pub below : number_of word < bound

numeral : (bound n : ℕ) (word : List ℕ) → number_below bound word ≡ Some n → Numeral bound n word
unfolding number_below
numeral bound n word h =
    let p = cond_some (is_numeral word && ltb (number_of word) bound) (number_of word) n h in
    let q = and_parts (is_numeral word) (ltb (number_of word) bound) p.0 in
    let r = and_parts (ltb 0 (length word) && leb (length word) 20) (list_all is_ascii_digit word) q.0 in
    let s = and_parts (ltb 0 (length word)) (leb (length word) 20) r.0 in
    record { some = ltb-true _ _ s.0; most = leb-true _ _ s.1; digits = r.1; below = ltb-true _ _ q.1 }

-- nothing is wrong with a number
pub no_fault : (n : ℕ) (word : List ℕ) → number_below (2 ^ 64) word ≡ Some n → None ≡ number_fault word
no_fault n word h =
    let known = numeral (2 ^ 64) n word h in
    let no_bad = none_fails is_ascii_digit word known.digits in
    rw no_bad (grind (arith, nat_tests, known.some, known.most, known.below))

none_below : (b : Bool) (n : ℕ) → cond b (Some n) None ≡ None → b ≡ false
none_below true n h = cc
none_below false n h = refl

-- digits, not too many, that are no number are too big a number
pub too_big : (word : List ℕ) → (length word ≡ 0 → ⊥) → (20 < length word → ⊥) → position (λ b. not (is_ascii_digit b)) word ≡ None
    → number_below (2 ^ 64) word ≡ None → Some TooBig ≡ number_fault word
too_big word some few no_bad none =
    let most : length word ≤ 20 = omega (arith, few) in
    let long : 0 < length word = omega (arith, some) in
    let test = none_below (ltb (number_of word) (2 ^ 64)) (number_of word) (sym (number_below-digits (2 ^ 64) word long most (all_digits word no_bad)) ∙ none) in
    let large : 2 ^ 64 ≤ number_of word = ltb-false _ _ test in
    rw no_bad (grind (arith, nat_tests, long, most, large))
