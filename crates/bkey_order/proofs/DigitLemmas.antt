-- Hexadecimal digits: which of them spell bytes, and what is wrong with the others.
use Rattle.std.proofs.Common.{◌≡◌, ℕ, ◌%◌, ◌<◌, ◌≤◌, Bool, true, false, not, cond, eqb, ltb, leb, List, length, get_or, refl, sym, inl, inr, ◌∙◌, arith, Option, Some, None, Result, Ok, Err}
use Rattle.std.specs.Option.{ok_or}
use Rattle.std.specs.Result.{result_ok, result_err}
use Rattle.std.specs.Char.{is_ascii_hexdigit}
use Rattle.std.specs.List.{position, position_or_len, list_all, AllPass}
use Rattle.std.proofs.lemmas.Grind.{common_steps}
use Rattle.std.proofs.lemmas.Bool.{false≢true, ne_eqb, cases_lt, lt-ltb, lt-leb, le-ltb, le-leb}
use Rattle.std.proofs.lemmas.Bool.Decides.{nat_tests}
use Rattle.std.proofs.lemmas.List.Sums.{list_all-from_AllPass, fails_before_first, passes_at_first}
use Rattle.std.proofs.lemmas.List.Folds.{list_all_at}
use Rattle.hex.specs.declared.error.FromHexError.{FromHexError}
use Rattle.hex.specs.Hex.{is_hex_digit, decode_of}
use Rattle.hex.proofs.HexLemmas.{decode_of-ok, decode_of-digits}
use Rattle.arc_core.specs.HexText.{short_bytes}
use Rattle.bkey_order.specs.declared.faults.BkeyFault.TheVariants.{TooLong}
use Rattle.bkey_order.specs.BkeyFaults.{hex_fault}

first_place : (p : ℕ → Bool) (xs : List ℕ) (i : ℕ) → position p xs ≡ Some i → (position_or_len p xs ≡ i) × (i < length xs)
first_place p xs i h = grind (arith, common_steps)

no_place : (p : ℕ → Bool) (xs : List ℕ) → position p xs ≡ None → length xs ≤ position_or_len p xs
no_place p xs h = grind (arith, common_steps)

true_from_not : (b : Bool) → not b ≡ false → b ≡ true
true_from_not true h = refl
true_from_not false h = sym h

false_from_not : (b : Bool) → not b ≡ true → b ≡ false
false_from_not true h = sym h
false_from_not false h = refl

-- where no byte fails a test, each passes it
pub all_pass : (p : ℕ → Bool) (xs : List ℕ) → position (λ b. not (p b)) xs ≡ None → AllPass p xs
all_pass p xs h k d l = true_from_not (p (get_or xs k d)) (fails_before_first (λ b. not (p b)) xs k d (let all = no_place (λ b. not (p b)) xs h in omega (arith, all, l)))

-- where a byte fails a test, not each passes it
pub some_fails : (p : ℕ → Bool) (xs : List ℕ) (i : ℕ) → position (λ b. not (p b)) xs ≡ Some i → list_all p xs ≡ false
some_fails p xs i h =
    let place = first_place (λ b. not (p b)) xs i h in
    let within : position_or_len (λ b. not (p b)) xs < length xs = omega (arith, place.0, place.1) in
    list_all_at p xs (position_or_len (λ b. not (p b)) xs) 0 within (false_from_not _ (passes_at_first (λ b. not (p b)) xs 0 within))

none_by : (p : ℕ → Bool) (xs : List ℕ) (o : Option ℕ) → list_all p xs ≡ true → position (λ b. not (p b)) xs ≡ o → o ≡ None
none_by p xs None all is = refl
none_by p xs (Some i) all is = absurd (false≢true (sym (some_fails p xs i is) ∙ all))

-- where each passes it, none fails
pub none_fails : (p : ℕ → Bool) (xs : List ℕ) → list_all p xs ≡ true → position (λ b. not (p b)) xs ≡ None
none_fails p xs all = none_by p xs (position (λ b. not (p b)) xs) all refl

-- the two tests for a hexadecimal digit agree
same_digit : (b : ℕ) → is_ascii_hexdigit b ≡ is_hex_digit b
same_digit b = grind (arith, nat_tests)

cond_none : {A : Type 0} (b : Bool) (o : Option A) → o ≡ None → cond b o None ≡ None
cond_none true o h = h
cond_none false o h = refl

no_ok : (r : Result (List ℕ) FromHexError) → ((bytes : List ℕ) → r ≡ Ok bytes → ⊥) → result_ok r ≡ None
no_ok (Ok bytes) h = absurd (h bytes refl)
no_ok (Err e) h = refl

not_decoded : (digits : List ℕ) → ((bytes : List ℕ) → decode_of digits ≡ Ok bytes → ⊥) → short_bytes digits ≡ None
unfolding short_bytes
not_decoded digits h = cond_none _ (result_ok (decode_of digits)) (no_ok (decode_of digits) h)

pub short_bytes-empty : (digits : List ℕ) → length digits ≡ 0 → short_bytes digits ≡ None
unfolding short_bytes
short_bytes-empty digits h = rw h

pub short_bytes-bad : (digits : List ℕ) (i : ℕ) → position (λ b. not (is_ascii_hexdigit b)) digits ≡ Some i → short_bytes digits ≡ None
short_bytes-bad digits i h =
    not_decoded digits (λ bytes ok.
    let all : AllPass is_ascii_hexdigit digits = λ k d l. same_digit (get_or digits k d) ∙ (decode_of-ok digits bytes ok).1 k d l in
    false≢true (sym (some_fails is_ascii_hexdigit digits i h) ∙ list_all-from_AllPass is_ascii_hexdigit digits all))

pub short_bytes-odd : (digits : List ℕ) → length digits % 2 ≡ 1 → short_bytes digits ≡ None
short_bytes-odd digits h = not_decoded digits (λ bytes ok. let even = (decode_of-ok digits bytes ok).0 in omega (arith, even, h))

-- the bytes of an even number of digits above 0, of which none is bad
short_bytes-even : (digits bytes : List ℕ) → 0 < length digits → decode_of digits ≡ Ok bytes → short_bytes digits ≡ cond (leb (length digits) 62) (Some bytes) None
unfolding short_bytes
short_bytes-even digits bytes some ok = rw (lt-ltb 0 (length digits) some, ok)

-- what is wrong with such digits
hex_fault-even : (digits : List ℕ) → 0 < length digits → position (λ b. not (is_ascii_hexdigit b)) digits ≡ None → (length digits % 2 ≡ 1 → ⊥)
    → hex_fault digits ≡ cond (ltb 62 (length digits)) (Some TooLong) None
hex_fault-even digits some good even =
    let there : eqb (length digits) 0 ≡ false = ne_eqb _ _ (λ e. omega (arith, e)) in
    rw (there, good, ne_eqb (length digits % 2) 1 even)

-- such digits have too many bytes, or nothing is wrong
pub even_digits : (digits : List ℕ) → (length digits ≡ 0 → ⊥) → position (λ b. not (is_ascii_hexdigit b)) digits ≡ None → (length digits % 2 ≡ 1 → ⊥)
    → result_err (ok_or (short_bytes digits) TooLong) ≡ hex_fault digits
even_digits digits some good even =
    let there : 0 < length digits = omega arith in
    let pairs : length digits % 2 ≡ 0 = omega arith in
    let ok = decode_of-digits digits pairs (λ k d l. sym (same_digit (get_or digits k d)) ∙ all_pass is_ascii_hexdigit digits good k d l) in
    let bytes = short_bytes-even digits ok.0 there ok.1 in
    let fault = hex_fault-even digits there good even in
    elim (cases_lt 62 (length digits)) [
      | inl over ↦ rw (bytes, fault, lt-ltb 62 (length digits) over, lt-leb (length digits) 62 over)
      | inr fits ↦ rw (bytes, fault, le-ltb 62 (length digits) fits, le-leb (length digits) 62 fits)
    ]
