-- The first word of a text as a number: it ends where its digits do.
use Rattle.std.proofs.Common.{◌≡◌, ℕ, ◌+◌, ◌<◌, ◌≤◌, true, not, List, [], ◌∷◌, length, take, drop, min, refl, sym, ◌∙◌, arith, Option, Some, None, option_map}
use Rattle.std.specs.List.{position, position_or_len, prefix_len, list_all}
use Rattle.std.specs.Char.{is_ascii_digit}
use Rattle.std.proofs.lemmas.Bool.{and_parts, and_right, and_from, lt-ltb, le-leb, le-ltb}
use Rattle.std.proofs.lemmas.Bool.Decides.{nat_tests}
use Rattle.std.proofs.lemmas.List.{length-take-le}
use Rattle.arc_core.specs.Rows.{one, part_read}
use Rattle.arc_core.specs.Words.{words, is_space, is_numeral, number_of, number_below}
use Rattle.arc_core.proofs.FrontLemmas.{prefix_len-behind, prefix_len-take}
use Rattle.arc_core.proofs.WordLemmas.{words-none, first_word_at}

-- digits are no spaces

digit_is_no_space : (x : ℕ) → is_ascii_digit x ≡ true → not (is_space x) ≡ true
digit_is_no_space x h = grind (arith, nat_tests, h)

digits_have_no_space : (xs : List ℕ) → list_all is_ascii_digit xs ≡ true → prefix_len (λ b. not (is_space b)) xs ≡ length xs
digits_have_no_space [] h = refl
digits_have_no_space (x ∷ xs) h =
    let p = and_parts (is_ascii_digit x) (list_all is_ascii_digit xs) h in
    let more = digits_have_no_space xs p.1 in
    rw (digit_is_no_space x p.0, more) (omega arith)

-- What the code knows: the text behind spaces, the number of digits that were read in front of it, and what stands behind them.
pub record Front (xs left behind : List ℕ) (len i : ℕ) : Type 0 where
  pub at : position (λ b. not (is_space b)) xs ≡ Some i
  pub left_is : left ≡ drop i xs
  pub within : len ≤ length left
  pub few : len ≤ 18
  pub digits : list_all is_ascii_digit (take len left) ≡ true
  pub behind_is : behind ≡ drop len left

-- The digits are the first word.
record IsFirst (xs left behind : List ℕ) (len : ℕ) : Type 0 where
  pub some : 0 < len
  pub words_are : words xs ≡ take len left ∷ words behind

first_is : (xs left behind : List ℕ) (len i : ℕ) → Front xs left behind len i → position_or_len is_space behind ≡ 0 → IsFirst xs left behind len
first_is xs left behind len i f ends =
    let word = rw (sym f.left_is) at (first_word_at xs i f.at) in
    let n = position_or_len is_space left in
    let long : length (take len left) ≡ len = length-take-le len left f.within in
    let all : min n len ≡ len = sym (prefix_len-take (λ b. not (is_space b)) left len) ∙ digits_have_no_space (take len left) f.digits ∙ long in
    let cut : n ≡ len + position_or_len is_space (drop len left) = prefix_len-behind (λ b. not (is_space b)) left len (omega (arith, all)) in
    let same : n ≡ len = omega (arith, cut, rw f.behind_is at ends) in
    record {
      some = omega (arith, same, word.some);
      words_are = rw f.behind_is (rw same at word.words_are);
    }

-- the test of a numeral of some digits, 18 at most
numeral : (word : List ℕ) → 0 < length word → length word ≤ 18 → list_all is_ascii_digit word ≡ true → is_numeral word ≡ true
numeral word some few digits =
    and_from _ _ (and_from _ _ (lt-ltb 0 (length word) some) (le-leb (length word) 20 (omega (arith, few)))) digits

within : (bound value : ℕ) (word : List ℕ) → is_numeral word ≡ true → value ≡ number_of word → value < bound → number_below bound word ≡ Some value
unfolding number_below
within bound value word is same fits = rw (and_from _ _ is (lt-ltb (number_of word) bound (rw same at fits)), same) refl

too_great : (bound value : ℕ) (word : List ℕ) → value ≡ number_of word → bound ≤ value → number_below bound word ≡ None
unfolding number_below
too_great bound value word same fits = rw (and_right (is_numeral word) _ (le-ltb (number_of word) bound (rw same at fits))) refl

read_one : (bound : ℕ) (list : List (List ℕ)) (word : List ℕ) (more : List (List ℕ)) (o : Option ℕ) → list ≡ word ∷ more → number_below bound word ≡ o
    → option_map (λ n. (n, more)) o ≡ part_read (one (number_below bound)) list
read_one bound list word more o at is = rw (at, is) refl

-- what is read

pub number_read-none : (xs : List ℕ) (bound : ℕ) → position (λ b. not (is_space b)) xs ≡ None → None ≡ part_read (one (number_below bound)) (words xs)
number_read-none xs bound h = rw (words-none xs h) refl

pub number_read : (xs left behind : List ℕ) (len i value bound : ℕ) → Front xs left behind len i → position_or_len is_space behind ≡ 0
    → value ≡ number_of (take len left) → value < bound → Some (value, words behind) ≡ part_read (one (number_below bound)) (words xs)
number_read xs left behind len i value bound f ends is fits =
    let first = first_is xs left behind len i f ends in
    let long : length (take len left) ≡ len = length-take-le len left f.within in
    read_one bound (words xs) (take len left) (words behind) (Some value) first.words_are
    (within bound value (take len left) (numeral (take len left) (omega (arith, long, first.some)) (omega (arith, long, f.few)) f.digits) is fits)

pub number_not_read : (xs left behind : List ℕ) (len i value bound : ℕ) → Front xs left behind len i → position_or_len is_space behind ≡ 0
    → value ≡ number_of (take len left) → bound ≤ value → None ≡ part_read (one (number_below bound)) (words xs)
number_not_read xs left behind len i value bound f ends is fits =
    let first = first_is xs left behind len i f ends in
    read_one bound (words xs) (take len left) (words behind) None first.words_are (too_great bound value (take len left) is fits)
