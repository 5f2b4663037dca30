-- The first word of a text as a key: it ends where its first byte is that no key has.
use Rattle.std.proofs.Common.{◌≡◌, ℕ, ◌+◌, ◌<◌, ◌≤◌, Bool, true, false, not, List, ◌∷◌, length, take, drop, refl, sym, ◌∙◌, arith, Option, Some, None, is_none}
use Rattle.std.specs.List.{position, position_or_len}
use Rattle.std.proofs.lemmas.Grind.{common_steps}
use Rattle.std.proofs.lemmas.Bool.Decides.{nat_tests}
use Rattle.std.proofs.lemmas.List.{length-take-le}
use Rattle.std.proofs.lemmas.List.Sums.{prefix_len-le-length}
use Rattle.arc_core.specs.Key.{is_key_byte, key_fault, IsKey}
use Rattle.arc_core.specs.Rows.{one, part_read}
use Rattle.arc_core.specs.Words.{words, is_space, key_word}
use Rattle.arc_core.proofs.FrontLemmas.{prefix_len-weaker, prefix_len-behind, prefix_len-take}
use Rattle.arc_core.proofs.WordLemmas.{words-none, first_word_at}

abbrev is_bad : ℕ → Bool
is_bad b = not (is_key_byte b)

key_byte_is_no_space : (b : ℕ) → not (is_bad b) ≡ true → not (is_space b) ≡ true
key_byte_is_no_space b h = grind (arith, nat_tests, h)

-- a key's bytes in front of a text are those of its first word, and all of it where the word ends there
fronts : (left : List ℕ) (len : ℕ) → len ≡ position_or_len is_bad left
    → (len ≤ position_or_len is_space left) × (position_or_len is_space left ≡ len + position_or_len is_space (drop len left))
fronts left len e =
    let within : len ≤ position_or_len is_space left = rw e (prefix_len-weaker (λ b. not (is_bad b)) (λ b. not (is_space b)) key_byte_is_no_space left) in
    (within, prefix_len-behind (λ b. not (is_space b)) left len within)

-- bytes of a key, not too many, are a key
is_key : (word : List ℕ) → 0 < length word → length word ≤ 16000 → position_or_len is_bad word ≡ length word → key_fault word ≡ None
is_key word some most all = grind (arith, common_steps, nat_tests, some, most, all)

is_too_long : (word : List ℕ) → 16000 < length word → is_none (key_fault word) ≡ false
is_too_long word h = grind (arith, common_steps, nat_tests, h)

has_bad_byte : (word : List ℕ) → position_or_len is_bad word < length word → is_none (key_fault word) ≡ false
has_bad_byte word h = grind (arith, common_steps, nat_tests, h)

not_read : (list : List (List ℕ)) (word : List ℕ) (more : List (List ℕ)) → list ≡ word ∷ more → is_none (key_fault word) ≡ false → part_read (one key_word) list ≡ None
unfolding key_word
not_read list word more at h = rw (at, h) refl

-- what is read where the word ends behind its key bytes
pub key_read : (xs : List ℕ) (i len : ℕ) → position (λ b. not (is_space b)) xs ≡ Some i → len ≡ position_or_len is_bad (drop i xs)
    → len ≤ 16000 → position_or_len is_space (drop len (drop i xs)) ≡ 0
    → IsKey (take len (drop i xs)) × (part_read (one key_word) (words xs) ≡ Some (take len (drop i xs), words (drop len (drop i xs))))
unfolding key_word
key_read xs i len at is most ends =
    let left = drop i xs in
    let first = first_word_at xs i at in
    let f = fronts left len is in
    let same : position_or_len is_space left ≡ len = omega (arith, f.1, ends) in
    let within : len ≤ length left = omega (arith, same, first.within) in
    let long : length (take len left) ≡ len = length-take-le len left within in
    let all : position_or_len is_bad (take len left) ≡ length (take len left) = rw (prefix_len-take (λ b. not (is_bad b)) left len) (omega (arith, is, long)) in
    let key = is_key (take len left) (omega (arith, long, same, first.some)) (omega (arith, long, most)) all in
    (key, rw (first.words_are, same, key) refl)

-- nothing is read where there is no word
pub key_read-none : (xs : List ℕ) → position (λ b. not (is_space b)) xs ≡ None → None ≡ part_read (one key_word) (words xs)
key_read-none xs h = rw (words-none xs h) refl

-- or where the key bytes are too many
pub key_read-too_long : (xs : List ℕ) (i len : ℕ) → position (λ b. not (is_space b)) xs ≡ Some i → len ≡ position_or_len is_bad (drop i xs)
    → 16000 < len → part_read (one key_word) (words xs) ≡ None
key_read-too_long xs i len at is most =
    let left = drop i xs in
    let first = first_word_at xs i at in
    let f = fronts left len is in
    let long : length (take (position_or_len is_space left) left) ≡ position_or_len is_space left = length-take-le _ left first.within in
    not_read (words xs) _ _ first.words_are (is_too_long (take (position_or_len is_space left) left) (omega (arith, long, f.0, most)))

-- or the word goes on behind them
pub key_read-bad : (xs : List ℕ) (i len : ℕ) → position (λ b. not (is_space b)) xs ≡ Some i → len ≡ position_or_len is_bad (drop i xs)
    → 0 < position_or_len is_space (drop len (drop i xs)) → part_read (one key_word) (words xs) ≡ None
key_read-bad xs i len at is more =
    let left = drop i xs in
    let first = first_word_at xs i at in
    let f = fronts left len is in
    let n = position_or_len is_space left in
    let long : length (take n left) ≡ n = length-take-le n left first.within in
    let bad : position_or_len is_bad (take n left) < length (take n left) = rw (prefix_len-take (λ b. not (is_bad b)) left n) (omega (arith, long, is, f.1, more)) in
    not_read (words xs) _ _ first.words_are (has_bad_byte (take n left) bad)

-- the same of the parts into which the code splits the text

-- What the code knows: the text behind spaces, the number of its key bytes in front, these bytes, and what stands behind them.
pub record Split (xs left front behind : List ℕ) (len : ℕ) : Type 0 where
  pub i : ℕ
  pub at : position (λ b. not (is_space b)) xs ≡ Some i
  pub left_is : left ≡ drop i xs
  pub len_is : len ≡ position_or_len is_bad left
  pub front_is : front ≡ take len left
  pub behind_is : behind ≡ drop len left

pub split_from : {xs left front behind : List ℕ} {len i : ℕ} {place : Option ℕ} → place ≡ position (λ b. not (is_space b)) xs → place ≡ Some i
    → left ≡ drop i xs → len ≡ position_or_len is_bad left → front ≡ take len left → behind ≡ drop len left → Split xs left front behind len
split_from {i = i} first at left_is len_is front_is behind_is =
    record { i = i; at = sym first ∙ at; left_is = left_is; len_is = len_is; front_is = front_is; behind_is = behind_is }

pub len_fits : (left : List ℕ) (len : ℕ) → len ≡ position_or_len is_bad left → len ≤ length left
len_fits left len h = rw h (prefix_len-le-length (λ b. not (is_bad b)) left)

pub split_read : (xs left front behind : List ℕ) (len : ℕ) → Split xs left front behind len → len ≤ 16000 → position_or_len is_space behind ≡ 0
    → IsKey front × (Some (front, words behind) ≡ part_read (one key_word) (words xs))
split_read xs left front behind len s most ends =
    let read = key_read xs s.i len s.at (rw s.left_is at s.len_is) most (rw (s.behind_is, s.left_is) at ends) in
    (rw (s.front_is, s.left_is) read.0, rw (s.front_is, s.behind_is, s.left_is) (sym read.1))

pub split_too_long : (xs left front behind : List ℕ) (len : ℕ) → Split xs left front behind len → 16000 < len → None ≡ part_read (one key_word) (words xs)
split_too_long xs left front behind len s most = sym (key_read-too_long xs s.i len s.at (rw s.left_is at s.len_is) most)

pub split_bad : (xs left front behind : List ℕ) (len : ℕ) → Split xs left front behind len → 0 < position_or_len is_space behind → None ≡ part_read (one key_word) (words xs)
split_bad xs left front behind len s more = sym (key_read-bad xs s.i len s.at (rw s.left_is at s.len_is) (rw (s.behind_is, s.left_is) at more))
