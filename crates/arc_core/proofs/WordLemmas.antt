-- Where the first word of a text begins and ends.
use Rattle.std.proofs.Common.{◌≡◌, ℕ, suc, ◌+◌, ◌<◌, ◌≤◌, Bool, true, false, not, cond, ltb, List, [], ◌∷◌, length, get_or, take, drop, refl, sym, ap, ◌∙◌, ◌⊎◌, inl, inr, arith, Some, None, unwrap_or, length-drop, ⊎_elim, drop-cons}
use Rattle.std.specs.List.{position, position_or_len, prefix_len, slice_split, All, filter}
use Rattle.std.proofs.lemmas.Grind.{common_steps}
use Rattle.std.proofs.lemmas.Bool.{eqb-true, cases_lt, lt-ltb}
use Rattle.std.proofs.lemmas.List.{drop_all, take_all}
use Rattle.std.proofs.lemmas.List.Sums.{fails_before_first, passes_at_first, prefix_len-le-length}
use Rattle.std.proofs.lemmas.List.Folds.{length-prefix_len}
use Rattle.std.proofs.lemmas.List.Splits.{slice_split_first, slice_split_none}
use Rattle.arc_core.specs.Words.{words, is_space, is_other}

-- the step of a count of bytes in front
drop_step : (b : Bool) (n : ℕ) (x : ℕ) (xs : List ℕ) → drop (cond b (1 + n) 0) (x ∷ xs) ≡ cond b (drop n xs) (x ∷ xs)
drop_step true n x xs = let e : 1 + n ≡ suc n = omega arith in rw e
drop_step false n x xs = refl

-- one step of the next lemma, by whether the byte is a space
behind_step : (x : ℕ) (xs ys : List ℕ) (b : Bool) → is_space x ≡ b → words xs ≡ words ys → words (x ∷ xs) ≡ words (cond (not (not b)) ys (x ∷ xs))
behind_step x xs ys true e h = rw e h
behind_step x xs ys false e h = refl

-- spaces in front change no words
words-behind_spaces : (xs : List ℕ) → words xs ≡ words (drop (position_or_len is_other xs) xs)
words-behind_spaces [] = refl
words-behind_spaces (x ∷ xs) =
    rw (drop_step (not (is_other x)) (prefix_len (λ y. not (is_other y)) xs) x xs)
    (behind_step x xs (drop (position_or_len is_other xs) xs) (is_space x) refl (words-behind_spaces xs))

-- The text begins with a word, or is empty.
abbrev Begins : List ℕ → Type 0
Begins xs = (xs ≡ []) ⊎ (0 < position_or_len is_space xs)

-- one step of the next lemma
begins_step : (x : ℕ) (xs ys : List ℕ) (b : Bool) → is_space x ≡ b → Begins ys → Begins (cond (not (not b)) ys (x ∷ xs))
begins_step x xs ys true e h = h
begins_step x xs ys false e h = inr (rw e (omega arith))

-- behind the spaces a word begins, or nothing is left
word_begins : (xs : List ℕ) → Begins (drop (position_or_len is_other xs) xs)
word_begins [] = inl refl
word_begins (x ∷ xs) =
    rw (drop_step (not (is_other x)) (prefix_len (λ y. not (is_other y)) xs) x xs)
    (begins_step x xs (drop (position_or_len is_other xs) xs) (is_space x) refl (word_begins xs))

-- a part that is not empty is kept
filter_first : (word : List ℕ) (parts : List (List ℕ)) → 0 < length word
    → filter (λ w. ltb 0 (length w)) (word ∷ parts) ≡ word ∷ filter (λ w. ltb 0 (length w)) parts
filter_first word parts h = rw (lt-ltb 0 (length word) h)

-- the first word of a text that begins with one, where a space follows it
words-first_of_more : (xs : List ℕ) → 0 < position_or_len is_space xs → position_or_len is_space xs < length xs
    → words xs ≡ take (position_or_len is_space xs) xs ∷ words (drop (position_or_len is_space xs) xs)
words-first_of_more xs h w =
    let p = position_or_len is_space xs in
    let long : 0 < length (take p xs) = rw (length-prefix_len (λ b. not (is_space b)) xs) h in
    let first = ap (filter (λ word. ltb 0 (length word))) (slice_split_first is_space xs 0 w) ∙ filter_first (take p xs) (slice_split is_space (drop (p + 1) xs)) long in
    let space : get_or xs p 0 ≡ 32 = eqb-true (get_or xs p 0) 32 (passes_at_first is_space xs 0 w) in
    let next : suc p ≡ p + 1 = omega arith in
    let behind : words (drop p xs) ≡ words (drop (p + 1) xs) =
    ap words (drop-cons xs p 0 w ∙ ap (λ b. b ∷ drop (suc p) xs) space) ∙ ap (λ k. words (drop k xs)) next in
    first ∙ ap (λ more. take p xs ∷ more) (sym behind)

-- the word of a text without a space
words-only : (xs : List ℕ) → 0 < position_or_len is_space xs → length xs ≤ position_or_len is_space xs
    → words xs ≡ take (position_or_len is_space xs) xs ∷ words (drop (position_or_len is_space xs) xs)
words-only xs h w =
    let p = position_or_len is_space xs in
    let none : All (λ b. is_space b ≡ false) xs = λ k d l. fails_before_first is_space xs k d (omega (arith, w, l)) in
    let long : 0 < length xs = omega (arith, h, prefix_len-le-length (λ b. not (is_space b)) xs) in
    ap (filter (λ word. ltb 0 (length word))) (slice_split_none is_space xs none) ∙ filter_first xs [] long
    ∙ ap (λ word. word ∷ []) (sym (take_all p xs w)) ∙ ap (λ rest. take p xs ∷ words rest) (sym (drop_all p xs w))

-- the first word of a text that begins with one
words-first : (xs : List ℕ) (n : ℕ) → n ≡ position_or_len is_space xs → 0 < position_or_len is_space xs → words xs ≡ take n xs ∷ words (drop n xs)
words-first xs n e h = rw e (⊎_elim (words-first_of_more xs h) (words-only xs h) (cases_lt (position_or_len is_space xs) (length xs)))

-- the place of the first byte that passes, as a count of those in front
pub position-or : (p : ℕ → Bool) (xs : List ℕ) → unwrap_or (position p xs) (length xs) ≡ position_or_len p xs
position-or p xs = grind (arith, common_steps, prefix_len-le-length (λ b. not (p b)) xs)

position-Some_at : (p : ℕ → Bool) (xs : List ℕ) (i : ℕ) → position p xs ≡ Some i → (position_or_len p xs ≡ i) × (i < length xs)
position-Some_at p xs i h = grind (arith, common_steps)

position-None_at : (p : ℕ → Bool) (xs : List ℕ) → position p xs ≡ None → length xs ≤ position_or_len p xs
position-None_at p xs h = grind (arith, common_steps)

-- a text with no byte other than the space has no word
pub words-none : (xs : List ℕ) → position is_other xs ≡ None → words xs ≡ []
words-none xs h = words-behind_spaces xs ∙ ap words (drop_all _ xs (position-None_at is_other xs h))

words-some_at : (xs : List ℕ) (i n : ℕ) → position_or_len is_other xs ≡ i → i < length xs → n ≡ position_or_len is_space (drop i xs)
    → (words xs ≡ take n (drop i xs) ∷ words (drop n (drop i xs))) × (length (drop n (drop i xs)) < length xs)
words-some_at xs i n at w e =
    let left = drop i xs in
    let long : 0 < length left = rw (length-drop i xs) (omega (arith, w)) in
    let begins : Begins left = rw at at (word_begins xs) in
    let word : 0 < position_or_len is_space left = ⊎_elim (λ none. absurd (omega (arith, long, ap length none))) (λ h. h) begins in
    let same : words xs ≡ words left = words-behind_spaces xs ∙ ap (λ k. words (drop k xs)) at in
    (same ∙ words-first left n e word, rw (length-drop n left, length-drop i xs) (omega (arith, e, word, w)))

-- the first word of a text, and the text behind it
pub words-some : (xs : List ℕ) (i n : ℕ) → position is_other xs ≡ Some i → n ≡ unwrap_or (position is_space (drop i xs)) (length (drop i xs))
    → (words xs ≡ take n (drop i xs) ∷ words (drop n (drop i xs))) × (length (drop n (drop i xs)) < length xs)
words-some xs i n h e =
    let p = position-Some_at is_other xs i h in
    words-some_at xs i n p.0 p.1 (e ∙ position-or is_space (drop i xs))

-- what is known of a first word behind spaces
pub record FirstWord (xs left : List ℕ) (n : ℕ) : Type 0 where
  pub some : 0 < n
  pub within : n ≤ length left
  pub words_are : words xs ≡ take n left ∷ words (drop n left)

-- the first word of a text begins at its first byte other than the space, and ends before the next space
pub first_word_at : (xs : List ℕ) (i : ℕ) → position is_other xs ≡ Some i → FirstWord xs (drop i xs) (position_or_len is_space (drop i xs))
first_word_at xs i h =
    let p = position-Some_at is_other xs i h in
    let left = drop i xs in
    let long : 0 < length left = rw (length-drop i xs) (omega (arith, p.1)) in
    let begins : Begins left = rw p.0 at (word_begins xs) in
    let word : 0 < position_or_len is_space left = ⊎_elim (λ none. absurd (omega (arith, long, ap length none))) (λ h. h) begins in
    let same : words xs ≡ words left = words-behind_spaces xs ∙ ap (λ k. words (drop k xs)) p.0 in
    record {
      some = word;
      within = prefix_len-le-length (λ b. not (is_space b)) left;
      words_are = same ∙ words-first left (position_or_len is_space left) refl word;
    }
