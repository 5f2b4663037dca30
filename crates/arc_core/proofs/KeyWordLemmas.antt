-- Words that are keys, and how many they are.
use Rattle.std.proofs.Common.{◌≡◌, ℕ, ◌+◌, ◌<◌, ◌≤◌, Bool, true, false, ◌&&◌, List, [], ◌∷◌, length, refl, sym, ◌∙◌, ap, arith, Option, Some, None, option_map, leb, ltb, eqb, cond, ⊎_elim, Bor}
use Rattle.std.specs.Iterator.{YieldsFirstRef}
use Rattle.std.specs.Bool.{then_some, ◌==◌}
use Rattle.std.specs.Option.{is_none}
use Rattle.std.proofs.lemmas.Bool.{eq-eqb, ne_eqb, leb-true, leb-false, and_parts, and_cases, and_left, and_right, and_from, le-leb, lt-leb, lt-ltb, le-ltb}
use Rattle.std.proofs.lemmas.List.Elements.{All-nil, All-cons, All-tail}
use Rattle.std.proofs.lemmas.Option.{cond_some}
use Rattle.arc_core.specs.Key.{key_fault, IsKey}
use Rattle.arc_core.specs.Rows.{one, part_read}
use Rattle.arc_core.specs.Words.{AreKeys, are_keys, words_left, key_word, key_count, at_most_keys, keys_counted, keys_up_to}

-- what a choice between a value and none says of its test
cond-none : {A : Type 0} (b : Bool) (x : A) → cond b (Some x) None ≡ None → b ≡ false
cond-none true x h = cc
cond-none false x h = refl

cond-at_false : {A : Type 0} (b : Bool) (x : A) → b ≡ false → cond b (Some x) None ≡ None
cond-at_false b x h = rw h

cond-at_true : {A : Type 0} (b : Bool) (x : A) → b ≡ true → cond b (Some x) None ≡ Some x
cond-at_true b x h = rw h

-- a test that there is no value
none-from_true : {A : Type 0} (o : Option A) → is_none o ≡ true → o ≡ None
none-from_true None h = refl
none-from_true (Some x) h = cc

-- words that are counted

pub key_count-above : (most : ℕ) (list : List (List ℕ)) → most < length list → key_count most list ≡ None
unfolding key_count
key_count-above most list h = cond-at_false _ _ (and_left _ (are_keys list) (lt-leb (length list) most h))

pub key_count-bad : (most : ℕ) (list : List (List ℕ)) → are_keys list ≡ false → key_count most list ≡ None
unfolding key_count
key_count-bad most list h = cond-at_false _ _ (and_right (leb (length list) most) _ h)

pub key_count-all : (most : ℕ) (list : List (List ℕ)) → length list ≤ most → are_keys list ≡ true → key_count most list ≡ Some (length list)
unfolding key_count
key_count-all most list h k = cond-at_true _ _ (and_from _ _ (le-leb (length list) most h) k)

-- words of which the first is taken where it is a key

-- the next word was taken: it is a key
pub record TakenKey (old new : List (List ℕ)) (key : List ℕ) : Type 0 where
  pub words_are : old ≡ key ∷ new
  pub is_key : is_none (key_fault key) ≡ true

Some-same : {A : Type 0} (a b : A) → Some a ≡ Some b → a ≡ b
Some-same a b h = cc

taken_by : (b : Bool) (word key : List ℕ) (more new : List (List ℕ)) → is_none (key_fault word) ≡ b
    → option_map {U = List ℕ × List (List ℕ)} (λ a. (a, more)) (cond b (Some word) None) ≡ Some (key, new) → TakenKey (word ∷ more) new key
taken_by false word key more new is h = cc
taken_by true word key more new is h =
    let pair = Some-same {A = List ℕ × List (List ℕ)} (word, more) (key, new) h in
    let same : word ≡ key = ap (λ p. p.0) pair in
    let left : more ≡ new = ap (λ p. p.1) pair in
    record { words_are = rw (same, left) refl; is_key = rw same at is }

pub TakenKey-from : (old new : List (List ℕ)) (key : List ℕ) → part_read (one key_word) old ≡ Some (key, new) → TakenKey old new key
unfolding key_word
TakenKey-from [] new key h = cc
TakenKey-from (word ∷ more) new key h = taken_by (is_none (key_fault word)) word key more new refl h

some-read : (o : Option (List ℕ × List (List ℕ))) (new : List (List ℕ)) (r : Option (List ℕ)) → o ≡ option_map (λ key. (key, new)) r → (key : List ℕ) → r ≡ Some key
    → o ≡ Some (key, new)
some-read o new r h key some = rw some at h

none-read : (o : Option (List ℕ × List (List ℕ))) (new : List (List ℕ)) (r : Option (List ℕ)) → o ≡ option_map (λ key. (key, new)) r → r ≡ None → o ≡ None
none-read o new None h none = h
none-read o new (Some key) h none = cc

-- a count goes on with a key that was taken
pub one_more : (list old new : List (List ℕ)) (count : ℕ) (r : Option (List ℕ)) → count + length old ≡ length list → are_keys list ≡ are_keys old
    → part_read (one key_word) old ≡ option_map (λ key. (key, new)) r → (key : List ℕ) → r ≡ Some key
    → (count + 1 + length new ≡ length list) × (are_keys list ≡ are_keys new)
one_more list old new count r counted keys read key some =
    let first = TakenKey-from old new key (some-read _ new r read key some) in
    let len : length old ≡ 1 + length new = omega (arith, ap length first.words_are) in
    (omega (arith, counted, len), keys ∙ ap are_keys first.words_are ∙ rw first.is_key refl)

first_is_no_key : (word : List ℕ) (more : List (List ℕ)) (b : Bool) → is_none (key_fault word) ≡ b → option_map {U = List ℕ × List (List ℕ)} (λ a. (a, more)) (cond b (Some word) None) ≡ None
    → are_keys (word ∷ more) ≡ false
first_is_no_key word more true is h = cc
first_is_no_key word more false is h = rw is refl

some-left : (word : List ℕ) (more : List (List ℕ)) → (length (word ∷ more) == 0) ≡ false
some-left word more = ne_eqb _ _ (λ h. omega (arith, h))

-- the count where no further key is taken, by whether a word is left
pub stopped : (most count : ℕ) (list old : List (List ℕ)) (r : Option (List ℕ)) (new : List (List ℕ)) → count + length old ≡ length list → are_keys list ≡ are_keys old
    → count ≤ most → part_read (one key_word) old ≡ option_map (λ key. (key, new)) r → r ≡ None
    → key_count most list ≡ then_some (length old == 0) count
unfolding key_word
stopped most count list [] r new counted keys fits read none =
    let len : length list ≡ count = omega (arith, counted) in
    rw (key_count-all most list (omega (arith, len, fits)) keys, len) refl
stopped most count list (word ∷ more) r new counted keys fits read none =
    rw (some-left word more) (key_count-bad most list (keys ∙ first_is_no_key word more (is_none (key_fault word)) refl (none-read _ new r read none)))

-- the count where all keys that may be were taken, by whether a word is left
pub all_taken : (most count : ℕ) (list old : List (List ℕ)) → count + length old ≡ length list → are_keys list ≡ are_keys old → count ≡ most
    → key_count most list ≡ then_some (length old == 0) most
all_taken most count list [] counted keys is =
    let len : length list ≡ most = omega (arith, counted, is) in
    rw (key_count-all most list (omega (arith, len)) keys, len) refl
all_taken most count list (word ∷ more) counted keys is = rw (some-left word more) (key_count-above most list (omega (arith, counted, is)))

-- what is known of words that were counted
pub record Counted (most : ℕ) (list : List (List ℕ)) (count : ℕ) : Type 0 where
  pub count_is : count ≡ length list
  pub fits : length list ≤ most
  pub all_keys : are_keys list ≡ true

pub Counted-from : (most : ℕ) (list : List (List ℕ)) (count : ℕ) → key_count most list ≡ Some count → Counted most list count
unfolding key_count
Counted-from most list count h =
    let p = cond_some (leb (length list) most && are_keys list) (length list) count h in
    let q = and_parts (leb (length list) most) (are_keys list) p.0 in
    record { count_is = sym p.1; fits = leb-true _ _ q.0; all_keys = q.1 }

pub AreKeys-from : (list : List (List ℕ)) → are_keys list ≡ true → AreKeys list
AreKeys-from [] h = All-nil IsKey
AreKeys-from (word ∷ more) h =
    let p = and_parts (is_none (key_fault word)) (are_keys more) h in
    All-cons IsKey word more (none-from_true (key_fault word) p.0) (AreKeys-from more p.1)

-- the words where no key stands first

pub at_most_keys-stopped : (most : ℕ) (old new : List (List ℕ)) (r : Option (List ℕ)) → part_read (one key_word) old ≡ option_map (λ key. (key, new)) r → r ≡ None
    → at_most_keys most old ≡ then_some (length old == 0) []
unfolding key_word at_most_keys
at_most_keys-stopped most [] new r read none = cond-at_true _ _ (and_from _ _ (le-leb 0 most (omega arith)) refl)
at_most_keys-stopped most (word ∷ more) new r read none =
    rw (some-left word more)
    (cond-at_false _ _ (and_right (leb (length (word ∷ more)) most) _ (first_is_no_key word more (is_none (key_fault word)) refl (none-read _ new r read none))))

-- the words where one does, and others are counted

are_keys-taken : (old new : List (List ℕ)) (key : List ℕ) → TakenKey old new key → are_keys old ≡ are_keys new
are_keys-taken old new key taken = ap are_keys taken.words_are ∙ rw taken.is_key refl

length-taken : (old new : List (List ℕ)) (key : List ℕ) → TakenKey old new key → length old ≡ 1 + length new
length-taken old new key taken = let len = ap length taken.words_are in omega (arith, len)

pub at_most_keys-no_room : (most : ℕ) (old new : List (List ℕ)) (key : List ℕ) → TakenKey old new key → most ≡ 0 → at_most_keys most old ≡ None
unfolding at_most_keys
at_most_keys-no_room most old new key taken none =
    let len = length-taken old new key taken in
    cond-at_false _ _ (and_left _ (are_keys old) (lt-leb (length old) most (omega (arith, len, none))))

pub at_most_keys-none : (most left : ℕ) (old new : List (List ℕ)) (key : List ℕ) → TakenKey old new key → 1 + left ≡ most → key_count left new ≡ None
    → at_most_keys most old ≡ None
unfolding key_count at_most_keys
at_most_keys-none most left old new key taken is none =
    let len = length-taken old new key taken in
    cond-at_false _ _
    (⊎_elim (λ over. and_left _ (are_keys old) (lt-leb (length old) most (omega (arith, len, is, leb-false (length new) left over))))
    (λ bad. and_right (leb (length old) most) _ (are_keys-taken old new key taken ∙ bad))
    (and_cases (leb (length new) left) (are_keys new) (cond-none (leb (length new) left && are_keys new) (length new) none)))

-- What is known of keys that were counted.
pub record CountedKeys (most : ℕ) (list : List (List ℕ)) (count : ℕ) : Type 0 where
  pub count_is : count ≡ length list
  pub fits : count ≤ most
  pub are_keys : AreKeys list
  pub found : at_most_keys most list ≡ Some list

pub CountedKeys-from : (most left count : ℕ) (old new : List (List ℕ)) (key : List ℕ) → TakenKey old new key → 1 + left ≡ most → key_count left new ≡ Some count
    → CountedKeys most old (1 + count)
unfolding at_most_keys
CountedKeys-from most left count old new key taken is counted =
    let known = Counted-from left new count counted in
    let len = length-taken old new key taken in
    let all = are_keys-taken old new key taken ∙ known.all_keys in
    let few : length old ≤ most = omega (arith, len, is, known.fits) in
    record {
      count_is = omega (arith, len, known.count_is);
      fits = omega (arith, len, is, known.fits, known.count_is);
      are_keys = AreKeys-from old all;
      found = cond-at_true _ _ (and_from _ _ (le-leb (length old) most few) all);
    }

-- how many words are asked for

-- what is known of words that were found to be keys, at most so many
record Found (most : ℕ) (list keys : List (List ℕ)) : Type 0 where
  pub same : list ≡ keys
  pub fits : length list ≤ most
  pub all_keys : are_keys list ≡ true

Found-from : (most : ℕ) (list keys : List (List ℕ)) → at_most_keys most list ≡ Some keys → Found most list keys
unfolding at_most_keys
Found-from most list keys h =
    let p = cond_some (leb (length list) most && are_keys list) list keys h in
    let q = and_parts (leb (length list) most) (are_keys list) p.0 in
    record { same = p.1; fits = leb-true _ _ q.0; all_keys = q.1 }

pub keys_counted-none : (number : ℕ) (list : List (List ℕ)) → at_most_keys number list ≡ None → keys_counted number list ≡ None
unfolding at_most_keys keys_counted
keys_counted-none number list h =
    cond-at_false _ _
    (⊎_elim (λ over. and_left _ (are_keys list) (ne_eqb _ _ (λ same. omega (arith, leb-false (length list) number over, same))))
    (λ bad. and_right (eqb (length list) number) _ bad)
    (and_cases (leb (length list) number) (are_keys list) (cond-none (leb (length list) number && are_keys list) list h)))

pub keys_counted-other : (number count : ℕ) (list keys : List (List ℕ)) → at_most_keys number list ≡ Some keys → count ≡ length keys → (count ≡ number → ⊥)
    → keys_counted number list ≡ None
unfolding keys_counted
keys_counted-other number count list keys found is h =
    let known = Found-from number list keys found in
    cond-at_false _ _ (and_left _ (are_keys list) (ne_eqb _ _ (λ same. h (is ∙ ap length (sym known.same) ∙ same))))

pub keys_counted-all : (number count : ℕ) (list keys : List (List ℕ)) → at_most_keys number list ≡ Some keys → count ≡ length keys → count ≡ number
    → keys_counted number list ≡ Some keys
unfolding keys_counted
keys_counted-all number count list keys found is h =
    let known = Found-from number list keys found in
    cond-at_true _ _ (and_from _ _ (eq-eqb _ _ (ap length known.same ∙ sym is ∙ h)) known.all_keys) ∙ ap Some known.same

pub keys_up_to-none : (most : ℕ) (list : List (List ℕ)) → at_most_keys most list ≡ None → keys_up_to most list ≡ None
unfolding at_most_keys keys_up_to
keys_up_to-none most list h =
    cond-at_false _ _
    (⊎_elim (λ over. and_left _ (are_keys list) (and_right (ltb 0 (length list)) _ over))
    (λ bad. and_right (ltb 0 (length list) && leb (length list) most) _ bad)
    (and_cases (leb (length list) most) (are_keys list) (cond-none (leb (length list) most && are_keys list) list h)))

pub keys_up_to-empty : (most count : ℕ) (list keys : List (List ℕ)) → at_most_keys most list ≡ Some keys → count ≡ length keys → count ≡ 0 → keys_up_to most list ≡ None
unfolding keys_up_to
keys_up_to-empty most count list keys found is h =
    let known = Found-from most list keys found in
    let none : length list ≤ 0 = omega (arith, ap length known.same, is, h) in
    cond-at_false _ _ (and_left _ (are_keys list) (and_left _ (leb (length list) most) (le-ltb 0 (length list) none)))

pub keys_up_to-all : (most count : ℕ) (list keys : List (List ℕ)) → at_most_keys most list ≡ Some keys → count ≡ length keys → 0 < count → keys_up_to most list ≡ Some keys
unfolding keys_up_to
keys_up_to-all most count list keys found is h =
    let known = Found-from most list keys found in
    let some : 0 < length list = omega (arith, ap length known.same, is, h) in
    cond-at_true _ _ (and_from _ _ (and_from _ _ (lt-ltb 0 (length list) some) (le-leb (length list) most known.fits)) known.all_keys) ∙ ap Some known.same

-- the words that are left are keys, where all were

pub AreKeys-first : (first empty : Option (Bor (List ℕ))) (list : List (List ℕ)) → empty ≡ None → AreKeys (words_left first list) → AreKeys (words_left empty list)
AreKeys-first None empty list none keys = rw none keys
AreKeys-first (Some word) empty list none keys = rw none (All-tail IsKey word.now list keys)

AreKeys-next : (old new : List (List ℕ)) (first : Option (Bor (List ℕ))) → YieldsFirstRef (λ left. left) old first new → AreKeys old → AreKeys new
AreKeys-next old new None h keys = rw h.1 (All-nil IsKey)
AreKeys-next old new (Some word) h keys = All-tail IsKey word.now new (rw h at keys)

pub AreKeys-left : (first empty : Option (Bor (List ℕ))) (old new : List (List ℕ)) (next : Option (Bor (List ℕ))) → None ≡ first → empty ≡ None
    → YieldsFirstRef (λ left. left) old next new → AreKeys (words_left first old) → AreKeys (words_left empty new)
AreKeys-left first empty old new next none gone_is steps keys = rw gone_is (AreKeys-next old new next steps (rw (sym none) at keys))
