-- Room: what it is by the bytes that have to be freed, that it is the least, and that evicting it makes the room.
use Rattle.std.proofs.Common.{◌≡◌, ℕ, suc, ◌+◌, ◌-◌, ◌<◌, ◌≤◌, Bool, true, false, cond, List, [], ◌∷◌, length, drop, Option, Some, None, option_map, nat_le, ℤ, pos, negsuc, ◌≤ℤ◌, refl, sym, ap, ◌∙◌, subst, inl, inr, arith}
use Rattle.std.proofs.lemmas.Bool.{le-leb, cases_lt}
use Rattle.std.proofs.lemmas.Int.{ints}
use Rattle.std.specs.Option.{option_or, unwrap_or}
use Rattle.std.proofs.lemmas.List.{append-nil}
use Rattle.arc_core.specs.Places.{Places, others, weight_of, total_of, sticky_total_of}
use Rattle.arc_core.specs.Room.{shortest_suffix, fits, share_fits, least_eviction, room}
use Rattle.byte_account.specs.declared.room.Room.{Room}
use Rattle.byte_account.specs.declared.room.Room.TheVariants.{Fits, Nothing}
use Rattle.byte_account.specs.ShelfWords.{room_answer, added_by}
use Rattle.byte_account.specs.Accounting.{IsAccounted, IsWithinShare}
use Rattle.byte_account.proofs.EvictionLemmas.{lt-leb-false}
use Rattle.byte_account.specs.LeastEviction.{last_of, IsLeastEviction}
use Rattle.byte_account.proofs.RoomLemmas.{is_enough, shortest_suffix-front}

-- two tests that say the same of their numbers are one
same_test : (a b c d : ℕ) → (a ≤ b → c ≤ d) → (c ≤ d → a ≤ b) → nat_le a b ≡ nat_le c d
same_test a b c d there back = elim (cases_lt b a) [
  | inl below ↦ lt-leb-false b a below ∙ sym (lt-leb-false d c (elim (cases_lt d c) [ inl h ↦ h | inr h ↦ absurd (let up : a ≤ b = back h in omega arith) ]))
  | inr up ↦ le-leb a b up ∙ sym (le-leb c d (there up))
]

-- what is added fits once so much is freed as passes what is spare
fits-by_need : (limit total : ℕ) (extra : ℤ) (freed : ℕ) → total ≤ limit → fits limit total extra freed ≡ nat_le (added_by extra - (limit - total)) freed
fits-by_need limit total (pos extra) freed within = same_test (total + extra) (limit + freed) (extra - (limit - total)) freed (λ h. omega arith) (λ h. omega arith)
fits-by_need limit total (negsuc less) freed within = same_test total (limit + freed + suc less) (0 - (limit - total)) freed (λ h. omega arith) (λ h. omega arith)

module _ {X : Type 0} (weigh : List ℕ → X → ℕ) where
  least_eviction-by_need : (places : Places X) (total : ℕ) (key : List ℕ) (extra : ℤ) → IsAccounted weigh places total
      → least_eviction weigh places key extra ≡ shortest_suffix (is_enough weigh (added_by extra - (places.limit - total))) (others key places.shelf)
  least_eviction-by_need places total key extra accounted =
      let within : total_of weigh places ≤ places.limit = subst (λ n. n ≤ places.limit) accounted.sum accounted.within in
      let same : (suffix : List (List ℕ × X)) → fits places.limit (total_of weigh places) extra (weight_of weigh suffix) ≡ is_enough weigh (added_by extra - (places.limit - total)) suffix =
      λ suffix. fits-by_need places.limit (total_of weigh places) extra (weight_of weigh suffix) within
      ∙ ap (λ n. nat_le (added_by extra - (places.limit - n)) (weight_of weigh suffix)) (sym accounted.sum) in
      λ i. shortest_suffix (λ suffix. same suffix i) (others key places.shelf)

  -- what a search for so many bytes found is the least eviction
  pub least_eviction-from_need : (places now : Places X) (total : ℕ) (key : List ℕ) (extra : ℤ) (need : ℕ) (found : Option ℕ) → IsAccounted weigh places total → places ≡ now → need ≡ added_by extra - (places.limit - total)
      → found ≡ option_map length (shortest_suffix (is_enough weigh need) (others key places.shelf)) → found ≡ option_map length (least_eviction weigh now key extra)
  least_eviction-from_need places now total key extra need found accounted same need_is found_is =
      found_is ∙ ap (λ n. option_map length (shortest_suffix (is_enough weigh n) (others key places.shelf))) need_is
      ∙ ap (option_map length) (sym (least_eviction-by_need places total key extra accounted)) ∙ ap (λ p. option_map length (least_eviction weigh p key extra)) same

  -- the share is kept where what is added to the sticky items is no more than what is spare of it
  pub share_fits-by_spare : (places now : Places X) (sticky_total : ℕ) (sticky_extra : ℤ) → IsWithinShare weigh places sticky_total → places ≡ now
      → share_fits weigh now sticky_extra ≡ nat_le (added_by sticky_extra) (places.share - sticky_total)
  share_fits-by_spare places now sticky_total sticky_extra shared same =
      let within : sticky_total_of weigh places ≤ places.share = subst (λ n. n ≤ places.share) shared.sum shared.within in
      ap (λ p. share_fits weigh p sticky_extra) (sym same)
      ∙ fits-by_need places.share (sticky_total_of weigh places) sticky_extra 0 within
      ∙ ap (λ n. nat_le (added_by sticky_extra - (places.share - n)) 0) (sym shared.sum)
      ∙ same_test (added_by sticky_extra - (places.share - sticky_total)) 0 (added_by sticky_extra) (places.share - sticky_total) (λ h. omega arith) (λ h. omega arith)

-- what was searched for is room
module _ {X : Type 0} (weigh : List ℕ → X → ℕ) (places now : Places X) (total sticky_total : ℕ) (key : List ℕ) (extra sticky_extra : ℤ) (more sticky_more : ℕ) (accounted : IsAccounted weigh places total) (shared : IsWithinShare weigh places sticky_total) (same : places ≡ now)
    (more_is : more ≡ added_by extra) (sticky_more_is : sticky_more ≡ added_by sticky_extra) where
  pub evictions_past_share : places.share - sticky_total < sticky_more → None ≡ option_map length (room weigh now key extra sticky_extra)
  evictions_past_share past =
      let broken : share_fits weigh now sticky_extra ≡ false =
      share_fits-by_spare weigh places now sticky_total sticky_extra shared same ∙ ap (λ n. nat_le n (places.share - sticky_total)) (sym sticky_more_is) ∙ lt-leb-false (places.share - sticky_total) sticky_more past in
      sym (ap (λ b. option_map length (cond b (least_eviction weigh now key extra) None)) broken)

  pub evictions_by : sticky_more ≤ places.share - sticky_total → (need : ℕ) → need ≡ more - (places.limit - total) → (found : Option ℕ) → found ≡ option_map length (shortest_suffix (is_enough weigh need) (others key places.shelf))
      → found ≡ option_map length (room weigh now key extra sticky_extra)
  evictions_by within need need_is found found_is =
      let kept : share_fits weigh now sticky_extra ≡ true =
      share_fits-by_spare weigh places now sticky_total sticky_extra shared same ∙ ap (λ n. nat_le n (places.share - sticky_total)) (sym sticky_more_is) ∙ le-leb sticky_more (places.share - sticky_total) within in
      least_eviction-from_need weigh places now total key extra need found accounted same (need_is ∙ ap (λ n. n - (places.limit - total)) more_is) found_is
      ∙ sym (ap (λ b. option_map length (cond b (least_eviction weigh now key extra) None)) kept)

fits_from_count : {A : Type 0} (n : ℕ) (suffix : Option (List A)) → Some n ≡ option_map length suffix → Fits n ≡ room_answer suffix
fits_from_count n None h = absurd (cc)
fits_from_count n (Some suffix) h = ap Fits (let same : n ≡ length suffix = cc in same)

nothing_from_count : {A : Type 0} (suffix : Option (List A)) → None ≡ option_map (length {A = A}) suffix → Nothing ≡ room_answer suffix
nothing_from_count None h = refl
nothing_from_count (Some suffix) h = absurd (cc)

-- The shortest suffix that is enough.

pub last_of-cons : {A : Type 0} (k : ℕ) (x : A) (xs : List A) → k ≤ length xs → last_of k (x ∷ xs) ≡ last_of k xs
last_of-cons k x xs few = ap (λ n. drop n (x ∷ xs)) (let more : length (x ∷ xs) - k ≡ suc (length xs - k) = omega arith in more)

pub last_of-whole : {A : Type 0} (k : ℕ) (xs : List A) → k ≡ length xs → last_of k xs ≡ xs
last_of-whole k xs whole = ap (λ n. drop n xs) (let none : length xs - k ≡ 0 = omega arith in none)

none_first : {A : Type 0} (a b : Option A) → option_or a b ≡ None → a ≡ None
none_first None b h = refl
none_first (Some x) b h = h

none_second : {A : Type 0} (a b : Option A) → option_or a b ≡ None → b ≡ None
none_second None b h = h
none_second (Some x) b h = absurd (cc)

not_enough : {A : Type 0} (b : Bool) (xs : List A) → cond b (Some xs) None ≡ None → b ≡ false
not_enough true xs h = absurd (cc)
not_enough false xs h = refl

-- where there is none, no suffix is enough
pub shortest_suffix-none_enough : {A : Type 0} (enough : List A → Bool) (xs : List A) → shortest_suffix enough xs ≡ None → (k : ℕ) → k ≤ length xs → enough (last_of k xs) ≡ false
shortest_suffix-none_enough enough [] none k few = ap enough (last_of-whole k [] (omega arith)) ∙ not_enough (enough []) [] none
shortest_suffix-none_enough enough (x ∷ xs) none k few = elim (cases_lt (length xs) k) [
  | inl whole ↦ ap enough (last_of-whole k (x ∷ xs) (omega arith)) ∙ not_enough (enough (x ∷ xs)) (x ∷ xs) (none_second (shortest_suffix enough xs) _ none)
  | inr part ↦ ap enough (last_of-cons k x xs part) ∙ shortest_suffix-none_enough enough xs (none_first (shortest_suffix enough xs) _ none) k part
]

-- The suffix is the last places, is enough, and no shorter one is.
pub record IsShortest {A : Type 0} (enough : List A → Bool) (xs suffix : List A) : Type 0 where
  pub short : length suffix ≤ length xs
  pub last : last_of (length suffix) xs ≡ suffix
  pub suffices : enough suffix ≡ true
  pub least : (k : ℕ) → k < length suffix → enough (last_of k xs) ≡ false

same_suffix : {A : Type 0} (xs ys : List A) → Some xs ≡ Some ys → xs ≡ ys
same_suffix xs ys h = ap (λ o. unwrap_or o xs) h

shortest_whole : {A : Type 0} (enough : List A → Bool) (x : A) (xs suffix : List A) (b : Bool) → enough (x ∷ xs) ≡ b → shortest_suffix enough xs ≡ None → cond b (Some (x ∷ xs)) None ≡ Some suffix → IsShortest enough (x ∷ xs) suffix
shortest_whole enough x xs suffix true e none h =
    let same : x ∷ xs ≡ suffix = same_suffix (x ∷ xs) suffix h in
    let count : length (x ∷ xs) ≡ length suffix = ap length same in
    record {
      short = omega arith;
      last = last_of-whole (length suffix) (x ∷ xs) (sym count) ∙ same;
      suffices = ap enough (sym same) ∙ e;
      least = λ k fewer. let part : k ≤ length xs = omega arith in ap enough (last_of-cons k x xs part) ∙ shortest_suffix-none_enough enough xs none k part;
    }
shortest_whole enough x xs suffix false e none h = absurd (cc)

shortest_cons : {A : Type 0} (enough : List A → Bool) (x : A) (xs suffix : List A) → IsShortest enough xs suffix → IsShortest enough (x ∷ xs) suffix
shortest_cons enough x xs suffix s =
    let short : length suffix ≤ length xs = s.short in
    record {
      short = omega arith;
      last = last_of-cons (length suffix) x xs short ∙ s.last;
      suffices = s.suffices;
      least = λ k fewer. ap enough (last_of-cons k x xs (omega arith)) ∙ s.least k fewer;
    }

shortest_by : {A : Type 0} (enough : List A → Bool) (x : A) (xs suffix : List A) (rest : Option (List A)) → shortest_suffix enough xs ≡ rest → ((s : List A) → shortest_suffix enough xs ≡ Some s → IsShortest enough xs s)
    → option_or rest (cond (enough (x ∷ xs)) (Some (x ∷ xs)) None) ≡ Some suffix → IsShortest enough (x ∷ xs) suffix
shortest_by enough x xs suffix None e before h = shortest_whole enough x xs suffix (enough (x ∷ xs)) refl e h
shortest_by enough x xs suffix (Some s) e before h = shortest_cons enough x xs suffix (before suffix (e ∙ h))

shortest_nil : {A : Type 0} (enough : List A → Bool) (suffix : List A) (b : Bool) → enough [] ≡ b → cond b (Some []) None ≡ Some suffix → IsShortest enough [] suffix
shortest_nil enough suffix true e h =
    let same : [] ≡ suffix = same_suffix [] suffix h in
    let count : 0 ≡ length suffix = ap length same in
    record { short = omega arith; last = last_of-whole (length suffix) [] (sym count) ∙ same; suffices = ap enough (sym same) ∙ e; least = λ k fewer. absurd (omega arith) }
shortest_nil enough suffix false e h = absurd (cc)

pub IsShortest-shortest_suffix : {A : Type 0} (enough : List A → Bool) (xs suffix : List A) → shortest_suffix enough xs ≡ Some suffix → IsShortest enough xs suffix
IsShortest-shortest_suffix enough [] suffix h = shortest_nil enough suffix (enough []) refl h
IsShortest-shortest_suffix enough (x ∷ xs) suffix h = shortest_by enough x xs suffix (shortest_suffix enough xs) refl (λ s. IsShortest-shortest_suffix enough xs s) h

module _ {X : Type 0} (weigh : List ℕ → X → ℕ) (places : Places X) (key : List ℕ) (extra : ℤ) where
  abbrev room_fits : List (List ℕ × X) → Bool
  room_fits suffix = fits places.limit (total_of weigh places) extra (weight_of weigh suffix)

  module _ (sticky_extra : ℤ) where
    least_by : (suffix : Option (List (List ℕ × X))) → least_eviction weigh places key extra ≡ suffix → share_fits weigh places sticky_extra ≡ true → IsLeastEviction weigh places key extra sticky_extra (room_answer suffix)
    least_by None h kept = inr (shortest_suffix-none_enough room_fits (others key places.shelf) h)
    least_by (Some suffix) h kept =
        let s = IsShortest-shortest_suffix room_fits (others key places.shelf) suffix h in
        record { share = kept; count = s.short; enough = ap room_fits s.last ∙ s.suffices; least = s.least }

    room_by : (kept : Bool) → share_fits weigh places sticky_extra ≡ kept → IsLeastEviction weigh places key extra sticky_extra (room_answer (cond kept (least_eviction weigh places key extra) None))
    room_by true e = least_by (least_eviction weigh places key extra) refl e
    room_by false e = inl e

    -- room is the least eviction
    pub IsLeastEviction-room : IsLeastEviction weigh places key extra sticky_extra (room_answer (room weigh places key extra sticky_extra))
    IsLeastEviction-room = room_by (share_fits weigh places sticky_extra) refl

  -- where nothing is added, nothing is evicted
  pub least_eviction-nothing_added : fits places.limit (total_of weigh places) extra 0 ≡ true → least_eviction weigh places key extra ≡ Some []
  least_eviction-nothing_added kept =
      ap (shortest_suffix room_fits) (sym (append-nil (others key places.shelf)))
      ∙ shortest_suffix-front room_fits (others key places.shelf) [] [] (ap (λ b. cond b (Some []) None) kept)

  pub room-nothing_added : (sticky_extra : ℤ) → fits places.limit (total_of weigh places) extra 0 ≡ true → room weigh places key extra sticky_extra ≡ cond (share_fits weigh places sticky_extra) (Some []) None
  room-nothing_added sticky_extra kept = ap (λ o. cond (share_fits weigh places sticky_extra) o None) (least_eviction-nothing_added kept)

pub fits_nothing_added : (limit total : ℕ) (extra : ℤ) → total ≤ limit → extra ≤ℤ pos 0 → fits limit total extra 0 ≡ true
fits_nothing_added limit total (pos extra) within below = le-leb (total + extra) (limit + 0) (omega (arith, ints))
fits_nothing_added limit total (negsuc less) within below = le-leb total (limit + 0 + suc less) (omega arith)

-- the clauses, at the answer that was given
module _ {X : Type 0} (weigh : List ℕ → X → ℕ) (places : Places X) (key : List ℕ) (extra sticky_extra : ℤ) where
  pub fits_answer : (n : ℕ) → Some n ≡ option_map length (room weigh places key extra sticky_extra) → Fits n ≡ room_answer (room weigh places key extra sticky_extra)
  fits_answer n = fits_from_count n (room weigh places key extra sticky_extra)

  pub nothing_answer : None ≡ option_map length (room weigh places key extra sticky_extra) → Nothing ≡ room_answer (room weigh places key extra sticky_extra)
  nothing_answer = nothing_from_count (room weigh places key extra sticky_extra)

  pub least_answer : (answer : Room) → answer ≡ room_answer (room weigh places key extra sticky_extra) → IsLeastEviction weigh places key extra sticky_extra answer
  least_answer answer is = subst (IsLeastEviction weigh places key extra sticky_extra) (sym is) (IsLeastEviction-room weigh places key extra sticky_extra)

  none_or_nothing : (b : Bool) → room_answer {A = List ℕ × X} (cond b (Some []) None) ≡ cond b (Fits 0) Nothing
  none_or_nothing true = refl
  none_or_nothing false = refl

  pub nothing_evicted : (answer : Room) → total_of weigh places ≤ places.limit → answer ≡ room_answer (room weigh places key extra sticky_extra) → extra ≤ℤ pos 0 → answer ≡ cond (share_fits weigh places sticky_extra) (Fits 0) Nothing
  nothing_evicted answer within is below =
      is ∙ ap room_answer (room-nothing_added weigh places key extra sticky_extra (fits_nothing_added places.limit (total_of weigh places) extra within below))
      ∙ none_or_nothing (share_fits weigh places sticky_extra)
