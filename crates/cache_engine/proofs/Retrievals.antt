-- What retrievals answer and leave, as steps of the machine.
use Rattle.std.proofs.Common.{◌≡◌, ◌<◌, ◌^◌, ℕ, Bool, true, false, cond, ◌||◌, max, List, [], ◌∷◌, ◌++◌, length, Option, Some, None, bytes_eq, inl, refl, sym, ap, ◌∙◌, subst}
use Rattle.std.proofs.lemmas.Bool.{or_right, or_parts}
use Rattle.std.specs.Option.{option_map_or}
use Rattle.arc_core.specs.declared.replies.ValueRow.{ValueRow}
use Rattle.arc_core.specs.declared.replies.Reply.TheVariants as reply
use Rattle.arc_core.specs.PlainRequest as act
use Rattle.arc_core.specs.Item.{Item, expiry_of, has_expired}
use Rattle.arc_core.specs.Places.{Places, found, brought_to_front, without}
use Rattle.arc_core.specs.CacheState.{CacheState, ArePlaced}
use Rattle.arc_core.specs.Step.{unexpired, without_expired, used, used_at, rows_of_item, rows_of}
use Rattle.byte_account.proofs.ShelfLists.{own_key, same_key}
use Rattle.byte_account.proofs.FoundLaws.{found-brought_to_front, found-without_apart, touched-absent}
use Rattle.cache_engine.specs.Starting.{live_of}
use Rattle.cache_engine.specs.Retrieving.{live_rows, is_late, some_late, is_among, AreLive}
use Rattle.cache_engine.specs.Acting.{Acts}
use Rattle.arc_core.specs.Words.{AreKeys}
use Rattle.arc_core.specs.ReplyText.{reply_text}
use Rattle.cache_engine.proofs.ItemPlaces.{ArePlaced-without}
use Rattle.cache_engine.proofs.Texts.{retrieval_short}
use Rattle.cache_engine.proofs.Finishing.{found_live}

-- USING KEYS

used_by : (latest : ℕ) (key : List ℕ) (places : Places Item) (o : Option Item) (late : Bool) → found key places ≡ o → ((item : Item) → o ≡ Some item → has_expired latest (expiry_of item) ≡ late) → o ≡ live_of latest o
    → used_at latest key o places ≡ brought_to_front key places
used_by latest key places None late h time lives = sym (touched-absent key places h)
used_by latest key places (Some item) false h time lives = ap (λ b. cond b places (brought_to_front key places)) (time item refl)
used_by latest key places (Some item) true h time lives = absurd (let k : ◌≡◌ {A = Option Item} (Some item) None = lives ∙ ap (λ b. cond b None (Some item)) (time item refl) in cc)

is_late_at : (latest : ℕ) (o : Option Item) (item : Item) → o ≡ Some item → has_expired latest (expiry_of item) ≡ is_late latest o
is_late_at latest o item h = sym (ap (is_late latest) h)

pub record UsesOn (latest : ℕ) (rest left : List (List ℕ)) (old new : Places Item) : Type 0 where
  pub so_far : used latest rest new ≡ used latest left old
  pub live : AreLive latest rest new

pub uses_on : (latest : ℕ) (key : List ℕ) (left rest : List (List ℕ)) (old new : Places Item) → left ≡ key ∷ rest → new ≡ brought_to_front key old → AreLive latest left old → UsesOn latest rest left old new
uses_on latest key left rest old new next e live =
    let at : AreLive latest (key ∷ rest) old = subst (λ l. AreLive latest l old) next live in
    let own : found key old ≡ live_of latest (found key old) = at key (ap (λ b. b || is_among key rest) (own_key key)) in
    let same = used_by latest key old (found key old) (is_late latest (found key old)) refl (is_late_at latest (found key old)) own in
    record {
      so_far = ap (used latest rest) (e ∙ sym same) ∙ sym (ap (λ l. used latest l old) next);
      live = λ q among.
          let was = at q (or_right (bytes_eq q key) (is_among q rest) among) in
          ap (found q) e ∙ found-brought_to_front key q old ∙ was ∙ ap (live_of latest) (sym (found-brought_to_front key q old) ∙ ap (found q) (sym e));
    }

-- WHAT HAS NOT EXPIRED

live_twice_by : (latest : ℕ) (item : Item) (late : Bool) → has_expired latest (expiry_of item) ≡ late → live_of latest (live_of latest (Some item)) ≡ live_of latest (Some item)
live_twice_by latest item true e = ap (live_of latest) (ap (λ b. cond b None (Some item)) e) ∙ sym (ap (λ b. cond b None (Some item)) e)
live_twice_by latest item false e = ap (live_of latest) (ap (λ b. cond b None (Some item)) e)

live_twice : (latest : ℕ) (o : Option Item) → live_of latest (live_of latest o) ≡ live_of latest o
live_twice latest None = refl
live_twice latest (Some item) = live_twice_by latest item (has_expired latest (expiry_of item)) refl

module _ (latest : ℕ) where
  apart_by : (q key : List ℕ) (places : Places Item) (o : Option Item) (late : Bool) → bytes_eq q key ≡ false → ((item : Item) → o ≡ Some item → has_expired latest (expiry_of item) ≡ late) → found q (without_expired latest key o places) ≡ found q places
  apart_by q key places None late apart time = refl
  apart_by q key places (Some item) true apart time = ap (λ b. found q (cond b (without key places) places)) (time item refl) ∙ found-without_apart key places q apart
  apart_by q key places (Some item) false apart time = ap (λ b. found q (cond b (without key places) places)) (time item refl)

  -- the start of a step for one key leaves what is under another
  start_apart : (q key : List ℕ) (places : Places Item) → bytes_eq q key ≡ false → found q (unexpired latest (key ∷ []) places) ≡ found q places
  start_apart q key places apart = apart_by q key places (found key places) (is_late latest (found key places)) apart (is_late_at latest (found key places))

  start_own : (q key : List ℕ) (places : Places Item) → bytes_eq q key ≡ true → found q (unexpired latest (key ∷ []) places) ≡ live_of latest (found q places)
  start_own q key places own = subst (λ k. found k (unexpired latest (key ∷ []) places) ≡ live_of latest (found k places)) (sym (same_key q key own)) (found_live latest key places)

  step_keeps_by : (q key : List ℕ) (places : Places Item) (own : Bool) → bytes_eq q key ≡ own → live_of latest (found q (unexpired latest (key ∷ []) places)) ≡ live_of latest (found q places)
  step_keeps_by q key places true e = ap (live_of latest) (start_own q key places e) ∙ live_twice latest (found q places)
  step_keeps_by q key places false e = ap (live_of latest) (start_apart q key places e)

  keeps : (q : List ℕ) (keys : List (List ℕ)) (places : Places Item) → live_of latest (found q (unexpired latest keys places)) ≡ live_of latest (found q places)
  keeps q [] places = refl
  keeps q (key ∷ keys) places = keeps q keys (unexpired latest (key ∷ []) places) ∙ step_keeps_by q key places (bytes_eq q key) refl

  stays_by : (q key : List ℕ) (places : Places Item) (own : Bool) → bytes_eq q key ≡ own → found q places ≡ live_of latest (found q places) → found q (unexpired latest (key ∷ []) places) ≡ live_of latest (found q (unexpired latest (key ∷ []) places))
  stays_by q key places true e lives = start_own q key places e ∙ sym (live_twice latest (found q places)) ∙ ap (live_of latest) (sym (start_own q key places e))
  stays_by q key places false e lives = start_apart q key places e ∙ lives ∙ ap (live_of latest) (sym (start_apart q key places e))

  -- what has not expired stays so
  stays : (q : List ℕ) (keys : List (List ℕ)) (places : Places Item) → found q places ≡ live_of latest (found q places) → found q (unexpired latest keys places) ≡ live_of latest (found q (unexpired latest keys places))
  stays q [] places lives = lives
  stays q (key ∷ keys) places lives = stays q keys (unexpired latest (key ∷ []) places) (stays_by q key places (bytes_eq q key) refl lives)

  among_by : (q key : List ℕ) (keys : List (List ℕ)) (places : Places Item) (own : Bool) → bytes_eq q key ≡ own → (own || is_among q keys) ≡ true → (is_among q keys ≡ true → found q (unexpired latest keys (unexpired latest (key ∷ []) places)) ≡ live_of latest (found q (unexpired latest keys (unexpired latest (key ∷ []) places))))
      → found q (unexpired latest keys (unexpired latest (key ∷ []) places)) ≡ live_of latest (found q (unexpired latest keys (unexpired latest (key ∷ []) places)))
  among_by q key keys places true e among rest = stays q keys (unexpired latest (key ∷ []) places) (start_own q key places e ∙ sym (live_twice latest (found q places)) ∙ ap (live_of latest) (sym (start_own q key places e)))
  among_by q key keys places false e among rest = rest among

  -- no named key has an expired item after the start of a step
  pub start_is_live : (keys : List (List ℕ)) (places : Places Item) → AreLive latest keys (unexpired latest keys places)
  start_is_live [] places q among = absurd (cc)
  start_is_live (key ∷ keys) places q among = among_by q key keys places (bytes_eq q key) refl among (start_is_live keys (unexpired latest (key ∷ []) places) q)

  rows_by : (unique : Bool) (start places : Places Item) (keys : List (List ℕ)) → ((q : List ℕ) → is_among q keys ≡ true → found q start ≡ live_of latest (found q places)) → rows_of unique start keys ≡ live_rows unique latest places keys
  rows_by unique start places [] same = refl
  rows_by unique start places (key ∷ keys) same =
      let rest = rows_by unique start places keys (λ q among. same q (or_right (bytes_eq q key) (is_among q keys) among)) in
      λ i. option_map_or (rows_of_item unique key) (same key (ap (λ b. b || is_among key keys) (own_key key)) i) [] ++ rest i

  -- the rows of what is held at the start of a step
  pub rows_live : (unique : Bool) (keys : List (List ℕ)) (places : Places Item) → rows_of unique (unexpired latest keys places) keys ≡ live_rows unique latest places keys
  rows_live unique keys places = rows_by unique (unexpired latest keys places) places keys (λ q among. start_is_live keys places q among ∙ keeps q keys places)

  none_late_by : (key : List ℕ) (places : Places Item) (o : Option Item) → is_late latest o ≡ false → without_expired latest key o places ≡ places
  none_late_by key places None e = refl
  none_late_by key places (Some item) e = ap (λ b. cond b (without key places) places) e

  -- where no item has expired, the start of a step changes none
  pub none_late : (keys : List (List ℕ)) (places : Places Item) → some_late latest places keys ≡ false → unexpired latest keys places ≡ places
  none_late [] places h = refl
  none_late (key ∷ keys) places h =
      let parts = or_parts (is_late latest (found key places)) (some_late latest places keys) h in
      ap (unexpired latest keys) (none_late_by key places (found key places) parts.0) ∙ none_late keys places parts.1

late_by : (latest : ℕ) (key : List ℕ) (places : Places Item) (o : Option Item) → ArePlaced places → ArePlaced (without_expired latest key o places)
late_by latest key places None are = are
late_by latest key places (Some item) are = elim (has_expired latest (expiry_of item)) as (λ b. ArePlaced (cond b (without key places) places)) [
  | true ↦ ArePlaced-without key places are
  | false ↦ are
]

-- the items at the start of a step keep their rules
ArePlaced-unexpired : (latest : ℕ) (keys : List (List ℕ)) (places : Places Item) → ArePlaced places → ArePlaced (unexpired latest keys places)
ArePlaced-unexpired latest [] places are = are
ArePlaced-unexpired latest (key ∷ keys) places are = ArePlaced-unexpired latest keys (unexpired latest (key ∷ []) places) (late_by latest key places (found key places) are)

-- the answer's text is below 2^64 bytes
pub answer_short : (unique : Bool) (latest : ℕ) (keys : List (List ℕ)) (places : Places Item) (rows : List ValueRow) → ArePlaced places → AreKeys keys → length keys < 2 ^ 32 → rows ≡ live_rows unique latest places keys → length (reply_text (reply.Values rows)) < 2 ^ 64
answer_short unique latest keys places rows are words few e =
    subst (λ r. length (reply_text (reply.Values r)) < 2 ^ 64) (rows_live latest unique keys places ∙ sym e)
    (retrieval_short unique (unexpired latest keys places) keys (ArePlaced-unexpired latest keys places are).items words few)

pub retrieved : (old : CacheState) (now : ℕ) (keys : List (List ℕ)) (unique : Bool) (new : CacheState) (rows : List ValueRow) → rows ≡ live_rows unique (max old.latest now) old.places keys
    → new ≡ record old { latest = max old.latest now; places = used (max old.latest now) keys (unexpired (max old.latest now) keys old.places) } → Acts old now (act.get keys unique) (reply.Values rows) new
retrieved old now keys unique new rows r e = inl (λ i. (sym e i, reply.Values ((rows_live (max old.latest now) unique keys old.places ∙ sym r) i)))
